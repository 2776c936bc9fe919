-- A run in one sort of numbers follows a run in another.
use Rattle.std.proofs.Common.{◌≡◌, ℕ, zero, suc, ◌+◌, ◌-◌, ◌≤◌, Bool, true, false, cond, not, ltb, List, [], ◌∷◌, length, drop, set, pos, Some, None, Option, sym, refl, ap, subst, ap₂, arith}
use Rattle.number.specs.Frac.{Frac, whole}
use Rattle.motion.specs.Numbers.{Numbers, exact, Divided, quot, by_zero, not_held, divide}
use Rattle.motion.specs.Lines.{Line, var_line, set_line, run_line, rate_line, if_line, else_line, while_line, end_line, Item, number, name, calculate, combine, negate, Calculation, add, sub, mul, div, lt, le, Rate, Part, Of, one, var}
use Rattle.motion.specs.Items.{Got, good, bad, bind, Value, num, truth, nth, number_at, quotient_at, truth_at, two_numbers, two_truths, one_truth, wait, combined, calculated, item, items, as_number, as_truth, number_of, truth_of}
use Rattle.motion.specs.Flow.{then, of_part, sum, next, climb, flow, parts_of}
use Rattle.motion.specs.Machine.{Bench, Answer, accepted, refused, advance, advanced, Place, at, inside, ended, Stepped, go, stop, fail, lapse, cut, whole_run, assigned, timed, started, chosen, step, after, loop, place_at, place_of, whole_ticks}
use Rattle.motion.specs.NextLine.{rates, line_at}
use Rattle.motion.specs.Carriers.{Follows, both, lost, Divides, quots, zeros, gone, Each, nil, cons, Carries, Related, Simulates, SimulationBy, Paired}
use Rattle.motion.proofs.Lasting.{numbers_agree}
use Rattle.number.specs.Frac as F

-- an answer with a fault: the same, unless it is 23 in the second
data Gots {A B : Type 0} (S : A → B → Type 0) : Got A → Got B → Type 0 where
  goods : {a : A} {b : B} → S a b → Gots S (good a) (good b)
  bads : {k f : ℕ} → Gots S (bad k f) (bad k f)
  not_got : {g : Got A} {f : ℕ} → Gots S g (bad 23 f)

bind_sim : {A B C D : Type 0} {S : A → B → Type 0} {U : C → D → Type 0} {g : Got A} {h : Got B} {f : A → Got C} {k : B → Got D} →
    Gots S g h → ((a : A) (b : B) → S a b → Gots U (f a) (k b)) → Gots U (bind g f) (bind h k)
bind_sim (goods {a = a} {b = b} s) q = q a b s
bind_sim bads q = bads
bind_sim not_got q = not_got

then_sim : {A B C D : Type 0} {S : A → B → Type 0} {U : C → D → Type 0} {g : Option A} {h : Option B} {f : A → Option C} {k : B → Option D} →
    Follows S g h → ((a : A) (b : B) → S a b → Follows U (f a) (k b)) → Follows U (then g f) (then h k)
then_sim (both {a = a} {b = b} s) q = q a b s
then_sim lost q = lost

data Vals {A B : Type 0} (R : A → B → Type 0) : Value A → Value B → Type 0 where
  nums : {a : A} {b : B} → R a b → Vals R (num a) (num b)
  truths : {x : Bool} → Vals R (truth x) (truth x)

pub each_length : {A B : Type 0} {S : A → B → Type 0} {xs : List A} {ys : List B} → Each S xs ys → length xs ≡ length ys
each_length nil = refl
each_length (cons s r) = ap suc (each_length r)

each_set : {A B : Type 0} {S : A → B → Type 0} {xs : List A} {ys : List B} {a : A} {b : B} → Each S xs ys → (x : ℕ) → S a b → Each S (set xs x a) (set ys x b)
each_set nil x s = nil
each_set (cons t r) zero s = cons s r
each_set (cons t r) (suc x) s = cons t (each_set r x s)

pub never : {A : Type 0} {k l f steps over : ℕ} {b : Bench A} → refused k l f ≡ accepted steps over b → ⊥
never {k = k} {l = l} {f = f} {steps = steps} {over = over} {b = b} p = let z : ◌≡◌ {A = ℕ} 0 1 = cc in omega arith

module _ {A B : Type 0} (M : Numbers A) (N : Numbers B) (R : A → B → Type 0) (C : Carries M N R) where
  abbrev Stacks : List (Value A) → List (Value B) → Type 0
  Stacks = Each (Vals R)

  nth_sim : {xs : List A} {ys : List B} → Each R xs ys → (x : ℕ) → Follows R (nth xs x) (nth ys x)
  nth_sim nil x = lost
  nth_sim (cons r e) zero = both r
  nth_sim (cons r e) (suc x) = nth_sim e x

  number_at_sim : {o : Option A} {p : Option B} (f : ℕ) → Follows R o p → Gots (Vals R) (number_at f o) (number_at f p)
  number_at_sim f (both r) = goods (nums r)
  number_at_sim f lost = not_got

  quotient_at_sim : {o : Divided A} {p : Divided B} (f : ℕ) → Divides R o p → Gots (Vals R) (quotient_at f o) (quotient_at f p)
  quotient_at_sim f (quots r) = goods (nums r)
  quotient_at_sim f zeros = bads
  quotient_at_sim f gone = not_got

  truth_at_sim : {o p : Option Bool} (f : ℕ) → Follows (◌≡◌ {A = Bool}) o p → Gots (Vals R) (truth_at f o) (truth_at f p)
  truth_at_sim f (both r) = rw r (goods truths)
  truth_at_sim f lost = not_got

  wait_sim : {s : List (Value A)} {t : List (Value B)} → Stacks s t → (v : Value A) (w : Value B) → Vals R v w → Gots Stacks (wait s v) (wait t w)
  wait_sim e v w r = goods (cons r e)

  -- what was taken off, and what waits below
  abbrev NumbersOff : (A × A) × List (Value A) → (B × B) × List (Value B) → Type 0
  NumbersOff p q = R p.0.0 q.0.0 × R p.0.1 q.0.1 × Stacks p.1 q.1

  abbrev TruthsOff : (Bool × Bool) × List (Value A) → (Bool × Bool) × List (Value B) → Type 0
  TruthsOff p q = (p.0.0 ≡ q.0.0) × (p.0.1 ≡ q.0.1) × Stacks p.1 q.1

  abbrev TruthOff : Bool × List (Value A) → Bool × List (Value B) → Type 0
  TruthOff p q = (p.0 ≡ q.0) × Stacks p.1 q.1

  two_numbers_sim : {s : List (Value A)} {t : List (Value B)} → Stacks s t → Gots NumbersOff (two_numbers s) (two_numbers t)
  two_numbers_sim nil = bads
  two_numbers_sim (cons truths e) = bads
  two_numbers_sim (cons (nums r) nil) = bads
  two_numbers_sim (cons (nums r) (cons truths e)) = bads
  two_numbers_sim (cons (nums r) (cons (nums q) e)) = goods (q, r, e)

  two_truths_sim : {s : List (Value A)} {t : List (Value B)} → Stacks s t → Gots TruthsOff (two_truths s) (two_truths t)
  two_truths_sim nil = bads
  two_truths_sim (cons (nums r) e) = bads
  two_truths_sim (cons truths nil) = bads
  two_truths_sim (cons truths (cons (nums q) e)) = bads
  two_truths_sim (cons truths (cons truths e)) = goods (refl, refl, e)

  one_truth_sim : {s : List (Value A)} {t : List (Value B)} → Stacks s t → Gots TruthOff (one_truth s) (one_truth t)
  one_truth_sim nil = bads
  one_truth_sim (cons (nums r) e) = bads
  one_truth_sim (cons truths e) = goods (refl, e)

  calculated_sim : (f : ℕ) (o : Calculation) {a c : A} {b d : B} → R a b → R c d → Gots (Vals R) (calculated M f o a c) (calculated N f o b d)
  calculated_sim f add p q = number_at_sim f (C.add p q)
  calculated_sim f sub p q = number_at_sim f (C.sub p q)
  calculated_sim f mul p q = number_at_sim f (C.mul p q)
  calculated_sim f div p q = quotient_at_sim f (C.div p q)
  calculated_sim f lt p q = truth_at_sim f (C.lt p q)
  calculated_sim f le p q = truth_at_sim f (C.le p q)

  same_truth : {x y : Bool} → x ≡ y → Vals R (truth x) (truth y)
  same_truth e = rw e truths

  item_sim : {xs : List A} {ys : List B} → Each R xs ys → (f : ℕ) (i : Item) {s : List (Value A)} {t : List (Value B)} → Stacks s t → Gots Stacks (item M xs f i s) (item N ys f i t)
  item_sim v f (number q) e = bind_sim (number_at_sim f (C.literal q)) (wait_sim e)
  item_sim v f (name x) e = bind_sim (number_at_sim f (nth_sim v x)) (wait_sim e)
  item_sim v f (calculate o) e = bind_sim (two_numbers_sim e) (λ p q (r, s, w). bind_sim (calculated_sim f o r s) (wait_sim w))
  item_sim v f (combine o) e = bind_sim (two_truths_sim e) (λ p q (r, s, w). wait_sim w _ _ (same_truth (ap₂ (combined o) r s)))
  item_sim v f negate e = bind_sim (one_truth_sim e) (λ p q (r, w). wait_sim w _ _ (same_truth (ap not r)))

  items_sim : {xs : List A} {ys : List B} → Each R xs ys → (f : ℕ) (is : List Item) {s : List (Value A)} {t : List (Value B)} → Stacks s t → Gots Stacks (items M xs f is s) (items N ys f is t)
  items_sim v f [] e = goods e
  items_sim v f (i ∷ is) e = bind_sim (item_sim v f i e) (λ s t r. items_sim v (suc f) is r)

  as_number_sim : {s : List (Value A)} {t : List (Value B)} → Stacks s t → Gots R (as_number s) (as_number t)
  as_number_sim nil = bads
  as_number_sim (cons truths e) = bads
  as_number_sim (cons (nums r) e) = goods r

  as_truth_sim : {s : List (Value A)} {t : List (Value B)} → Stacks s t → Gots (◌≡◌ {A = Bool}) (as_truth s) (as_truth t)
  as_truth_sim nil = bads
  as_truth_sim (cons truths e) = goods refl
  as_truth_sim (cons (nums r) e) = bads

  number_sim : {xs : List A} {ys : List B} → Each R xs ys → (f : ℕ) (is : List Item) → Gots R (number_of M xs f is) (number_of N ys f is)
  number_sim v f is = bind_sim (items_sim v f is nil) (λ s t e. as_number_sim e)

  truth_sim : {xs : List A} {ys : List B} → Each R xs ys → (f : ℕ) (is : List Item) → Gots (◌≡◌ {A = Bool}) (truth_of M xs f is) (truth_of N ys f is)
  truth_sim v f is = bind_sim (items_sim v f is nil) (λ s t e. as_truth_sim e)

  of_part_sim : (first : Bool) {xs : List A} {ys : List B} → Each R xs ys → (o : Of) → Follows R (of_part M first xs o) (of_part N first ys o)
  of_part_sim first v one = C.literal (whole (pos (cond first 1 0)))
  of_part_sim first v (var x) = nth_sim v x

  sum_sim : (first : Bool) {xs : List A} {ys : List B} → Each R xs ys → (ps : List Part) {a : A} {b : B} → R a b → Follows R (sum M first xs a ps) (sum N first ys b ps)
  sum_sim first v [] r = both r
  sum_sim first v (p ∷ ps) r =
      then_sim (C.literal p.coefficient) (λ _ _ c.
      then_sim (of_part_sim first v p.of) (λ _ _ w.
      then_sim (C.mul c w) (λ _ _ m.
      then_sim (C.add r m) (λ _ _ s. sum_sim first v ps s))))

  next_sim : (first : Bool) (rs : List Rate) {xs : List A} {ys : List B} → Each R xs ys → (x n : ℕ) → Follows (Each R) (next M first rs xs x n) (next N first rs ys x n)
  next_sim first rs v x zero = both nil
  next_sim first rs v x (suc n) =
      then_sim (C.literal (whole (pos 0))) (λ _ _ z.
      then_sim (sum_sim first v (parts_of x rs) z) (λ _ _ q.
      then_sim (next_sim first rs v (suc x) n) (λ _ _ qs. both (cons q qs))))

  climb_sim : (n k : ℕ) {ds rs : List A} {es ss : List B} → Each R ds es → Each R rs ss → Follows (Each R) (climb M n k ds rs) (climb N n k es ss)
  climb_sim n k nil r = both nil
  climb_sim n k (cons d ds) nil = lost
  climb_sim n k (cons d ds) (cons r rs) =
      then_sim (C.scale r n k) (λ _ _ s.
      then_sim (C.add d s) (λ _ _ q.
      then_sim (climb_sim n k ds rs) (λ _ _ qs. both (cons q qs))))

  flow_sim : (rs : List Rate) {xs : List A} {ys : List B} → Each R xs ys → (n : ℕ) → Follows (Each R) (flow M rs xs n) (flow N rs ys n)
  flow_sim rs v zero = both v
  flow_sim rs {xs} {ys} v (suc m) =
      rw (each_length v) (
      then_sim (next_sim true rs v 0 (length ys)) (λ _ _ d1.
      then_sim (next_sim false rs d1 0 (length ys)) (λ _ _ d2.
      then_sim (next_sim false rs d2 0 (length ys)) (λ _ _ d3.
      then_sim (next_sim false rs d3 0 (length ys)) (λ _ _ d4.
      then_sim (climb_sim (suc m) 4 d3 d4) (λ _ _ r3.
      then_sim (climb_sim (suc m) 3 d2 r3) (λ _ _ r2.
      then_sim (climb_sim (suc m) 2 d1 r2) (λ _ _ r1.
      climb_sim (suc m) 1 v r1))))))))

  data Steppeds : Stepped A → Stepped B → Type 0 where
    gos : {n t : ℕ} {xs : List A} {ys : List B} → Each R xs ys → Steppeds (go n xs t) (go n ys t)
    stops : {n d : ℕ} {xs : List A} {ys : List B} → Each R xs ys → Steppeds (stop n d xs) (stop n d ys)
    fails : {k n f : ℕ} → Steppeds (fail k n f) (fail k n f)
    misses : {k n f : ℕ} {s : Stepped A} → 23 ≤ k → Steppeds s (fail k n f)

  data Answers : Answer A → Answer B → Type 0 where
    accepts : {n o : ℕ} {b : Bench A} {c : Bench B} → Related R b c → Answers (accepted n o b) (accepted n o c)
    refuses : {k l f : ℕ} → Answers (refused k l f) (refused k l f)
    drops : {k l f : ℕ} {a : Answer A} → 23 ≤ k → Answers a (refused k l f)

  module _ (all : List Line) where
    cut_sim : (n d : ℕ) {o : Option (List A)} {p : Option (List B)} → Follows (Each R) o p → Steppeds (cut n d o) (cut n d p)
    cut_sim n d (both v) = stops v
    cut_sim n d lost = misses (omega arith)

    whole_sim : (n t : ℕ) {o : Option (List A)} {p : Option (List B)} → Follows (Each R) o p → Steppeds (whole_run all n t o) (whole_run all n t p)
    whole_sim n t (both v) = gos v
    whole_sim n t lost = misses (omega arith)

    lapse_sim : {xs : List A} {ys : List B} → Each R xs ys → (t n d : ℕ) (b : Bool) → Steppeds (lapse M all (rates (drop n all)) xs t n d b) (lapse N all (rates (drop n all)) ys t n d b)
    lapse_sim v t n d true = cut_sim n (d - t) (flow_sim (rates (drop n all)) v t)
    lapse_sim v t n d false = whole_sim n (t - d) (flow_sim (rates (drop n all)) v d)

    assigned_sim : {xs : List A} {ys : List B} → Each R xs ys → (t n x : ℕ) {g : Got A} {h : Got B} → Gots R g h → Steppeds (assigned all xs t n x g) (assigned all ys t n x h)
    assigned_sim v t n x (goods r) = gos (each_set v x r)
    assigned_sim v t n x bads = fails
    assigned_sim v t n x not_got = misses (omega arith)

    timed_sim : {xs : List A} {ys : List B} → Each R xs ys → (t n : ℕ) (o : Option ℕ) → Steppeds (timed M all xs t n o) (timed N all ys t n o)
    timed_sim v t n None = fails
    timed_sim v t n (Some d) = lapse_sim v t n d (ltb t d)

    started_sim : {xs : List A} {ys : List B} → Each R xs ys → (t n : ℕ) {g : Got A} {h : Got B} → Gots R g h → Steppeds (started M all xs t n g) (started N all ys t n h)
    started_sim v t n (goods {b = b} r) = rw (C.terms r) (timed_sim v t n (whole_ticks (N.terms b)))
    started_sim v t n bads = fails
    started_sim v t n not_got = misses (omega arith)

    chosen_same : {xs : List A} {ys : List B} → Each R xs ys → (t n : ℕ) (x : Bool) → Steppeds (chosen all xs t n (good x)) (chosen all ys t n (good x))
    chosen_same v t n true = gos v
    chosen_same v t n false = gos v

    chosen_sim : {xs : List A} {ys : List B} → Each R xs ys → (t n : ℕ) {g h : Got Bool} → Gots (◌≡◌ {A = Bool}) g h → Steppeds (chosen all xs t n g) (chosen all ys t n h)
    chosen_sim v t n (goods {b = b} r) = rw r (chosen_same v t n b)
    chosen_sim v t n bads = fails
    chosen_sim v t n not_got = misses (omega arith)

    step_sim : {xs : List A} {ys : List B} → Each R xs ys → (t n : ℕ) (l : Line) → Steppeds (step M all xs t n l) (step N all ys t n l)
    step_sim v t n (set_line x is) = assigned_sim v t n x (number_sim v 3 is)
    step_sim v t n (run_line is) = started_sim v t n (number_sim v 2 is)
    step_sim v t n (if_line is) = chosen_sim v t n (truth_sim v 2 is)
    step_sim v t n (while_line is) = chosen_sim v t n (truth_sim v 2 is)
    step_sim v t n (var_line x) = fails
    step_sim v t n (rate_line x) = fails
    step_sim v t n else_line = fails
    step_sim v t n end_line = fails

    after_sim : {f : ℕ → List A → ℕ → Place → Answer A} {g : ℕ → List B → ℕ → Place → Answer B} →
        ((steps : ℕ) (xs : List A) (ys : List B) → Each R xs ys → (t : ℕ) (p : Place) → Answers (f steps xs t p) (g steps ys t p)) →
        (steps total : ℕ) {s : Stepped A} {z : Stepped B} → Steppeds s z → Answers (after f all steps total s) (after g all steps total z)
    after_sim h steps total (gos {n = n} {t = t} {xs = xs} {ys = ys} v) = h (suc steps) xs ys v t (place_at all n)
    after_sim h steps total (stops v) = accepts (record { line = refl; left = refl; total = refl; over = refl; values = v })
    after_sim h steps total fails = refuses
    after_sim h steps total (misses q) = drops q

    loop_sim : (total a steps : ℕ) (xs : List A) (ys : List B) → Each R xs ys → (t : ℕ) (p : Place) → Answers (loop M all total a steps xs t p) (loop N all total a steps ys t p)
    loop_sim total zero steps xs ys v t ended = accepts (record { line = refl; left = refl; total = refl; over = refl; values = v })
    loop_sim total (suc a) steps xs ys v t ended = accepts (record { line = refl; left = refl; total = refl; over = refl; values = v })
    loop_sim total zero steps xs ys v t (at n) = refuses
    loop_sim total zero steps xs ys v t (inside n d) = refuses
    loop_sim total (suc a) steps xs ys v t (at n) = after_sim (loop_sim total a) steps total (step_sim v t n (line_at all n))
    loop_sim total (suc a) steps xs ys v t (inside n d) = after_sim (loop_sim total a) steps total (lapse_sim v t n d (ltb t d))

    place_sim : (b : Bench A) (c : Bench B) → b.line ≡ c.line → b.left ≡ c.left → place_of all b ≡ place_of all c
    place_sim b c p q = rw (p, q)

    advanced_sim : (b : Bench A) (c : Bench B) → Related R b c → (ticks a : ℕ) (o : Bool) → Answers (advanced M all b ticks a o) (advanced N all c ticks a o)
    advanced_sim b c r ticks a true = refuses
    advanced_sim b c r ticks a false =
        rw (r.total, r.over, place_sim b c r.line r.left) (loop_sim (c.total + ticks) a 0 b.values c.values r.values (c.over + ticks) (place_of all c))

    advance_sim : (b : Bench A) (c : Bench B) → Related R b c → (ticks a : ℕ) → Answers (advance M all b ticks a) (advance N all c ticks a)
    advance_sim b c r ticks a =
        subst (λ o. Answers (advanced M all b ticks a o) (advance N all c ticks a)) (ap (λ z. ltb 2147483647 (z + ticks)) (sym r.total)) (advanced_sim b c r ticks a (ltb 2147483647 (c.total + ticks)))

  read_accepted : {x : Answer A} {y : Answer B} → Answers x y → (steps over : ℕ) (c : Bench B) → y ≡ accepted steps over c → (b : Bench A) × (x ≡ accepted steps over b) × Related R b c
  read_accepted (accepts {b = b} {c = c} r) steps over c' p = (b, cc, subst (λ x. Related R b x) (cc) r)
  read_accepted refuses steps over c p = absurd (never p)
  read_accepted (drops q) steps over c p = absurd (never p)

  read_refused : {x : Answer A} {y : Answer B} → Answers x y → (k l f : ℕ) → k ≤ 22 → y ≡ refused k l f → x ≡ refused k l f
  read_refused (accepts r) k l f h p = cc
  read_refused refuses k l f h p = cc
  read_refused (drops q) k l f h p = absurd (omega (arith, numbers_agree p))

pub simulation : {A B : Type 0} (M : Numbers A) (N : Numbers B) (R : A → B → Type 0) → Carries M N R → Simulates M N R
simulation M N R C all b c ticks a r =
    (read_accepted M N R C (advance_sim M N R C all b c r ticks a), λ k l f low high. read_refused M N R C (advance_sim M N R C all b c r ticks a) k l f high)

pub simulation_by : (A B C : Type 0) → SimulationBy A B C
simulation_by A B C M N left right carries = simulation M N (Paired left right) carries

-- Of unlimited fractions.
pub each_same : {A : Type 0} (xs : List A) → Each (◌≡◌ {A = A}) xs xs
each_same [] = nil
each_same (x ∷ xs) = cons refl (each_same xs)

pub each_equal : {A : Type 0} {xs ys : List A} → Each (◌≡◌ {A = A}) xs ys → xs ≡ ys
each_equal nil = refl
each_equal (cons p r) = ap₂ ◌∷◌ p (each_equal r)

pub bench_equal : (b c : Bench Frac) → Related (◌≡◌ {A = Frac}) b c → b ≡ c
bench_equal b c r = λ i. record { line = r.line i; left = r.left i; total = r.total i; over = r.over i; values = each_equal r.values i }

divide_same : (x : Divided Frac) → Divides (◌≡◌ {A = Frac}) x x
divide_same (quot q) = quots refl
divide_same by_zero = zeros
divide_same not_held = gone

pub exact_carries : Carries exact exact (◌≡◌ {A = Frac})
exact_carries = record {
  literal = λ q. both refl;
  add = λ p q. both (ap₂ F.add p q);
  sub = λ p q. both (ap₂ F.sub p q);
  mul = λ p q. both (ap₂ F.mul p q);
  div = λ {a} {c} {b} {d} p q. rw (p, q) (divide_same (divide b d));
  scale = λ p n k. both (ap (λ (x : Frac). F.scale x n k) p);
  lt = λ p q. both (ap₂ F.less p q);
  le = λ p q. both (ap₂ F.at_most p q);
  terms = λ p. ap Some p;
}
