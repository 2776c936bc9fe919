-- A bench that fits a script goes on fitting it.
use Rattle.std.proofs.Common.{◌≡◌, ℕ, zero, suc, ◌+◌, ◌-◌, ◌<◌, ◌≤◌, Bool, true, false, cond, ◌&&◌, ◌||◌, eqb, ltb, leb, ◌⊎◌, List, [], ◌∷◌, length, drop, pos, nat_abs, Some, None, Option, sym, refl, ap, ◌∙◌, subst, inl, inr, arith, length-set, ltb-false, ltb-true, eq-eqb, eqb-true, le-leb, leb-true}
use borrow.Author.Tests.{clash}
use Rattle.number.specs.declared.Pair.{Pair}
use Rattle.number.specs.Frac.{Frac}
use Rattle.number.specs.Kind.{Holds}
use Rattle.motion.specs.Numbers.{Numbers, exact}
use Rattle.motion.specs.Lines.{Line, var_line, set_line, run_line, rate_line, if_line, else_line, while_line, end_line, Rate}
use Rattle.motion.specs.Items.{Got, good, bad, number_of, truth_of}
use Rattle.motion.specs.Flow.{flow}
use Rattle.motion.specs.Machine.{Bench, Answer, accepted, refused, advance, advanced, Place, at, inside, ended, Stepped, go, stop, fail, cut, whole_run, lapse, stretch, assigned, timed, started, chosen, step, after, loop, place_at, place_of, whole_ticks, new}
use Rattle.motion.specs.NextLine.{rates, line_at, first_line, next_from, declared}
use Rattle.motion.specs.Carriers.{Each, nil, cons}
use Rattle.motion.specs.Pairs.{numbers_of, Meant}
use Rattle.motion.specs.Calls.{Call, advances, reads, asks_joint, writes, hands_over, bench_after, called, after_calls}
use Rattle.motion.specs.Fitting.{answered, all_numbers, is_run, as_new, in_stretch, at_end, counts_small, fits, Fitting}
use Rattle.motion.proofs.Lengths.{flow_length}
use Rattle.number.proofs.Fracs.{whole_is}
use Rattle.motion.proofs.OneStep.{ticks_some}
use Rattle.motion.proofs.Simulation.{simulation, each_length}
use Rattle.motion.proofs.Pairs.{pairs_carry}
use Rattle.motion.proofs.Calls.{Totals, advance_total, never_over}

-- tests
both_true : {a b : Bool} → a ≡ true → b ≡ true → (a && b) ≡ true
both_true p q = rw (p, q)

first_true : (a b : Bool) → (a && b) ≡ true → a ≡ true
first_true true b e = refl
first_true false b e = e

second_true : (a b : Bool) → (a && b) ≡ true → b ≡ true
second_true true b e = e
second_true false b e = absurd (clash e)

either_true : (a b : Bool) → (a || b) ≡ true → (a ≡ true) ⊎ (b ≡ true)
either_true true b e = inl refl
either_true false b e = inr e

left_true : {a : Bool} (b : Bool) → a ≡ true → (a || b) ≡ true
left_true b p = rw p

right_true : (a : Bool) {b : Bool} → b ≡ true → (a || b) ≡ true
right_true true q = refl
right_true false q = q

abbrev Most : ℕ
Most = 2147483647

-- Where a run can come to rest.
module _ (all : List Line) where
  abbrev InRun : ℕ → ℕ → Type 0
  InRun n d = (is_run (line_at all n) ≡ true) × (d ≤ Most)

  abbrev FinePlace : Place → Type 0
  FinePlace (at n) = Unit {0}
  FinePlace (inside n d) = InRun n d
  FinePlace ended = Unit {0}

  module _ {V : Type 0} (w : ℕ) where
    -- a step leaves w values and no more ticks than there were; it stops on a run line
    abbrev FineStep : ℕ → Stepped V → Type 0
    FineStep t (go n e u) = (length e ≡ w) × (u ≤ t)
    FineStep t (stop n d e) = (length e ≡ w) × InRun n d × (0 < d)
    FineStep t (fail k n f) = Unit {0}

    abbrev Rests : ℕ → Bench V → Type 0
    Rests t c = (InRun c.line c.left × (0 < c.left) × (c.over ≡ 0)) ⊎ ((c.line ≡ suc (length all)) × (c.left ≡ 0) × (c.over ≤ t))

    abbrev FineAnswer : ℕ → Answer V → Type 0
    FineAnswer t (accepted k o c) = (length c.values ≡ w) × Rests t c
    FineAnswer t (refused k l f) = Unit {0}

  fewer : {V : Type 0} (w t u : ℕ) (x : Answer V) → u ≤ t → FineAnswer w u x → FineAnswer w t x
  fewer w t u (accepted k o c) h (l, inl r) = (l, inl r)
  fewer w t u (accepted k o c) h (l, inr (i, j, r)) = (l, inr (i, j, omega arith))
  fewer w t u (refused k l f) h r = tt

  module _ {V : Type 0} (N : Numbers V) (small : (v : V) (d : ℕ) → whole_ticks (N.terms v) ≡ Some d → d ≤ Most) where
    cut_fine : (env : List V) (t n d : ℕ) → InRun n d → t < d → (o : Option (List V)) → ((e : List V) → o ≡ Some e → length e ≡ length env) → FineStep (length env) t (cut n (d - t) o)
    cut_fine env t n d (r, h) l (Some e) f = (f e refl, (r, omega arith), omega arith)
    cut_fine env t n d h l None f = tt

    whole_fine : (env : List V) (t u n : ℕ) → u ≤ t → (o : Option (List V)) → ((e : List V) → o ≡ Some e → length e ≡ length env) → FineStep (length env) t (whole_run all n u o)
    whole_fine env t u n h (Some e) f = (f e refl, h)
    whole_fine env t u n h None f = tt

    lapse_fine : (rs : List Rate) (env : List V) (t n d : ℕ) → InRun n d → (x : Bool) → ltb t d ≡ x → FineStep (length env) t (lapse N all rs env t n d x)
    lapse_fine rs env t n d h true i = cut_fine env t n d h (ltb-true t d i) (flow N rs env t) (flow_length N rs env t)
    lapse_fine rs env t n d h false i = whole_fine env t (t - d) n (omega arith) (flow N rs env d) (flow_length N rs env d)

    stretch_fine : (env : List V) (t n d : ℕ) → InRun n d → FineStep (length env) t (stretch N all env t n d)
    stretch_fine env t n d h = lapse_fine (rates (drop n all)) env t n d h (ltb t d) refl

    assigned_fine : (env : List V) (t n x : ℕ) (g : Got V) → FineStep (length env) t (assigned all env t n x g)
    assigned_fine env t n x (good q) = (length-set env x q, omega arith)
    assigned_fine env t n x (bad k f) = tt

    timed_fine : (env : List V) (t n : ℕ) → is_run (line_at all n) ≡ true → (o : Option ℕ) → ((d : ℕ) → o ≡ Some d → d ≤ Most) → FineStep (length env) t (timed N all env t n o)
    timed_fine env t n r None f = tt
    timed_fine env t n r (Some d) f = stretch_fine env t n d (r, f d refl)

    started_fine : (env : List V) (t n : ℕ) → is_run (line_at all n) ≡ true → (g : Got V) → FineStep (length env) t (started N all env t n g)
    started_fine env t n r (bad k f) = tt
    started_fine env t n r (good q) = timed_fine env t n r (whole_ticks (N.terms q)) (small q)

    chosen_fine : (env : List V) (t n : ℕ) (g : Got Bool) → FineStep (length env) t (chosen all env t n g)
    chosen_fine env t n (bad k f) = tt
    chosen_fine env t n (good true) = (refl, omega arith)
    chosen_fine env t n (good false) = (refl, omega arith)

    step_fine : (env : List V) (t n : ℕ) (l : Line) → line_at all n ≡ l → FineStep (length env) t (step N all env t n l)
    step_fine env t n (set_line x is) e = assigned_fine env t n x (number_of N env 3 is)
    step_fine env t n (run_line is) e = started_fine env t n (ap is_run e) (number_of N env 2 is)
    step_fine env t n (if_line is) e = chosen_fine env t n (truth_of N env 2 is)
    step_fine env t n (while_line is) e = chosen_fine env t n (truth_of N env 2 is)
    step_fine env t n (var_line x) e = tt
    step_fine env t n (rate_line x) e = tt
    step_fine env t n else_line e = tt
    step_fine env t n end_line e = tt

    after_fine : (w t : ℕ) (f : ℕ → List V → ℕ → Place → Answer V) → ((steps : ℕ) (e : List V) (u : ℕ) (p : Place) → length e ≡ w → FinePlace p → FineAnswer w u (f steps e u p)) →
        (steps total : ℕ) (s : Stepped V) → FineStep w t s → FineAnswer w t (after f all steps total s)
    after_fine w t f h steps total (go n e u) (l, q) = fewer w t u _ q (h (suc steps) e u (place_at all n) l (place_fine (ltb (length all) n)))
      where
        place_fine : (x : Bool) → FinePlace (cond x ended (at n))
        place_fine true = tt
        place_fine false = tt
    after_fine w t f h steps total (stop n d e) (l, r, q) = (l, inl (r, q, refl))
    after_fine w t f h steps total (fail k n g) r = tt

    loop_fine : (w total a steps : ℕ) (e : List V) (t : ℕ) (p : Place) → length e ≡ w → FinePlace p → FineAnswer w t (loop N all total a steps e t p)
    loop_fine w total zero steps e t ended l h = (l, inr (refl, refl, omega arith))
    loop_fine w total (suc a) steps e t ended l h = (l, inr (refl, refl, omega arith))
    loop_fine w total zero steps e t (at n) l h = tt
    loop_fine w total zero steps e t (inside n d) l h = tt
    loop_fine w total (suc a) steps e t (at n) l h =
        after_fine w t (loop N all total a) (loop_fine w total a) steps total (step N all e t n (line_at all n)) (rw (← l) (step_fine e t n (line_at all n) refl))
    loop_fine w total (suc a) steps e t (inside n d) l h = after_fine w t (loop N all total a) (loop_fine w total a) steps total (stretch N all e t n d) (rw (← l) (stretch_fine e t n d h))

-- What it is to fit, fact by fact.
record Fit {V : Type 0} (N : Numbers V) (script : List Line) (b : Bench V) : Type 0 where
  pub count : length b.values ≡ length (declared script)
  pub numbers : all_numbers N b.values ≡ true
  pub place : FinePlace script (place_of script b)
  pub under : b.over ≤ b.total

module _ {V : Type 0} (N : Numbers V) (script : List Line) (b : Bench V) where
  not_inside : b.left ≡ 0 → FinePlace script (place_of script b)
  not_inside e = by (ltb 0 b.left) refl
    where
      at_a_line : (x : Bool) (n : ℕ) → FinePlace script (cond x ended (at n))
      at_a_line true n = tt
      at_a_line false n = tt

      by : (x : Bool) → ltb 0 b.left ≡ x → FinePlace script (cond x (inside b.line b.left) (place_at script (next_from script b.line)))
      by true i = let k = ltb-true 0 b.left i in absurd (omega arith)
      by false i = at_a_line (ltb (length script) (next_from script b.line)) (next_from script b.line)

  is_inside : is_run (line_at script b.line) ≡ true → b.left ≤ Most → 0 < b.left → FinePlace script (place_of script b)
  is_inside r l p = by (ltb 0 b.left) refl
    where
      by : (x : Bool) → ltb 0 b.left ≡ x → FinePlace script (cond x (inside b.line b.left) (place_at script (next_from script b.line)))
      by true i = (r, l)
      by false i = let k = ltb-false 0 b.left i in absurd (omega arith)

  -- the place, and that no more is over than the total
  abbrev Placed : Type 0
  Placed = FinePlace script (place_of script b) × (b.over ≤ b.total)

  from_new : as_new script b ≡ true → Placed
  from_new e =
      let f = second_true (eqb b.line (first_line 1 script)) _ e in
      let l = eqb-true b.left 0 (first_true (eqb b.left 0) _ f) in
      let o = eqb-true b.over 0 (second_true (eqb b.total 0) _ (second_true (eqb b.left 0) _ f)) in
      (not_inside l, omega arith)

  from_stretch : b.left ≤ Most → in_stretch script b ≡ true → Placed
  from_stretch m e =
      let r = first_true (is_run (line_at script b.line)) _ e in
      let f = second_true (is_run (line_at script b.line)) _ e in
      let l = leb-true 1 b.left (first_true (leb 1 b.left) _ f) in
      let o = eqb-true b.over 0 (second_true (leb 1 b.left) _ f) in
      (is_inside r m (omega arith), omega arith)

  from_end : at_end script b ≡ true → Placed
  from_end e =
      let f = second_true (eqb b.line (suc (length script))) _ e in
      let l = eqb-true b.left 0 (first_true (eqb b.left 0) _ f) in
      let o = leb-true b.over b.total (second_true (eqb b.left 0) _ f) in
      (not_inside l, o)

  from_place : b.left ≤ Most → (as_new script b ≡ true) ⊎ (in_stretch script b || at_end script b) ≡ true → Placed
  from_place m (inl e) = from_new e
  from_place m (inr e) = by (either_true (in_stretch script b) (at_end script b) e)
    where
      by : (in_stretch script b ≡ true) ⊎ (at_end script b ≡ true) → Placed
      by (inl i) = from_stretch m i
      by (inr i) = from_end i

  fit_from : fits N script b ≡ true → Fit N script b
  fit_from e =
      let n = eqb (length b.values) (length (declared script)) in
      let v = all_numbers N b.values in
      let f = second_true n _ e in
      let g = second_true v _ f in
      let c = first_true (counts_small b) _ g in
      let l = leb-true b.left 2147483647 (first_true (leb b.left 2147483647) _ c) in
      let p = from_place l (either_true (as_new script b) _ (second_true (counts_small b) _ g)) in
      record { count = eqb-true _ _ (first_true n _ e); numbers = first_true v _ f; place = p.0; under = p.1 }

  -- and back, from where a run has come to rest
  rested : (t : ℕ) → t ≤ b.total → b.total ≤ Most → Rests script (length b.values) t b → (counts_small b ≡ true) × ((in_stretch script b || at_end script b) ≡ true)
  rested t h m (inl ((r, l), p, o)) =
      let small : counts_small b ≡ true = both_true (le-leb b.left Most l) (both_true (le-leb b.total Most m) (le-leb b.over Most (omega arith))) in
      let here : in_stretch script b ≡ true = both_true r (both_true (le-leb 1 b.left (omega arith)) (eq-eqb b.over 0 o)) in
      (small, left_true (at_end script b) here)
  rested t h m (inr (i, l, o)) =
      let small : counts_small b ≡ true = both_true (le-leb b.left Most (omega arith)) (both_true (le-leb b.total Most m) (le-leb b.over Most (omega arith))) in
      let here : at_end script b ≡ true = both_true (eq-eqb b.line (suc (length script)) i) (both_true (eq-eqb b.left 0 l) (le-leb b.over b.total (omega arith))) in
      (small, right_true (in_stretch script b) here)

  to_fits : length b.values ≡ length (declared script) → all_numbers N b.values ≡ true → (t : ℕ) → t ≤ b.total → b.total ≤ Most → Rests script (length b.values) t b → fits N script b ≡ true
  to_fits n v t h m r =
      let (s, p) = rested t h m r in
      both_true (eq-eqb _ _ n) (both_true v (both_true s (right_true (as_new script b) p)))

-- In a kind.
module _ (means : Pair → Option Frac) (code : Frac → Option Pair) (laws : Holds means code) where
  abbrev N : Numbers Pair
  N = numbers_of means code

  number_each : (vs : List Pair) → all_numbers N vs ≡ true → (σ : List Frac) × Each (Meant means) σ vs
  number_each [] e = ([], nil)
  number_each (v ∷ vs) e = by (means v) refl (first_true (answered (means v)) _ e) (number_each vs (second_true (answered (means v)) _ e))
    where
      by : (o : Option Frac) → means v ≡ o → answered o ≡ true → (σ : List Frac) × Each (Meant means) σ vs → (σ : List Frac) × Each (Meant means) σ (v ∷ vs)
      by (Some x) i a (σ, r) = (x ∷ σ, cons i r)
      by None i a r = absurd (clash a)

  each_number : {σ : List Frac} {vs : List Pair} → Each (Meant means) σ vs → all_numbers N vs ≡ true
  each_number nil = refl
  each_number (cons r rs) = both_true (ap answered r) (each_number rs)

  ticks_small : (v : Pair) (d : ℕ) → whole_ticks (means v) ≡ Some d → d ≤ Most
  ticks_small v d e = by (means v) refl e
    where
      by : (o : Option Frac) → means v ≡ o → whole_ticks o ≡ Some d → d ≤ Most
      by (Some x) i h =
          let z : x.num ≡ pos d = ap (λ (q : Frac). q.num) (ticks_some x d h) ∙ (whole_is (pos d)).0 in
          let s = (laws.small x v (laws.forth v x i)).0 in
          let k : nat_abs x.num ≡ d = ap nat_abs z in
          omega arith
      by None i h = let z : ◌≡◌ {A = ℕ} 0 1 = cc in absurd (omega arith)

  built : (script : List Line) (vs : List Pair) → Each (Meant means) (declared script) vs → fits N script (new script vs) ≡ true
  built script vs r =
      both_true (eq-eqb _ _ (sym (each_length r))) (both_true (each_number r)
      (left_true _ (both_true (eq-eqb (first_line 1 script) (first_line 1 script) refl) refl)))

  stays : (script : List Line) (b c : Bench Pair) (t a n o : ℕ) → fits N script b ≡ true → advance N script b t a ≡ accepted n o c → fits N script c ≡ true
  stays script b c t a n o e h =
      let f = fit_from N script b e in
      let (σ, r) = number_each b.values f.numbers in
      let twin : Bench Frac = record { line = b.line; left = b.left; total = b.total; over = b.over; values = σ } in
      let s = (simulation exact N (Meant means) (pairs_carry means code laws) script twin b t a (record { line = refl; left = refl; total = refl; over = refl; values = r })).0 n o c h in
      let total = subst (Totals (b.total + t)) h (advance_total N script b t a) in
      let limit = never_over N script b t a n o c h in
      let (l, rests) = subst (FineAnswer script (length b.values) (b.over + t)) h (advance_fine script b t a f.place) in
      let u = f.under in
      to_fits N script c (l ∙ f.count) (each_number s.2.values) (b.over + t) (omega arith) (omega arith) rests
    where
      advance_fine : (script : List Line) (b : Bench Pair) (t a : ℕ) → FinePlace script (place_of script b) → FineAnswer script (length b.values) (b.over + t) (advance N script b t a)
      advance_fine script b t a p = by (ltb 2147483647 (b.total + t))
        where
          by : (x : Bool) → FineAnswer script (length b.values) (b.over + t) (advanced N script b t a x)
          by true = tt
          by false = loop_fine script N ticks_small (length b.values) (b.total + t) a 0 b.values (b.over + t) (place_of script b) refl p

  called_fits : (script : List Line) (b : Bench Pair) (c : Call) → fits N script b ≡ true → fits N script (called N script b c) ≡ true
  called_fits script b (advances t a) e = by (advance N script b t a) refl
    where
      by : (x : Answer Pair) → advance N script b t a ≡ x → fits N script (bench_after b x) ≡ true
      by (accepted n o c) h = stays script b c t a n o e h
      by (refused k l f) h = e
  called_fits script b (reads x) e = e
  called_fits script b asks_joint e = e
  called_fits script b (writes n) e = e
  called_fits script b (hands_over n) e = e

  calls_fit : (script : List Line) (b : Bench Pair) (cs : List Call) → fits N script b ≡ true → fits N script (after_calls N script b cs) ≡ true
  calls_fit script b [] e = e
  calls_fit script b (c ∷ cs) e = calls_fit script (called N script b c) cs (called_fits script b c e)

always_fits : (means : Pair → Option Frac) (code : Frac → Option Pair) → Holds means code → (script : List Line) (vs : List Pair) → Each (Meant means) (declared script) vs → (cs : List Call) →
    fits (numbers_of means code) script (after_calls (numbers_of means code) script (new script vs) cs) ≡ true
always_fits means code laws script vs r cs = calls_fit means code laws script (new script vs) cs (built means code laws script vs r)

pub fitting : Fitting
fitting means code laws = record {
  built = built means code laws;
  stays = stays means code laws;
  always = always_fits means code laws;
  never_18 = λ script vs r cs ticks a.
      ap (λ (x : Bool). cond x (advance (numbers_of means code) script (after_calls (numbers_of means code) script (new script vs) cs) ticks a) (refused 18 0 0)) (always_fits means code laws script vs r cs);
}
