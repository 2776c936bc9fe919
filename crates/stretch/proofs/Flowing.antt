-- The loops of a flow, a turn at a time. Assumes nothing.
use Rattle.std.proofs.Common.{◌≡◌, ℕ, suc, ◌+◌, ◌-◌, ◌<◌, Bool, List, [], ◌∷◌, ◌++◌, length, get_or, take, set, pos, Some, None, Option, Bor, refl, sym, ap, subst, ◌∙◌, arith}
use Rattle.std.proofs.lemmas.List.{take_more_set, append_assoc}
use Rattle.std.specs.Iterator.Adapters.{zip_first, zip_second, enumerate_source, enumerate_count, enumerate_steps}
use Rattle.std.specs.Slice.Iter.{iter_rest, chunks_exact_rest, chunks_exact_size, chunks_exact_steps}
use Rattle.std.proofs.iter.Yields.{fronts}
use Rattle.std.proofs.lemmas.Iterator.{zips}
use Rattle.script.specs.declared.reading.Entry.{Entry}
use Rattle.number.specs.Frac.{whole}
use Rattle.number.specs.declared.Pair.{Pair}
use Rattle.motion.specs.Numbers.{Numbers}
use Rattle.motion.specs.Lines.{Rate}
use Rattle.motion.specs.Flow.{then, of_part, sum, next, climb}
use Rattle.motion.specs.Flow as F
use Rattle.entries.specs.Decoding.{coefficient_of, factor_of, part_of, parts_of}
use Rattle.stretch.specs.Flows.{with_part, rate_value}

-- d plus r scaled by n over k
abbrev pub raised_by : Numbers Pair → ℕ → ℕ → Pair → Pair → Option Pair
raised_by N n k d r = then (N.scale r n k) (λ s. N.add d s)

last_step : {V W : Type 0} (a : Option V) (s : V → Option V) (k : V → Option W) → then a (λ x. then (s x) k) ≡ then (then a s) k
last_step (Some x) s k = refl
last_step None s k = refl

steps : {V W : Type 0} (a b : Option V) (m : V → V → Option V) (s : V → Option V) (k : V → Option W) → then a (λ c. then b (λ v. then (m c v) (λ x. then (s x) k))) ≡ then (then a (λ c. then b (λ v. then (m c v) s))) k
steps None b m s k = refl
steps (Some c) None m s k = refl
steps (Some c) (Some v) m s k = last_step (m c v) s k

-- one turn over two lists at once, counted
pub counts_more : (s t : _) (m : Option (ℕ × (Bor Pair × Bor Pair))) (p : ℕ × (Bor Pair × Bor Pair)) → m ≡ Some p → enumerate_steps (zips (fronts {A = Pair}) (fronts {A = Pair})) s m t → enumerate_steps (zips (fronts {A = Pair}) (fronts {A = Pair})) s (Some p) t
counts_more s t m p e h = subst (λ o. enumerate_steps (zips (fronts {A = Pair}) (fronts {A = Pair})) s o t) e h

-- one turn over the pairs of two lists at once
pub pairs_more : {A B : Type 0} (s t : _) (r : Option (Bor (List A) × Bor (List B))) (p : Bor (List A) × Bor (List B)) → r ≡ Some p → zips (chunks_exact_steps {A = A}) (chunks_exact_steps {A = B}) s r t
    → (chunks_exact_steps (zip_first s) (Some p.0) (zip_first t)) × (chunks_exact_steps (zip_second s) (Some p.1) (zip_second t))
pairs_more {A = A} {B = B} s t r p e h = subst (λ o. zips (chunks_exact_steps {A = A}) (chunks_exact_steps {A = B}) s o t) e h

module _ (N : Numbers Pair) (first : Bool) (d : List Pair) (acc : Pair) where
  -- one part more, of two entries in front of the others
  pub sum_more : (es : List Entry) (xs : List (Option ℕ)) (fields : List Entry) (places : List (Option ℕ)) (a b : Entry) (z : Option ℕ) (r : Option Pair) → length fields ≡ 2 → length places ≡ 2
      → r ≡ with_part N first d acc (part_of (get_or fields 0 a).token (get_or fields 1 b).token (get_or places 1 z))
      → sum N first d acc (parts_of (fields ++ es) (places ++ xs)) ≡ then r (λ q. sum N first d q (parts_of es xs))
  sum_more es xs [] places a b z r h k e = absurd (omega (arith, h))
  sum_more es xs (p ∷ []) places a b z r h k e = absurd (omega (arith, h))
  sum_more es xs (p ∷ q ∷ s ∷ fields) places a b z r h k e = absurd (omega (arith, h))
  sum_more es xs (p ∷ q ∷ []) [] a b z r h k e = absurd (omega (arith, k))
  sum_more es xs (p ∷ q ∷ []) (y ∷ []) a b z r h k e = absurd (omega (arith, k))
  sum_more es xs (p ∷ q ∷ []) (y ∷ x ∷ v ∷ places) a b z r h k e = absurd (omega (arith, k))
  sum_more es xs (p ∷ q ∷ []) (y ∷ x ∷ []) a b z r h k e =
      steps (N.literal (coefficient_of p.token)) (of_part N first d (factor_of q.token x)) N.mul (N.add acc) (λ t. sum N first d t (parts_of es xs))
      ∙ ap (λ o. then o (λ t. sum N first d t (parts_of es xs))) (sym e)

  -- the same, where they come from the entries and from the places
  pub sum_turn : (s t : _) (o : Option (Bor (List Entry) × Bor (List (Option ℕ)))) (p : Bor (List Entry) × Bor (List (Option ℕ))) (a b : Entry) (z : Option ℕ) (r : Option Pair)
      → chunks_exact_size (zip_first s) ≡ 2 → chunks_exact_size (zip_second s) ≡ 2 → o ≡ Some p → zips (chunks_exact_steps {A = Entry}) (chunks_exact_steps {A = Option ℕ}) s o t
      → r ≡ with_part N first d acc (part_of (get_or p.0.now 0 a).token (get_or p.0.now 1 b).token (get_or p.1.now 1 z))
      → sum N first d acc (parts_of (chunks_exact_rest (zip_first s)) (chunks_exact_rest (zip_second s))) ≡ then r (λ q. sum N first d q (parts_of (chunks_exact_rest (zip_first t)) (chunks_exact_rest (zip_second t))))
  sum_turn s t o p a b z r m n f h e =
      let k = pairs_more s t o p f h in
      let es : List Entry = chunks_exact_rest (zip_first t) in
      let xs : List (Option ℕ) = chunks_exact_rest (zip_second t) in
      ap (λ ys. sum N first d acc (parts_of ys (chunks_exact_rest (zip_second s)))) k.0.1.0
      ∙ ap (λ ys. sum N first d acc (parts_of (p.0.now ++ es) ys)) k.1.1.0
      ∙ sum_more es xs p.0.now p.1.now a b z r (k.0.1.1 ∙ m) (k.1.1.1 ∙ n) e

-- what is done before, put in front
in_front : (a : Option Pair) (b : Option (List Pair)) (front : List Pair) (more : Pair → List Pair) → ((q : Pair) → more q ≡ front ++ q ∷ []) → then (then a (λ q. then b (λ qs. Some (q ∷ qs)))) (λ qs. Some (front ++ qs)) ≡ then a (λ q. then b (λ qs. Some (more q ++ qs)))
in_front None b front more e = refl
in_front (Some q) None front more e = refl
in_front (Some q) (Some qs) front more e = ap Some (rw (e q, append_assoc front (q ∷ []) qs))

with_first : (z : Option Pair) (s : Pair → Option Pair) (b : Option (List Pair)) → then z (λ y. then (s y) (λ q. then b (λ qs. Some (q ∷ qs)))) ≡ then (then z s) (λ q. then b (λ qs. Some (q ∷ qs)))
with_first (Some y) s b = refl
with_first None s b = refl

module _ (N : Numbers Pair) where
  pub next_more : (first : Bool) (rs : List Rate) (d out : List Pair) (x n : ℕ) (r : Option Pair) → x < n → x < length out → r ≡ rate_value N first rs d x
      → then (next N first rs d x (n - x)) (λ qs. Some (take x out ++ qs)) ≡ then r (λ q. then (next N first rs d (x + 1) (n - (x + 1))) (λ qs. Some (take (x + 1) (set out x q) ++ qs)))
  next_more first rs d out x n r h k e =
      let f : n - x ≡ suc (n - (x + 1)) = omega arith in
      let j : suc x ≡ x + 1 = omega arith in
      ap (λ m. then (next N first rs d x m) (λ qs. Some (take x out ++ qs))) f
      ∙ ap (λ o. then o (λ qs. Some (take x out ++ qs))) (with_first (N.literal (whole (pos 0))) (λ z. sum N first d z (F.parts_of x rs)) (next N first rs d (suc x) (n - (x + 1))))
      ∙ in_front (rate_value N first rs d x) (next N first rs d (suc x) (n - (x + 1))) (take x out) (λ q. take (x + 1) (set out x q)) (λ q. take_more_set out x q k)
      ∙ rw (j, e)

  pub climb_more : (n k : ℕ) (d r out : List Pair) (value rate : Pair) (i : ℕ) (o : Option Pair) → i < length out → o ≡ raised_by N n k value rate
      → then (climb N n k (value ∷ d) (rate ∷ r)) (λ qs. Some (take i out ++ qs)) ≡ then o (λ q. then (climb N n k d r) (λ qs. Some (take (i + 1) (set out i q) ++ qs)))
  climb_more n k d r out value rate i o h e =
      ap (λ t. then t (λ qs. Some (take i out ++ qs))) (with_first (N.scale rate n k) (λ s. N.add value s) (climb N n k d r))
      ∙ in_front (raised_by N n k value rate) (climb N n k d r) (take i out) (λ q. take (i + 1) (set out i q)) (λ q. take_more_set out i q h)
      ∙ ap (λ t. then t (λ q. then (climb N n k d r) (λ qs. Some (take (i + 1) (set out i q) ++ qs)))) (sym e)

  -- the same, where they come from the values and from the rates
  pub climb_turn : (n k : ℕ) (s t : _) (m : Option (ℕ × (Bor Pair × Bor Pair))) (p : ℕ × (Bor Pair × Bor Pair)) (out : List Pair) (o : Option Pair) → m ≡ Some p → enumerate_steps (zips (fronts {A = Pair}) (fronts {A = Pair})) s m t → enumerate_count s < length out → o ≡ raised_by N n k p.1.0.now p.1.1.now
      → then (climb N n k (iter_rest (zip_first (enumerate_source s))) (iter_rest (zip_second (enumerate_source s)))) (λ qs. Some (take (enumerate_count s) out ++ qs))
      ≡ then o (λ q. then (climb N n k (iter_rest (zip_first (enumerate_source t))) (iter_rest (zip_second (enumerate_source t)))) (λ qs. Some (take (enumerate_count t) (set out p.0 q) ++ qs)))
  climb_turn n k s t m p out o e h l f =
      let a = counts_more s t m p e h in
      let ds : List Pair = iter_rest (zip_first (enumerate_source t)) in
      let rs : List Pair = iter_rest (zip_second (enumerate_source t)) in
      ap (λ ys. then (climb N n k ys (iter_rest (zip_second (enumerate_source s)))) (λ qs. Some (take (enumerate_count s) out ++ qs))) a.0.0
      ∙ ap (λ ys. then (climb N n k (p.1.0.now ∷ ds) ys) (λ qs. Some (take (enumerate_count s) out ++ qs))) a.0.1
      ∙ climb_more n k ds rs out p.1.0.now p.1.1.now (enumerate_count s) o l f
      ∙ ap (λ i. then o (λ q. then (climb N n k ds rs) (λ qs. Some (take (enumerate_count s + 1) (set out i q) ++ qs)))) (sym a.1)
      ∙ ap (λ i. then o (λ q. then (climb N n k ds rs) (λ qs. Some (take i (set out p.0 q) ++ qs)))) (sym a.2)

  -- at first nothing is in front
  start : (out : List Pair) (o : Option (List Pair)) → o ≡ then o (λ qs. Some (take 0 out ++ qs))
  start out (Some qs) = refl
  start out None = refl

  pub climb_start : (n k : ℕ) (s : _) (d r out : List Pair) → enumerate_count s ≡ 0 → iter_rest (zip_first (enumerate_source s)) ≡ d → iter_rest (zip_second (enumerate_source s)) ≡ r
      → climb N n k d r ≡ then (climb N n k (iter_rest (zip_first (enumerate_source s))) (iter_rest (zip_second (enumerate_source s)))) (λ qs. Some (take (enumerate_count s) out ++ qs))
  climb_start n k s d r out a b e =
      start out (climb N n k d r)
      ∙ ap (λ i. then (climb N n k d r) (λ qs. Some (take i out ++ qs))) (sym a)
      ∙ ap (λ ys. then (climb N n k ys r) (λ qs. Some (take (enumerate_count s) out ++ qs))) (sym b)
      ∙ ap (λ ys. then (climb N n k (iter_rest (zip_first (enumerate_source s))) ys) (λ qs. Some (take (enumerate_count s) out ++ qs))) (sym e)
