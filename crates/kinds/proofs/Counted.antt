-- What the code of thousandths computes.
use Rattle.std.proofs.Common.{◌≡◌, ℕ, ◌*◌, ◌/◌, ◌%◌, ◌<◌, ◌≤◌, true, false, cond, T, ◌⊎◌, ℤ, pos, ◌*ℤ◌, nat_abs, ◌≤ℤ◌, Some, None, Ok, Err, Option, Result, sym, refl, ap, ◌∙◌, subst, ap₂, inl, inr, arith, w64, SFits, to_z}
use native.Mathlib.Nat as N
use Rattle.std.proofs.lemmas.Int.{ints, to_z-of_z, to_z_pos}
use Rattle.number.specs.declared.Pair.{Pair}
use Rattle.number.specs.declared.Fault.{Fault}
use Rattle.number.specs.declared.Fault.TheVariants.{NotHeld}
use Rattle.number.specs.Frac.{norm}
use Rattle.number.specs.Kind.{held, taken, in_terms, of_one}
use Rattle.number.proofs.Answered.{err_ok}
use Rattle.number.proofs.Ints.{abs_times}
use Rattle.number.proofs.Ops.{b64, small_fits, size}
use Rattle.kinds.specs.Fractions.{frac_of, pair_of}
use Rattle.kinds.specs.Thousandths.{counts, thousand_of, count_from, counted, count_of}
use Rattle.kinds.specs.Counting.{counted_some, counted_from, counts_facts, thousandths_held}
use Rattle.kinds.specs.Lowest.{Lowest, taken_ok, taken_err}

no_some : (o : Option Pair) → ((p : Pair) → o ≡ Some p → ⊥) → Err NotHeld ≡ held o
no_some (Some p) h = absurd (h p refl)
no_some None h = refl

pub count_no : (a : ℤ) (d : ℕ) → ((1000 % d ≡ 0 → ⊥) ⊎ (2147483647 < nat_abs a * (1000 / d))) → Err NotHeld ≡ held (counted a d)
count_no a d (inl h) = no_some (counted a d) (λ p e. h (counted_from a d p e).0)
count_no a d (inr h) = no_some (counted a d) (λ p e. omega (arith, (counted_from a d p e).1))

pub count_yes : (a : ℤ) (d : ℕ) → 1000 % d ≡ 0 → nat_abs a * (1000 / d) ≤ 2147483647 → Ok (count_from (a *ℤ pos (1000 / d))) ≡ held (counted a d)
count_yes a d e h = ap held (sym (counted_some a d e h))

-- the product that the code makes
pub record Made (a r : ℤ) (d : ℕ) : Type 0 where
  pub value : r ≡ a *ℤ pos (1000 / d)
  pub size_is : nat_abs r ≡ nat_abs a * (1000 / d)
  pub fits : SFits w64 r

product_fits : (r : ℤ) (m k : ℕ) → nat_abs r ≡ m * k → m ≤ 2147483647 → k ≤ 1000 → SFits w64 r
product_fits r m k e hm hk = omega (arith, ints, N.mul-le-mul hm hk)

pub made : (a : ℤ) (u d : ℕ) → SFits w64 a → nat_abs a ≤ 2147483647 → u ≡ d → Made a (b64 a *ℤ to_z w64 (1000 / u)) d
made a u d f h e =
    let r : ℤ = b64 a *ℤ to_z w64 (1000 / u) in
    let s : 1000 / u ≤ 1000 = N.div-le_self 1000 u in
    let v : r ≡ a *ℤ pos (1000 / d) = ap₂ ◌*ℤ◌ (to_z-of_z w64 a f) (to_z_pos w64 (1000 / u) (omega arith) ∙ ap (λ x. pos (1000 / x)) e) in
    let z : nat_abs r ≡ nat_abs a * (1000 / d) = ap nat_abs v ∙ abs_times a (1000 / d) in
    record { value = v; size_is = z; fits = product_fits r (nat_abs a) (1000 / d) z h (N.div-le_self 1000 d) }

-- ---- taking
pub count_asks : (n d : ℤ) (p : Pair) → Lowest n d p → (nat_abs (b64 p.a) ≤ 2147483647) × (pos 1 ≤ℤ b64 p.b)
count_asks n d p L = (size p.a L.fit_a L.small_a, subst (λ x. pos 1 ≤ℤ x) (sym (to_z-of_z w64 p.b L.fit_b)) L.low)

pub take_counts : (n d : ℤ) (p : Pair) (r : Result Pair Fault) → Lowest n d p → r ≡ held (counted (b64 p.a) (nat_abs (b64 p.b))) → r ≡ taken thousand_of count_of n d
take_counts n d p r L h =
    h ∙ ap₂ (λ x y. held (counted x (nat_abs y))) (to_z-of_z w64 p.a L.fit_a ∙ sym L.num) (to_z-of_z w64 p.b L.fit_b ∙ sym L.den) ∙ sym (L.taken_by thousand_of count_of)

-- ---- lowest terms
is_of : (p : Pair) → true ≡ counts p.a p.b → thousand_of p ≡ Some (norm p.a 1000)
unfolding thousand_of
is_of p e = ap (λ b. cond b (Some (norm p.a 1000)) None) (sym e)

none_of : (p : Pair) → false ≡ counts p.a p.b → thousand_of p ≡ None
unfolding thousand_of
none_of p e = ap (λ b. cond b (Some (norm p.a 1000)) None) (sym e)

fit_of : (p : Pair) → true ≡ counts p.a p.b → SFits w64 p.a
fit_of p e = small_fits p.a (counts_facts p.a p.b (subst T e tt)).0

pub terms_no : (p : Pair) → false ≡ counts p.a p.b → Err NotHeld ≡ in_terms thousand_of p
terms_no p e = sym (ap (of_one (λ x. Ok (x.num, pos x.den))) (none_of p e))

pub terms_yes : (p r : Pair) → true ≡ counts p.a p.b → Ok r ≡ taken frac_of pair_of (b64 p.a) (pos 1000) → Ok (b64 r.a, b64 r.b) ≡ in_terms thousand_of p
terms_yes p r t e =
    let L : Lowest p.a (pos 1000) r = taken_ok p.a (pos 1000) r (e ∙ ap (λ x. taken frac_of pair_of x (pos 1000)) (to_z-of_z w64 p.a (fit_of p t))) in
    ap₂ (λ x y. Ok (x, y)) (to_z-of_z w64 r.a L.fit_a ∙ sym L.num) (to_z-of_z w64 r.b L.fit_b ∙ sym L.den) ∙ sym (ap (of_one (λ x. Ok (x.num, pos x.den))) (is_of p t))

-- the lowest terms of thousandths are within the limits
pub terms_never : (p : Pair) (x : Fault) → true ≡ counts p.a p.b → Err x ≡ taken frac_of pair_of (b64 p.a) (pos 1000) → ⊥
terms_never p x t e =
    let f = taken_err thousand_of count_of thousandths_held p.a (pos 1000) x (e ∙ ap (λ z. taken frac_of pair_of z (pos 1000)) (to_z-of_z w64 p.a (fit_of p t))) in
    err_ok x p (f ∙ ap held (thousandths_held.forth p (norm p.a 1000) (is_of p t)))
