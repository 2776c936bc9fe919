-- The order of fractions, and division.
use Rattle.std.proofs.Common.{◌≡◌, ℕ, zero, suc, ◌*◌, ◌<◌, Bool, true, false, not, [], ◌∷◌, ℤ, pos, negsuc, ◌-ℤ◌, ◌*ℤ◌, neg_ℤ, nat_abs, ◌≤ℤ◌, ◌<ℤ◌, sym, refl, ap, ◌∙◌, ap₂, arith}
use native.Mathlib.Nat as N
use lib.Signed.{lt_z, le_z}
use borrow.Author.Differences.{lt-true, lt-false, le-true, le-false}
use Rattle.std.proofs.lemmas.Int.{ints}
use Rattle.number.specs.Frac.{Frac, norm, sub, mul, div, inverse, flip, whole, less, at_most}
use Rattle.number.proofs.Ints.{int_ring, neg_out, neg_right}
use Rattle.number.proofs.Solve.{var, nil, unit, ◌⊗◌, solve}
use Rattle.number.proofs.Fracs.{as_norm, as_self, as_mul, same, frac_cross, norm_cross, den_pos}
use Rattle.number.proofs.Laws.{frac_ring}
use Rattle.number.proofs.Ops.{flip_pos, flip_neg, sub_is}

-- a positive factor keeps an order
pub order_lt : (a b : ℤ) (c : ℕ) → 0 < c → lt_z (a *ℤ pos c) (b *ℤ pos c) ≡ lt_z a b
order_lt a b c h = by (lt_z a b) refl
  where
    by : (t : Bool) → lt_z a b ≡ t → lt_z (a *ℤ pos c) (b *ℤ pos c) ≡ t
    by true e = let k = N.mul-le-mul (lt-true a b e) (N.le_refl c) in sym (omega (arith, ints, k))
    by false e = let k = N.mul-le-mul (lt-false a b e) (N.le_refl c) in sym (omega (arith, ints, k))

pub order_le : (a b : ℤ) (c : ℕ) → 0 < c → le_z (a *ℤ pos c) (b *ℤ pos c) ≡ le_z a b
order_le a b c h = by (le_z a b) refl
  where
    by : (t : Bool) → le_z a b ≡ t → le_z (a *ℤ pos c) (b *ℤ pos c) ≡ t
    by true e = let k = N.mul-le-mul (le-true a b e) (N.le_refl c) in sym (omega (arith, ints, k))
    by false e = let k = N.mul-le-mul (le-false a b e) (N.le_refl c) in sym (omega (arith, ints, k))

zero_times : (d : ℕ) → pos 0 *ℤ pos d ≡ pos 0
zero_times d = solve int_ring (pos d ∷ []) (nil ⊗ var 0) nil refl

pub less_irrefl : (p : Frac) → less p p ≡ false
unfolding less
less_irrefl p = sym (omega (arith, ints))

pub less_total : (p q : Frac) → less p q ≡ false → less q p ≡ false → p ≡ q
unfolding less
less_total p q e f = frac_cross p q (omega (arith, ints))

-- p < q and q < r: a v < c u and c w < e v, so a w v < c u w < e u v
pub less_trans : (p q r : Frac) → less p q ≡ true → less q r ≡ true → less p r ≡ true
unfolding less
less_trans p q r e f =
    let a : ℤ = p.num in
    let c : ℤ = q.num in
    let z : ℤ = r.num in
    let u : ℤ = pos p.den in
    let v : ℤ = pos q.den in
    let w : ℤ = pos r.den in
    let e1 : lt_z ((a *ℤ v) *ℤ w) ((c *ℤ u) *ℤ w) ≡ true = order_lt (a *ℤ v) (c *ℤ u) r.den (den_pos r) ∙ e in
    let f1 : lt_z ((c *ℤ w) *ℤ u) ((z *ℤ v) *ℤ u) ≡ true = order_lt (c *ℤ w) (z *ℤ v) p.den (den_pos p) ∙ f in
    let m : (c *ℤ u) *ℤ w ≡ (c *ℤ w) *ℤ u = solve int_ring (c ∷ u ∷ w ∷ []) ((var 0 ⊗ var 1) ⊗ var 2) ((var 0 ⊗ var 2) ⊗ var 1) refl in
    let l : (a *ℤ v) *ℤ w ≡ (a *ℤ w) *ℤ v = solve int_ring (a ∷ v ∷ w ∷ []) ((var 0 ⊗ var 1) ⊗ var 2) ((var 0 ⊗ var 2) ⊗ var 1) refl in
    let n : (z *ℤ v) *ℤ u ≡ (z *ℤ u) *ℤ v = solve int_ring (z ∷ v ∷ u ∷ []) ((var 0 ⊗ var 1) ⊗ var 2) ((var 0 ⊗ var 2) ⊗ var 1) refl in
    sym (order_lt (a *ℤ w) (z *ℤ u) q.den (den_pos q)) ∙ ap₂ lt_z (sym l) (sym n) ∙ chain _ _ _ _ e1 m f1
  where
    chain : (x y y' t : ℤ) → lt_z x y ≡ true → y ≡ y' → lt_z y' t ≡ true → lt_z x t ≡ true
    chain x y y' t h k g = sym (omega (arith, ints))

pub at_most_not : (p q : Frac) → at_most p q ≡ not (less q p)
unfolding less at_most
at_most_not p q = by (q.num *ℤ pos p.den) (p.num *ℤ pos q.den)
  where
    by : (x y : ℤ) → le_z y x ≡ not (lt_z x y)
    by x y = cases (lt_z x y) refl
      where
        cases : (t : Bool) → lt_z x y ≡ t → le_z y x ≡ not t
        cases true e = sym (omega (arith, ints))
        cases false e = sym (omega (arith, ints))

-- ---- a fraction has the sign of its numerator, reduced or not
sign_lt : (z : ℤ) (d : ℕ) → 0 < d → lt_z (norm z d).num (pos 0) ≡ lt_z z (pos 0)
sign_lt z d h =
    let q : Frac = norm z d in
    sym (order_lt q.num (pos 0) d h) ∙ ap (λ x. lt_z x (pos 0 *ℤ pos d)) (norm_cross z d h) ∙ ap (lt_z (z *ℤ pos q.den)) (zero_times d ∙ sym (zero_times q.den)) ∙ order_lt z (pos 0) q.den (den_pos q)

sign_le : (z : ℤ) (d : ℕ) → 0 < d → le_z (norm z d).num (pos 0) ≡ le_z z (pos 0)
sign_le z d h =
    let q : Frac = norm z d in
    sym (order_le q.num (pos 0) d h) ∙ ap (λ x. le_z x (pos 0 *ℤ pos d)) (norm_cross z d h) ∙ ap (le_z (z *ℤ pos q.den)) (zero_times d ∙ sym (zero_times q.den)) ∙ order_le z (pos 0) q.den (den_pos q)

less_zero : (x y : ℤ) → lt_z (x -ℤ y) (pos 0) ≡ lt_z x y
less_zero x y = by (lt_z x y) refl
  where
    by : (t : Bool) → lt_z x y ≡ t → lt_z (x -ℤ y) (pos 0) ≡ t
    by true e = sym (omega (arith, ints))
    by false e = sym (omega (arith, ints))

at_most_zero : (x y : ℤ) → le_z (x -ℤ y) (pos 0) ≡ le_z x y
at_most_zero x y = by (le_z x y) refl
  where
    by : (t : Bool) → le_z x y ≡ t → le_z (x -ℤ y) (pos 0) ≡ t
    by true e = sym (omega (arith, ints))
    by false e = sym (omega (arith, ints))

difference : (p q : Frac) → sub p q ≡ norm (p.num *ℤ pos q.den -ℤ q.num *ℤ pos p.den) (p.den * q.den)
difference p q = sub_is p q p.num (pos p.den) q.num (pos q.den) refl refl refl refl

pub less_difference : (p q : Frac) → less p q ≡ lt_z (sub p q).num (pos 0)
unfolding less
less_difference p q =
    sym (ap (λ (r : Frac). lt_z r.num (pos 0)) (difference p q) ∙ sign_lt _ (p.den * q.den) (N.mul-pos (den_pos p) (den_pos q)) ∙ less_zero (p.num *ℤ pos q.den) (q.num *ℤ pos p.den))

pub at_most_difference : (p q : Frac) → at_most p q ≡ le_z (sub p q).num (pos 0)
unfolding at_most
at_most_difference p q =
    sym (ap (λ (r : Frac). le_z r.num (pos 0)) (difference p q) ∙ sign_le _ (p.den * q.den) (N.mul-pos (den_pos p) (den_pos q)) ∙ at_most_zero (p.num *ℤ pos q.den) (q.num *ℤ pos p.den))

-- dividing and multiplying again
pub inverse_is : (y : Frac) → ¬ (y.num ≡ pos 0) → mul y (inverse y) ≡ whole (pos 1)
unfolding inverse whole
inverse_is y h = by y.num refl
  where
    by : (z : ℤ) → y.num ≡ z → mul y (flip y.num y.den) ≡ norm (pos 1) 1
    by (pos zero) e = absurd (h e)
    by (pos (suc n)) e =
        let up : pos 1 ≤ℤ y.num = omega (arith, ints) in
        let a : 0 < nat_abs y.num = omega (arith, ints) in
        let d : ℤ = pos y.den in
        let m : ℤ = pos (nat_abs y.num) in
        let abs : y.num ≡ m = omega (arith, ints) in
        ap (mul y) (flip_pos y.num y.den up) ∙ same _ _ (y.num *ℤ d) (y.den * nat_abs y.num) (pos 1) 1 (as_mul y (norm d (nat_abs y.num)) y.num y.den d (nat_abs y.num) (as_self y) (as_norm d (nat_abs y.num) a)) (as_norm (pos 1) 1 (omega arith))
        (ap (λ t. (t *ℤ d) *ℤ pos 1) abs ∙ solve int_ring (m ∷ d ∷ []) ((var 0 ⊗ var 1) ⊗ unit) (unit ⊗ (var 1 ⊗ var 0)) refl)
    by (negsuc n) e =
        let down : y.num <ℤ pos 0 = omega (arith, ints) in
        let a : 0 < nat_abs y.num = omega (arith, ints) in
        let d : ℤ = pos y.den in
        let m : ℤ = pos (nat_abs y.num) in
        let abs : neg_ℤ y.num ≡ m = omega (arith, ints) in
        ap (mul y) (flip_neg y.num y.den down) ∙ same _ _ (y.num *ℤ neg_ℤ d) (y.den * nat_abs y.num) (pos 1) 1 (as_mul y (norm (neg_ℤ d) (nat_abs y.num)) y.num y.den (neg_ℤ d) (nat_abs y.num) (as_self y) (as_norm (neg_ℤ d) (nat_abs y.num) a)) (as_norm (pos 1) 1 (omega arith))
        (ap (λ t. t *ℤ pos 1) (neg_right y.num d ∙ sym (neg_out y.num d)) ∙ ap (λ t. (t *ℤ d) *ℤ pos 1) abs ∙ solve int_ring (m ∷ d ∷ []) ((var 0 ⊗ var 1) ⊗ unit) (unit ⊗ (var 1 ⊗ var 0)) refl)

pub div_mul : (x y : Frac) → ¬ (y.num ≡ pos 0) → mul (div x y) y ≡ x
unfolding div
div_mul x y h =
    solve frac_ring (x ∷ y ∷ inverse y ∷ []) ((var 0 ⊗ var 2) ⊗ var 1) (var 0 ⊗ (var 1 ⊗ var 2)) refl ∙ ap (mul x) (inverse_is y h) ∙ solve frac_ring (x ∷ []) (var 0 ⊗ unit) (var 0) refl

pub mul_div : (x y : Frac) → ¬ (y.num ≡ pos 0) → div (mul x y) y ≡ x
unfolding div
mul_div x y h =
    solve frac_ring (x ∷ y ∷ inverse y ∷ []) ((var 0 ⊗ var 1) ⊗ var 2) (var 0 ⊗ (var 1 ⊗ var 2)) refl ∙ ap (mul x) (inverse_is y h) ∙ solve frac_ring (x ∷ []) (var 0 ⊗ unit) (var 0) refl
