-- Lowest terms, and that dividing by the greatest common divisor reaches them.
use Rattle.std.specs.Prelude.{◌≡◌, ℕ, zero, suc, ◌/◌, ◌<◌, ◌≤◌, Bool, true, false, ◌&&◌, T, ℤ, pos, negsuc, neg_ℤ, ◌==◌, int_div, nat_le, unsigned_abs, refl}
use Rattle.std.proofs.Common.{sym, ap, subst, ◌∙◌, arith, le→leb}
use Rattle.std.proofs.Math.Nat as N
use Rattle.number.specs.Gcd.{gcd}
use Rattle.number.specs.Divisors.{gcd_pos, gcd_right, gcd_reduced}

-- z / d is in lowest terms: d is at least 1, and no number above 1 divides both
unfoldable pub lowest : ℤ → ℕ → Bool
lowest z d = nat_le 1 d && gcd (unsigned_abs z) d == 1

-- two tests that hold
pub both_t : (a b : Bool) → T a → T b → T (a && b)
both_t true b p q = q
both_t false b p q = p

-- what lowest terms are
pub lowest_from : (z : ℤ) (d : ℕ) → 1 ≤ d → gcd (unsigned_abs z) d ≡ 1 → T (lowest z d)
unfolding lowest
lowest_from z d h e = both_t (nat_le 1 d) (gcd (unsigned_abs z) d == 1) (le→leb 1 d h) (subst (λ x. T (x == 1)) (sym e) tt)

-- dividing by g divides the size by g
pub abs_quot : (z : ℤ) (g : ℕ) → unsigned_abs (int_div z (pos g)) ≡ unsigned_abs z / g
abs_quot (pos n) g = refl
abs_quot (negsuc n) g = abs_neg (suc n / g)
  where
    abs_neg : (m : ℕ) → unsigned_abs (neg_ℤ (pos m)) ≡ m
    abs_neg zero = refl
    abs_neg (suc m) = refl

-- z / d divided through by the common divisor is in lowest terms
pub reduced_low : (z : ℤ) (d : ℕ) → 0 < d → T (lowest (int_div z (pos (gcd (unsigned_abs z) d))) (d / gcd (unsigned_abs z) d))
reduced_low z d h =
    let g : ℕ = gcd (unsigned_abs z) d in
    let p : 0 < g = gcd_pos (unsigned_abs z) d h in
    lowest_from (int_div z (pos g)) (d / g) ((N.le-div_iff_mul-le p).1 (omega (arith, N.le_of_dvd h (gcd_right (unsigned_abs z) d))))
    (ap (λ x. gcd x (d / g)) (abs_quot z g) ∙ gcd_reduced (unsigned_abs z) d h)
