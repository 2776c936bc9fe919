-- Products of two numbers of 32 bits fit 64 bits.
use Rattle.std.proofs.Common.{◌≡◌, ℕ, zero, suc, ◌*◌, ◌≤◌, ℤ, pos, negsuc, ◌*ℤ◌, neg_ℤ, nat_abs, refl, ◌∙◌, ap₂, arith, w64, SFits, to_z, of_z}
use native.Mathlib.Nat as N
use Rattle.std.proofs.lemmas.Int.{ints, to_z-of_z}

abs_neg : (m : ℕ) → nat_abs (neg_ℤ (pos m)) ≡ m
abs_neg zero = refl
abs_neg (suc m) = refl

pub abs_product : (a b : ℤ) → nat_abs (a *ℤ b) ≡ nat_abs a * nat_abs b
abs_product (pos a) (pos b) = refl
abs_product (pos a) (negsuc b) = abs_neg (a * suc b)
abs_product (negsuc a) (pos b) = abs_neg (suc a * b)
abs_product (negsuc a) (negsuc b) = refl

pub product_small : (a b : ℤ) → nat_abs a ≤ 2147483647 → nat_abs b ≤ 2147483647 → nat_abs (a *ℤ b) ≤ 4611686014132420609
product_small a b ha hb = omega (arith, abs_product a b, N.mul-le-mul ha hb)

pub long_fits : (z : ℤ) → nat_abs z ≤ 4611686014132420609 → SFits w64 z
long_fits z h = omega (arith, ints)

pub product_fits : (a b : ℤ) → nat_abs a ≤ 2147483647 → nat_abs b ≤ 2147483647 → SFits w64 (a *ℤ b)
product_fits a b ha hb = long_fits (a *ℤ b) (product_small a b ha hb)

pub product_back : (a b : ℤ) → SFits w64 a → SFits w64 b → nat_abs a ≤ 2147483647 → nat_abs b ≤ 2147483647 → to_z w64 (of_z w64 (to_z w64 (of_z w64 a) *ℤ to_z w64 (of_z w64 b))) ≡ a *ℤ b
product_back a b fa fb ha hb =
    ap₂ (λ x y. to_z w64 (of_z w64 (x *ℤ y))) (to_z-of_z w64 a fa) (to_z-of_z w64 b fb) ∙ to_z-of_z w64 (a *ℤ b) (product_fits a b ha hb)
