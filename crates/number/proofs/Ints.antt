-- The integers as a ring.
use Rattle.std.proofs.Common.{◌≡◌, ℕ, zero, suc, ◌+◌, ◌*◌, ◌<◌, ℤ, pos, negsuc, ◌+ℤ◌, ◌*ℤ◌, neg_ℤ, nat_abs, refl, ap, ◌∙◌, arith}
use native.Mathlib.Nat as N
use lib.IntN.{+ℤ_idl, +ℤ_comm, +ℤ_assoc, zero-*ℤ, *ℤ_comm}
use borrow.Author.Differences.{up, down, ints, same_in, same_out, product_is, sum_is_lem, neg_is}
use Rattle.number.specs.Ring.{Ring}

up_mul : (a b : ℤ) → up (a *ℤ b) ≡ up a * up b + down a * down b
up_mul a b = (product_is a b).0

down_mul : (a b : ℤ) → down (a *ℤ b) ≡ up a * down b + down a * up b
down_mul a b = (product_is a b).1

assoc : (a b c : ℤ) → (a *ℤ b) *ℤ c ≡ a *ℤ (b *ℤ c)
assoc a b c = same_in _ _ (simp (up_mul, down_mul) (omega arith))

distrib : (a b c : ℤ) → a *ℤ (b +ℤ c) ≡ a *ℤ b +ℤ a *ℤ c
distrib a b c =
    same_in _ _
    (omega (arith, product_is a (b +ℤ c), sum_is_lem (a *ℤ b) (a *ℤ c), product_is a b, product_is a c, ap (λ t. up a * t) (sum_is_lem b c), ap (λ t. down a * t) (sum_is_lem b c)))

one_times : (a : ℤ) → pos 1 *ℤ a ≡ a
one_times a = omega (arith, ints)

pub int_ring : Ring (pos 0) (pos 1) ◌+ℤ◌ ◌*ℤ◌
int_ring = record {
  plus_none = +ℤ_idl;
  plus_comm = +ℤ_comm;
  plus_assoc = +ℤ_assoc;
  times_none = zero-*ℤ;
  times_one = one_times;
  times_comm = *ℤ_comm;
  times_assoc = assoc;
  times_plus = distrib;
}

-- to cancel a positive factor
pub cancel : (a b : ℤ) (d : ℕ) → 0 < d → a *ℤ pos d ≡ b *ℤ pos d → a ≡ b
cancel a b d h e =
    let o = same_out _ _ e in
    same_in a b (N.eq_of_mul-eq-mul_right d h (up a + down b) (up b + down a) (omega (arith, o, product_is a (pos d), product_is b (pos d))))

pub abs_times : (a : ℤ) (d : ℕ) → nat_abs (a *ℤ pos d) ≡ nat_abs a * d
abs_times (pos n) d = refl
abs_times (negsuc n) d = abs_neg (suc n * d)
  where
    abs_neg : (m : ℕ) → nat_abs (neg_ℤ (pos m)) ≡ m
    abs_neg zero = refl
    abs_neg (suc m) = refl

up_neg : (a : ℤ) → up (neg_ℤ a) ≡ down a
up_neg a = (neg_is a).0

down_neg : (a : ℤ) → down (neg_ℤ a) ≡ up a
down_neg a = (neg_is a).1

pub neg_out : (a b : ℤ) → neg_ℤ a *ℤ b ≡ neg_ℤ (a *ℤ b)
neg_out a b = same_in _ _ (simp (up_mul, down_mul, up_neg, down_neg) (omega arith))

pub neg_right : (a b : ℤ) → a *ℤ neg_ℤ b ≡ neg_ℤ (a *ℤ b)
neg_right a b = *ℤ_comm a (neg_ℤ b) ∙ neg_out b a ∙ ap neg_ℤ (*ℤ_comm b a)

pub abs_of_neg : (a : ℤ) → nat_abs (neg_ℤ a) ≡ nat_abs a
abs_of_neg (pos zero) = refl
abs_of_neg (pos (suc n)) = refl
abs_of_neg (negsuc n) = refl
