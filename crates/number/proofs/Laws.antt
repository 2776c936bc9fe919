-- Fractions are a commutative ring.
use Rattle.std.proofs.Common.{◌≡◌, ℕ, ◌+◌, ◌*◌, ◌<◌, [], ◌∷◌, ℤ, pos, ◌*ℤ◌, neg_ℤ, refl, ap, ◌∙◌, arith}
use lib.IntN.{+ℤ_invr}
use Rattle.number.specs.Ring.{Ring}
use Rattle.number.specs.Gcd.{gcd, steps}
use Rattle.number.specs.Frac.{Frac, lowest, norm, add, mul, neg, naught, whole, scale}
use Rattle.number.proofs.Ints.{int_ring}
use Rattle.number.proofs.Solve.{var, nil, unit, ◌⊕◌, ◌⊗◌, solve}
use Rattle.number.proofs.Fracs.{As, as_norm, as_self, same, as_add, as_mul, den_pos}

as_naught : As naught (pos 0) 1
unfolding naught norm lowest gcd steps
as_naught = record { above = omega arith; is = refl }

as_whole : (z : ℤ) → As (whole z) z 1
unfolding whole
as_whole z = as_norm z 1 (omega arith)

as_neg : (p : Frac) → As (neg p) (neg_ℤ p.num) p.den
unfolding neg
as_neg p = as_norm (neg_ℤ p.num) p.den (den_pos p)

add_naught : (p : Frac) → add naught p ≡ p
add_naught p =
    same _ _ _ _ _ _ (as_add _ _ _ _ _ _ as_naught (as_self p)) (as_self p)
    (solve int_ring (p.num ∷ pos p.den ∷ []) ((nil ⊗ var 1 ⊕ var 0 ⊗ unit) ⊗ var 1) (var 0 ⊗ (unit ⊗ var 1)) refl)

add_comm : (p q : Frac) → add p q ≡ add q p
add_comm p q =
    same _ _ _ _ _ _ (as_add _ _ _ _ _ _ (as_self p) (as_self q)) (as_add _ _ _ _ _ _ (as_self q) (as_self p))
    (solve int_ring (p.num ∷ pos p.den ∷ q.num ∷ pos q.den ∷ []) ((var 0 ⊗ var 3 ⊕ var 2 ⊗ var 1) ⊗ (var 3 ⊗ var 1)) ((var 2 ⊗ var 1 ⊕ var 0 ⊗ var 3) ⊗ (var 1 ⊗ var 3)) refl)

add_assoc : (p q r : Frac) → add (add p q) r ≡ add p (add q r)
add_assoc p q r =
    same _ _ _ _ _ _ (as_add _ _ _ _ _ _ (as_add _ _ _ _ _ _ (as_self p) (as_self q)) (as_self r)) (as_add _ _ _ _ _ _ (as_self p) (as_add _ _ _ _ _ _ (as_self q) (as_self r)))
    (solve int_ring (p.num ∷ pos p.den ∷ q.num ∷ pos q.den ∷ r.num ∷ pos r.den ∷ [])
    (((var 0 ⊗ var 3 ⊕ var 2 ⊗ var 1) ⊗ var 5 ⊕ var 4 ⊗ (var 1 ⊗ var 3)) ⊗ (var 1 ⊗ (var 3 ⊗ var 5)))
    ((var 0 ⊗ (var 3 ⊗ var 5) ⊕ (var 2 ⊗ var 5 ⊕ var 4 ⊗ var 3) ⊗ var 1) ⊗ ((var 1 ⊗ var 3) ⊗ var 5)) refl)

mul_naught : (p : Frac) → mul naught p ≡ naught
mul_naught p =
    same _ _ _ _ _ _ (as_mul _ _ _ _ _ _ as_naught (as_self p)) as_naught
    (solve int_ring (p.num ∷ pos p.den ∷ []) ((nil ⊗ var 0) ⊗ unit) (nil ⊗ (unit ⊗ var 1)) refl)

mul_one : (p : Frac) → mul (whole (pos 1)) p ≡ p
mul_one p =
    same _ _ _ _ _ _ (as_mul _ _ _ _ _ _ (as_whole (pos 1)) (as_self p)) (as_self p)
    (solve int_ring (p.num ∷ pos p.den ∷ []) ((unit ⊗ var 0) ⊗ var 1) (var 0 ⊗ (unit ⊗ var 1)) refl)

mul_comm : (p q : Frac) → mul p q ≡ mul q p
mul_comm p q =
    same _ _ _ _ _ _ (as_mul _ _ _ _ _ _ (as_self p) (as_self q)) (as_mul _ _ _ _ _ _ (as_self q) (as_self p))
    (solve int_ring (p.num ∷ pos p.den ∷ q.num ∷ pos q.den ∷ []) ((var 0 ⊗ var 2) ⊗ (var 3 ⊗ var 1)) ((var 2 ⊗ var 0) ⊗ (var 1 ⊗ var 3)) refl)

mul_assoc : (p q r : Frac) → mul (mul p q) r ≡ mul p (mul q r)
mul_assoc p q r =
    same _ _ _ _ _ _ (as_mul _ _ _ _ _ _ (as_mul _ _ _ _ _ _ (as_self p) (as_self q)) (as_self r)) (as_mul _ _ _ _ _ _ (as_self p) (as_mul _ _ _ _ _ _ (as_self q) (as_self r)))
    (solve int_ring (p.num ∷ pos p.den ∷ q.num ∷ pos q.den ∷ r.num ∷ pos r.den ∷ [])
    (((var 0 ⊗ var 2) ⊗ var 4) ⊗ (var 1 ⊗ (var 3 ⊗ var 5)))
    ((var 0 ⊗ (var 2 ⊗ var 4)) ⊗ ((var 1 ⊗ var 3) ⊗ var 5)) refl)

mul_add : (p q r : Frac) → mul p (add q r) ≡ add (mul p q) (mul p r)
mul_add p q r =
    same _ _ _ _ _ _ (as_mul _ _ _ _ _ _ (as_self p) (as_add _ _ _ _ _ _ (as_self q) (as_self r))) (as_add _ _ _ _ _ _ (as_mul _ _ _ _ _ _ (as_self p) (as_self q)) (as_mul _ _ _ _ _ _ (as_self p) (as_self r)))
    (solve int_ring (p.num ∷ pos p.den ∷ q.num ∷ pos q.den ∷ r.num ∷ pos r.den ∷ [])
    ((var 0 ⊗ (var 2 ⊗ var 5 ⊕ var 4 ⊗ var 3)) ⊗ ((var 1 ⊗ var 3) ⊗ (var 1 ⊗ var 5)))
    (((var 0 ⊗ var 2) ⊗ (var 1 ⊗ var 5) ⊕ (var 0 ⊗ var 4) ⊗ (var 1 ⊗ var 3)) ⊗ (var 1 ⊗ (var 3 ⊗ var 5))) refl)

pub frac_ring : Ring naught (whole (pos 1)) add mul
frac_ring = record {
  plus_none = add_naught;
  plus_comm = add_comm;
  plus_assoc = add_assoc;
  times_none = mul_naught;
  times_one = mul_one;
  times_comm = mul_comm;
  times_assoc = mul_assoc;
  times_plus = mul_add;
}

pub add_neg : (p : Frac) → add p (neg p) ≡ naught
add_neg p =
    let n : ℤ = p.num in
    let d : ℤ = pos p.den in
    same _ _ _ _ _ _ (as_add _ _ _ _ _ _ (as_self p) (as_neg p)) as_naught
    (solve int_ring (n ∷ neg_ℤ n ∷ d ∷ []) ((var 0 ⊗ var 2 ⊕ var 1 ⊗ var 2) ⊗ unit) ((var 0 ⊕ var 1) ⊗ var 2) refl ∙ ap (λ t. t *ℤ d) (+ℤ_invr n) ∙ solve int_ring (d ∷ []) (nil ⊗ var 0) (nil ⊗ (var 0 ⊗ var 0)) refl)

pub scale_add : (a b : Frac) (n k : ℕ) → scale (add a b) n k ≡ add (scale a n k) (scale b n k)
unfolding scale
scale_add a b n k = let t : Frac = norm (pos n) k in solve frac_ring (a ∷ b ∷ t ∷ []) ((var 0 ⊕ var 1) ⊗ var 2) (var 0 ⊗ var 2 ⊕ var 1 ⊗ var 2) refl

pub scale_mul : (c a : Frac) (n k : ℕ) → scale (mul c a) n k ≡ mul c (scale a n k)
unfolding scale
scale_mul c a n k = mul_assoc c a (norm (pos n) k)

-- n / k is n times 1 / k
pub part : (n k : ℕ) → 0 < k → norm (pos n) k ≡ mul (whole (pos n)) (norm (pos 1) k)
part n k h =
    same _ _ _ _ _ _ (as_norm (pos n) k h) (as_mul _ _ _ _ _ _ (as_whole (pos n)) (as_norm (pos 1) k h))
    (solve int_ring (pos n ∷ pos k ∷ []) (var 0 ⊗ (unit ⊗ var 1)) ((var 0 ⊗ unit) ⊗ var 1) refl)

pub whole_add : (m n : ℕ) → whole (pos (m + n)) ≡ add (whole (pos m)) (whole (pos n))
whole_add m n =
    same _ _ _ _ _ _ (as_whole (pos (m + n))) (as_add _ _ _ _ _ _ (as_whole (pos m)) (as_whole (pos n)))
    (solve int_ring (pos m ∷ pos n ∷ []) ((var 0 ⊕ var 1) ⊗ (unit ⊗ unit)) ((var 0 ⊗ unit ⊕ var 1 ⊗ unit) ⊗ unit) refl)

pub whole_mul : (m n : ℕ) → whole (pos (m * n)) ≡ mul (whole (pos m)) (whole (pos n))
whole_mul m n =
    same _ _ _ _ _ _ (as_whole (pos (m * n))) (as_mul _ _ _ _ _ _ (as_whole (pos m)) (as_whole (pos n)))
    (solve int_ring (pos m ∷ pos n ∷ []) ((var 0 ⊗ var 1) ⊗ (unit ⊗ unit)) ((var 0 ⊗ var 1) ⊗ unit) refl)
