-- What the answers of a kind say of fractions.
use Rattle.std.proofs.Common.{◌≡◌, ℕ, Bool, true, false, cond, ◌&&◌, leb, Some, None, Ok, Err, Option, Result, sym, refl, ap, ◌∙◌, ap₂, arith}
use Rattle.number.specs.declared.Pair.{Pair}
use Rattle.number.specs.declared.Quantity.{Quantity}
use Rattle.number.specs.declared.Fault.{Fault}
use Rattle.number.specs.declared.Fault.TheVariants.{NotHeld}
use Rattle.number.specs.Frac.{Frac, add, scale, horner}
use Rattle.number.specs.Kind.{Holds, held, of_one, of_two, exact2, scaled, stepped, worked, then}

pub err_ok : {A : Type 0} (e : Fault) (a : A) → ◌≡◌ {A = Result A Fault} (Err e) (Ok a) → ⊥
err_ok e a h = let z : ◌≡◌ {A = ℕ} 0 1 = cc in omega arith

pub held_ok : (o : Option Pair) (p : Pair) → held o ≡ Ok p → o ≡ Some p
held_ok (Some x) p h = cc
held_ok None p h = absurd (err_ok NotHeld p h)

module _ (means : Pair → Option Frac) (code : Frac → Option Pair) (laws : Holds means code) where
  pub exact2_means : (op : Frac → Frac → Frac) (d r p : Pair) (x y : Frac) → means d ≡ Some x → means r ≡ Some y → exact2 means code op d r ≡ Ok p → means p ≡ Some (op x y)
  exact2_means op d r p x y ex ey h =
      laws.back (op x y) p (held_ok (code (op x y)) p (sym (ap₂ (of_two (λ s t. held (code (op s t)))) ex ey) ∙ h))

  pub scaled_means : (r p : Pair) (y : Frac) (n k : ℕ) → means r ≡ Some y → scaled means code r n k ≡ Ok p → means p ≡ Some (scale y n k)
  scaled_means r p y n k ey h = by (leb n 2147483647 && (leb 1 k && leb k 4)) h
    where
      by : (b : Bool) → cond b (of_one (λ x. held (code (scale x n k))) (means r)) (Err NotHeld) ≡ Ok p → means p ≡ Some (scale y n k)
      by true e = laws.back (scale y n k) p (held_ok (code (scale y n k)) p (sym (ap (of_one (λ x. held (code (scale x n k)))) ey) ∙ e))
      by false e = absurd (err_ok NotHeld p e)

  pub stepped_means : (d r p : Pair) (x y : Frac) (n k : ℕ) → means d ≡ Some x → means r ≡ Some y → stepped means code d r n k ≡ Ok p → means p ≡ Some (add x (scale y n k))
  stepped_means d r p x y n k ex ey h = by (scaled means code r n k) refl h
    where
      by : (s : Result Pair Fault) → scaled means code r n k ≡ s → then s (λ t. exact2 means code add d t) ≡ Ok p → means p ≡ Some (add x (scale y n k))
      by (Ok s) es e = exact2_means add d s p x (scale y n k) ex (scaled_means r s y n k ey es) e
      by (Err f) es e = absurd (err_ok f p e)

  pub horner_means : (d0 d1 d2 d3 d4 r3 r2 r1 p : Pair) (x0 x1 x2 x3 x4 : Frac) (n : ℕ) → means d0 ≡ Some x0 → means d1 ≡ Some x1 → means d2 ≡ Some x2 → means d3 ≡ Some x3 → means d4 ≡ Some x4 → stepped means code d3 d4 n 4 ≡ Ok r3 → stepped means code d2 r3 n 3 ≡ Ok r2 → stepped means code d1 r2 n 2 ≡ Ok r1 → stepped means code d0 r1 n 1 ≡ Ok p → means p ≡ Some (horner x0 x1 x2 x3 x4 n)
  unfolding horner
  horner_means d0 d1 d2 d3 d4 r3 r2 r1 p x0 x1 x2 x3 x4 n e0 e1 e2 e3 e4 s3 s2 s1 s0 =
      stepped_means d0 r1 p _ _ n 1 e0 (stepped_means d1 r2 r1 _ _ n 2 e1 (stepped_means d2 r3 r2 _ _ n 3 e2 (stepped_means d3 d4 r3 _ _ n 4 e3 e4 s3) s2) s1) s0

module _ (means : Pair → Option Frac) (code : Frac → Option Pair) where
  pub worked_is : (q : Quantity) (r3 r2 r1 : Pair) (n : ℕ) → Ok r3 ≡ stepped means code q.d3 q.d4 n 4 → Ok r2 ≡ stepped means code q.d2 r3 n 3 → Ok r1 ≡ stepped means code q.d1 r2 n 2 → stepped means code q.d0 r1 n 1 ≡ worked means code q n
  worked_is q r3 r2 r1 n s3 s2 s1 =
      ap (λ z. then z (λ t1. stepped means code q.d0 t1 n 1)) s1
      ∙ ap (λ z. then z (λ t2. then (stepped means code q.d1 t2 n 2) (λ t1. stepped means code q.d0 t1 n 1))) s2
      ∙ ap (λ z. then z (λ t3. then (stepped means code q.d2 t3 n 3) (λ t2. then (stepped means code q.d1 t2 n 2) (λ t1. stepped means code q.d0 t1 n 1)))) s3
