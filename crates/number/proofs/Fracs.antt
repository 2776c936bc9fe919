-- The laws of fractions.
use Rattle.std.proofs.Common.{◌≡◌, ℕ, zero, suc, ◌*◌, ◌/◌, ◌<◌, Bool, true, false, ◌&&◌, T, eqb, leb, [], ◌∷◌, ℤ, pos, negsuc, ◌+ℤ◌, ◌*ℤ◌, neg_ℤ, nat_abs, sym, refl, ap, ◌∙◌, ap₂, arith, eqb→eq, leb→le}
use mathlib.Core.HLevel.{is_prop→PathP}
use native.Mathlib.Nat as N
use lib.Dec.{T_prop}
use lib.Signed.{quot_z}
use Rattle.number.specs.Gcd.{gcd}
use Rattle.number.specs.Divisors.{gcd_left, gcd_right, unique_den}
use Rattle.number.specs.Lowest.{lowest_from}
use Rattle.number.specs.Frac.{Frac, lowest, norm, add, mul, whole}
use Rattle.number.proofs.Ints.{int_ring, cancel, abs_times}
use Rattle.number.proofs.Solve.{var, ◌⊕◌, ◌⊗◌, solve}

-- equal numerators and denominators make equal fractions
pub frac_same : (p q : Frac) → p.num ≡ q.num → p.den ≡ q.den → p ≡ q
frac_same p q e f = λ i. record { num = e i; den = f i; low = is_prop→PathP (λ j. T (lowest (e j) (f j))) (λ j. T_prop (lowest (e j) (f j))) p.low q.low i }

and_T : (a b : Bool) → T (a && b) → T a × T b
and_T true b t = (tt, t)
and_T false b t = absurd t

pub den_pos : (p : Frac) → 0 < p.den
unfolding lowest
den_pos p = leb→le 1 p.den (and_T (leb 1 p.den) (eqb (gcd (nat_abs p.num) p.den) 1) p.low).0

pub coprime : (p : Frac) → gcd (nat_abs p.num) p.den ≡ 1
unfolding lowest
coprime p = eqb→eq (gcd (nat_abs p.num) p.den) 1 (and_T (leb 1 p.den) (eqb (gcd (nat_abs p.num) p.den) 1) p.low).1

-- fractions with equal cross products are equal
pub frac_cross : (p q : Frac) → p.num *ℤ pos q.den ≡ q.num *ℤ pos p.den → p ≡ q
frac_cross p q e =
    let f : p.den ≡ q.den = unique_den _ _ _ _ (coprime p) (coprime q) (sym (abs_times p.num q.den) ∙ ap nat_abs e ∙ abs_times q.num p.den) in
    frac_same p q (cancel p.num q.num p.den (den_pos p) (ap (λ d. p.num *ℤ pos d) f ∙ e)) f

over_nat : (n g d : ℕ) → g * (n / g) ≡ n → g * (d / g) ≡ d → (n / g) * d ≡ n * (d / g)
over_nat n g d en ed = omega (arith, ap (λ x. (n / g) * x) ed, ap (λ x. x * (d / g)) en)

neg_times : (m d : ℕ) → neg_ℤ (pos m) *ℤ pos d ≡ neg_ℤ (pos (m * d))
neg_times zero d = ap pos (omega arith) ∙ ap (λ x. neg_ℤ (pos x)) (sym (N.zero-mul d))
neg_times (suc m) d = refl

over : (z : ℤ) (g d : ℕ) → g * (nat_abs z / g) ≡ nat_abs z → g * (d / g) ≡ d → quot_z z (pos g) *ℤ pos d ≡ z *ℤ pos (d / g)
over (pos n) g d en ed = ap pos (over_nat n g d en ed)
over (negsuc n) g d en ed = neg_times (suc n / g) d ∙ ap (λ x. neg_ℤ (pos x)) (over_nat (suc n) g d en ed)

pub norm_cross : (z : ℤ) (d : ℕ) → 0 < d → (norm z d).num *ℤ pos d ≡ z *ℤ pos (norm z d).den
unfolding norm
norm_cross z zero h = absurd (omega arith)
norm_cross z (suc d) h =
    let g : ℕ = gcd (nat_abs z) (suc d) in
    over z g (suc d) (N.mul-div_cancel' g (gcd_left (nat_abs z) (suc d))) (N.mul-div_cancel' g (gcd_right (nat_abs z) (suc d)))

-- equal cross products give equal fractions
pub norm_eq : (a : ℤ) (b : ℕ) (c : ℤ) (d : ℕ) → 0 < b → 0 < d → a *ℤ pos d ≡ c *ℤ pos b → norm a b ≡ norm c d
norm_eq a b c d hb hd e =
    let x : ℤ = (norm a b).num in
    let u : ℕ = (norm a b).den in
    let y : ℤ = (norm c d).num in
    let v : ℕ = (norm c d).den in
    let B : ℤ = pos b in
    let D : ℤ = pos d in
    let U : ℤ = pos u in
    let V : ℤ = pos v in
    let s1 : (x *ℤ V) *ℤ (B *ℤ D) ≡ (x *ℤ B) *ℤ (V *ℤ D) = solve int_ring (x ∷ V ∷ B ∷ D ∷ []) ((var 0 ⊗ var 1) ⊗ (var 2 ⊗ var 3)) ((var 0 ⊗ var 2) ⊗ (var 1 ⊗ var 3)) refl in
    let s2 : (x *ℤ B) *ℤ (V *ℤ D) ≡ (a *ℤ U) *ℤ (V *ℤ D) = ap (λ t. t *ℤ (V *ℤ D)) (norm_cross a b hb) in
    let s3 : (a *ℤ U) *ℤ (V *ℤ D) ≡ (a *ℤ D) *ℤ (U *ℤ V) = solve int_ring (a ∷ U ∷ V ∷ D ∷ []) ((var 0 ⊗ var 1) ⊗ (var 2 ⊗ var 3)) ((var 0 ⊗ var 3) ⊗ (var 1 ⊗ var 2)) refl in
    let s4 : (a *ℤ D) *ℤ (U *ℤ V) ≡ (c *ℤ B) *ℤ (U *ℤ V) = ap (λ t. t *ℤ (U *ℤ V)) e in
    let s5 : (c *ℤ B) *ℤ (U *ℤ V) ≡ (c *ℤ V) *ℤ (B *ℤ U) = solve int_ring (c ∷ B ∷ U ∷ V ∷ []) ((var 0 ⊗ var 1) ⊗ (var 2 ⊗ var 3)) ((var 0 ⊗ var 3) ⊗ (var 1 ⊗ var 2)) refl in
    let s6 : (c *ℤ V) *ℤ (B *ℤ U) ≡ (y *ℤ D) *ℤ (B *ℤ U) = ap (λ t. t *ℤ (B *ℤ U)) (sym (norm_cross c d hd)) in
    let s7 : (y *ℤ D) *ℤ (B *ℤ U) ≡ (y *ℤ U) *ℤ (B *ℤ D) = solve int_ring (y ∷ D ∷ B ∷ U ∷ []) ((var 0 ⊗ var 1) ⊗ (var 2 ⊗ var 3)) ((var 0 ⊗ var 3) ⊗ (var 2 ⊗ var 1)) refl in
    frac_cross (norm a b) (norm c d) (cancel (x *ℤ V) (y *ℤ U) (b * d) (N.mul-pos hb hd) (s1 ∙ s2 ∙ s3 ∙ s4 ∙ s5 ∙ s6 ∙ s7))

-- the lowest terms of a whole number
pub whole_is : (z : ℤ) → ((whole z).num ≡ z) × ((whole z).den ≡ 1)
unfolding whole
whole_is z =
    let q : Frac = record { num = z; den = 1; low = lowest_from z 1 (omega arith) (N.eq-one_of_dvd-one (gcd_right (nat_abs z) 1)) } in
    let e : norm z 1 ≡ q = frac_cross (norm z 1) q (norm_cross z 1 (omega arith)) in
    (ap (λ (r : Frac). r.num) e, ap (λ (r : Frac). r.den) e)

-- q is the fraction a / b
pub record As (q : Frac) (a : ℤ) (b : ℕ) : Type 0 where
  pub above : 0 < b
  pub is : q ≡ norm a b

pub as_norm : (a : ℤ) (b : ℕ) → 0 < b → As (norm a b) a b
as_norm a b h = record { above = h; is = refl }

pub as_self : (q : Frac) → As q q.num q.den
as_self q = record { above = den_pos q; is = frac_cross q (norm q.num q.den) (sym (norm_cross q.num q.den (den_pos q))) }

pub same : (p q : Frac) (a : ℤ) (b : ℕ) (c : ℤ) (d : ℕ) → As p a b → As q c d → a *ℤ pos d ≡ c *ℤ pos b → p ≡ q
same p q a b c d f g e = f.is ∙ norm_eq a b c d f.above g.above e ∙ sym g.is

pub as_add : (p q : Frac) (a : ℤ) (b : ℕ) (c : ℤ) (d : ℕ) → As p a b → As q c d → As (add p q) (a *ℤ pos d +ℤ c *ℤ pos b) (b * d)
unfolding add
as_add p q a b c d f g =
    let hb : 0 < b = f.above in
    let hd : 0 < d = g.above in
    let P : Frac = norm a b in
    let Q : Frac = norm c d in
    let x : ℤ = P.num in
    let y : ℤ = Q.num in
    let B : ℤ = pos b in
    let D : ℤ = pos d in
    let U : ℤ = pos P.den in
    let V : ℤ = pos Q.den in
    let s1 : (x *ℤ V +ℤ y *ℤ U) *ℤ (B *ℤ D) ≡ (x *ℤ B) *ℤ (V *ℤ D) +ℤ (y *ℤ D) *ℤ (U *ℤ B) = solve int_ring (x ∷ y ∷ B ∷ D ∷ U ∷ V ∷ []) ((var 0 ⊗ var 5 ⊕ var 1 ⊗ var 4) ⊗ (var 2 ⊗ var 3)) ((var 0 ⊗ var 2) ⊗ (var 5 ⊗ var 3) ⊕ (var 1 ⊗ var 3) ⊗ (var 4 ⊗ var 2)) refl in
    let s2 : (x *ℤ B) *ℤ (V *ℤ D) +ℤ (y *ℤ D) *ℤ (U *ℤ B) ≡ (a *ℤ U) *ℤ (V *ℤ D) +ℤ (c *ℤ V) *ℤ (U *ℤ B) = ap₂ (λ s t. s *ℤ (V *ℤ D) +ℤ t *ℤ (U *ℤ B)) (norm_cross a b hb) (norm_cross c d hd) in
    let s3 : (a *ℤ U) *ℤ (V *ℤ D) +ℤ (c *ℤ V) *ℤ (U *ℤ B) ≡ (a *ℤ D +ℤ c *ℤ B) *ℤ (U *ℤ V) = solve int_ring (a ∷ c ∷ B ∷ D ∷ U ∷ V ∷ []) ((var 0 ⊗ var 4) ⊗ (var 5 ⊗ var 3) ⊕ (var 1 ⊗ var 5) ⊗ (var 4 ⊗ var 2)) ((var 0 ⊗ var 3 ⊕ var 1 ⊗ var 2) ⊗ (var 4 ⊗ var 5)) refl in
    record {
      above = N.mul-pos hb hd;
      is = ap₂ add f.is g.is ∙ norm_eq (x *ℤ V +ℤ y *ℤ U) (P.den * Q.den) (a *ℤ D +ℤ c *ℤ B) (b * d) (N.mul-pos (den_pos P) (den_pos Q)) (N.mul-pos hb hd) (s1 ∙ s2 ∙ s3);
    }

pub as_mul : (p q : Frac) (a : ℤ) (b : ℕ) (c : ℤ) (d : ℕ) → As p a b → As q c d → As (mul p q) (a *ℤ c) (b * d)
unfolding mul
as_mul p q a b c d f g =
    let hb : 0 < b = f.above in
    let hd : 0 < d = g.above in
    let P : Frac = norm a b in
    let Q : Frac = norm c d in
    let x : ℤ = P.num in
    let y : ℤ = Q.num in
    let B : ℤ = pos b in
    let D : ℤ = pos d in
    let U : ℤ = pos P.den in
    let V : ℤ = pos Q.den in
    let s1 : (x *ℤ y) *ℤ (B *ℤ D) ≡ (x *ℤ B) *ℤ (y *ℤ D) = solve int_ring (x ∷ y ∷ B ∷ D ∷ []) ((var 0 ⊗ var 1) ⊗ (var 2 ⊗ var 3)) ((var 0 ⊗ var 2) ⊗ (var 1 ⊗ var 3)) refl in
    let s2 : (x *ℤ B) *ℤ (y *ℤ D) ≡ (a *ℤ U) *ℤ (c *ℤ V) = ap₂ (λ s t. s *ℤ t) (norm_cross a b hb) (norm_cross c d hd) in
    let s3 : (a *ℤ U) *ℤ (c *ℤ V) ≡ (a *ℤ c) *ℤ (U *ℤ V) = solve int_ring (a ∷ c ∷ U ∷ V ∷ []) ((var 0 ⊗ var 2) ⊗ (var 1 ⊗ var 3)) ((var 0 ⊗ var 1) ⊗ (var 2 ⊗ var 3)) refl in
    record {
      above = N.mul-pos hb hd;
      is = ap₂ mul f.is g.is ∙ norm_eq (x *ℤ y) (P.den * Q.den) (a *ℤ c) (b * d) (N.mul-pos (den_pos P) (den_pos Q)) (N.mul-pos hb hd) (s1 ∙ s2 ∙ s3);
    }
