-- The theorems of fractions and of the answers of a kind, together.
use Rattle.std.proofs.Common.{◌≡◌, ℕ, ◌+◌, ◌<◌, ◌≤◌, Bool, true, false, cond, not, eqb, [], ◌∷◌, ℤ, pos, ◌*ℤ◌, nat_abs, Some, None, Ok, Err, Option, Result, sym, refl, ap, ◌∙◌, ap₂, arith}
use Rattle.number.specs.declared.Pair.{Pair}
use Rattle.number.specs.declared.Fault.{Fault}
use Rattle.number.specs.declared.Fault.TheVariants.{NotHeld, ZeroDivisor}
use Rattle.number.specs.Gcd.{gcd, steps}
use Rattle.number.specs.Frac.{Frac, lowest, norm, add, neg, sub, mul, inverse, flip, div, naught, whole, scale, less, at_most, horner}
use Rattle.number.specs.Kind.{Holds, held, of_two, exact2, divided, asked2, is_naught}
use Rattle.number.specs.Theorems.{Equality, CommutativeRing, Scaling, Division, Order, Flow, Polynomial, Examples, Answers}
use Rattle.number.proofs.Ints.{int_ring, cancel}
use Rattle.number.proofs.Solve.{var, nil, ◌⊕◌, ◌⊗◌, solve}
use Rattle.number.proofs.Fracs.{as_self, as_norm, as_add, same, frac_same, norm_eq, norm_cross, den_pos, coprime}
use Rattle.number.proofs.Laws.{frac_ring, add_neg, scale_add, scale_mul}
use Rattle.number.proofs.Order.{less_irrefl, less_trans, less_total, at_most_not, less_difference, at_most_difference, div_mul, mul_div}
use Rattle.number.proofs.Flow.{flow, polynomial}
use Rattle.number.proofs.Answered.{err_ok, held_ok}

cross : (a : ℤ) (b : ℕ) (c : ℤ) (d : ℕ) → 0 < b → 0 < d → norm a b ≡ norm c d → a *ℤ pos d ≡ c *ℤ pos b
cross a b c d hb hd e =
    let p : Frac = norm a b in
    let q : Frac = norm c d in
    let U : ℤ = pos p.den in
    let B : ℤ = pos b in
    let D : ℤ = pos d in
    let x : ℤ = p.num in
    let s1 : (a *ℤ D) *ℤ U ≡ (a *ℤ U) *ℤ D = solve int_ring (a ∷ D ∷ U ∷ []) ((var 0 ⊗ var 1) ⊗ var 2) ((var 0 ⊗ var 2) ⊗ var 1) refl in
    let s2 : (a *ℤ U) *ℤ D ≡ (x *ℤ B) *ℤ D = ap (λ t. t *ℤ D) (sym (norm_cross a b hb)) in
    let s3 : (x *ℤ B) *ℤ D ≡ (x *ℤ D) *ℤ B = solve int_ring (x ∷ B ∷ D ∷ []) ((var 0 ⊗ var 1) ⊗ var 2) ((var 0 ⊗ var 2) ⊗ var 1) refl in
    let s4 : (x *ℤ D) *ℤ B ≡ (c *ℤ U) *ℤ B = ap (λ t. t *ℤ B) (ap (λ (r : Frac). r.num *ℤ D) e ∙ norm_cross c d hd ∙ ap (λ (r : Frac). c *ℤ pos r.den) (sym e)) in
    let s5 : (c *ℤ U) *ℤ B ≡ (c *ℤ B) *ℤ U = solve int_ring (c ∷ U ∷ B ∷ []) ((var 0 ⊗ var 1) ⊗ var 2) ((var 0 ⊗ var 2) ⊗ var 1) refl in
    cancel (a *ℤ D) (c *ℤ B) p.den (den_pos p) (s1 ∙ s2 ∙ s3 ∙ s4 ∙ s5)

pub equality : Equality
equality = record {
  den_positive = den_pos;
  coprime = coprime;
  by_terms = frac_same;
  own_terms = λ q. sym (as_self q).is;
  by_cross = norm_eq;
  to_cross = cross;
}

subtracted : (p q : Frac) → add (sub p q) q ≡ p
unfolding sub
subtracted p q =
    solve frac_ring (p ∷ q ∷ neg q ∷ []) ((var 0 ⊕ var 2) ⊕ var 1) (var 0 ⊕ (var 1 ⊕ var 2)) refl ∙ ap (add p) (add_neg q) ∙ solve frac_ring (p ∷ []) (var 0 ⊕ nil) (var 0) refl

pub commutative_ring : CommutativeRing
commutative_ring = record { ring = frac_ring; negated = add_neg; subtracted = subtracted }

parts : (n m k : ℕ) → 1 ≤ k → norm (pos (n + m)) k ≡ add (norm (pos n) k) (norm (pos m) k)
parts n m k h =
    same _ _ _ _ _ _ (as_norm (pos (n + m)) k h) (as_add _ _ _ _ _ _ (as_norm (pos n) k h) (as_norm (pos m) k h))
    (solve int_ring (pos n ∷ pos m ∷ pos k ∷ []) ((var 0 ⊕ var 1) ⊗ (var 2 ⊗ var 2)) ((var 0 ⊗ var 2 ⊕ var 1 ⊗ var 2) ⊗ var 2) refl)

scale_parts : (a : Frac) (n m k : ℕ) → 1 ≤ k → scale a (n + m) k ≡ add (scale a n k) (scale a m k)
unfolding scale
scale_parts a n m k h = ap (mul a) (parts n m k h) ∙ frac_ring.times_plus a (norm (pos n) k) (norm (pos m) k)

scale_product : (a : Frac) (n k : ℕ) → scale a n k ≡ mul a (norm (pos n) k)
unfolding scale
scale_product a n k = refl

pub scaling : Scaling
scaling = record { product = scale_product; over_sum = scale_add; over_parts = scale_parts; over_product = scale_mul }

pub division : Division
division = record { multiplied = div_mul; divided_back = mul_div }

pub order : Order
order = record {
  never_self = less_irrefl;
  chains = less_trans;
  total = less_total;
  at_most_when = at_most_not;
  less_by_difference = less_difference;
  at_most_by_difference = at_most_difference;
}

pub flows : Flow
flows = flow

pub horners : Polynomial
horners = polynomial

pub examples : Examples
unfolding add sub neg mul inverse flip div scale less horner whole norm naught lowest gcd steps
examples = record {
  sum = refl;
  lowest_num = refl;
  lowest_den = refl;
  difference = refl;
  quotient = refl;
  scaled = refl;
  two_ticks = refl;
  long_product = refl;
  long_sum = refl;
  long_order = refl;
}

-- ---- the answers of a kind
module _ (means : Pair → Option Frac) (code : Frac → Option Pair) (laws : Holds means code) where
  swap_two : {A : Type 0} (f g : Frac → Frac → Result A Fault) → ((x y : Frac) → f x y ≡ g y x) → (o o' : Option Frac) → of_two f o o' ≡ of_two g o' o
  swap_two f g e (Some x) (Some y) = e x y
  swap_two f g e (Some x) None = refl
  swap_two f g e None (Some y) = refl
  swap_two f g e None None = refl

  one_pair : (p q : Pair) (x : Frac) → means p ≡ Some x → means q ≡ Some x → p ≡ q
  one_pair p q x e f = let s : Some p ≡ Some q = sym (laws.forth p x e) ∙ laws.forth q x f in cc

  -- what both operands mean, where there is an answer
  record Both {A : Type 0} (f : Frac → Frac → Result A Fault) (p q : Pair) (a : A) : Type 0 where
    left : Frac
    right : Frac
    left_is : means p ≡ Some left
    right_is : means q ≡ Some right
    gives : f left right ≡ Ok a

  both : {A : Type 0} (f : Frac → Frac → Result A Fault) (p q : Pair) (a : A) → of_two f (means p) (means q) ≡ Ok a → Both f p q a
  both f p q a h = by (means p) (means q) refl refl h
    where
      by : (o o' : Option Frac) → means p ≡ o → means q ≡ o' → of_two f o o' ≡ Ok a → Both f p q a
      by (Some x) (Some y) e e' h = record { left = x; right = y; left_is = e; right_is = e'; gives = h }
      by (Some x) None e e' h = absurd (err_ok NotHeld a h)
      by None o' e e' h = absurd (err_ok NotHeld a h)

  -- where op undoes what gave s, it gives the left operand again
  returned : (op : Frac → Frac → Frac) (p q s : Pair) (x y z : Frac) → means p ≡ Some x → means q ≡ Some y → code z ≡ Some s → op z y ≡ x → exact2 means code op s q ≡ Ok p
  returned op p q s x y z ep eq es e =
      ap₂ (of_two (λ u v. held (code (op u v)))) (laws.back z s es) eq ∙ ap held (ap code e ∙ laws.forth p x ep)

  difference_back : (p q s : Pair) → exact2 means code sub p q ≡ Ok s → exact2 means code add s q ≡ Ok p
  difference_back p q s h =
      let b = both (λ x y. held (code (sub x y))) p q s h in
      returned add p q s b.left b.right (sub b.left b.right) b.left_is b.right_is (held_ok (code (sub b.left b.right)) s b.gives) (subtracted b.left b.right)

  not_zero : (y : Frac) → is_naught y ≡ false → ¬ (y.num ≡ pos 0)
  not_zero y e z = let t : true ≡ false = sym (ap (λ n. eqb (nat_abs n) 0) z) ∙ e in let w : ◌≡◌ {A = ℕ} 0 1 = cc in omega arith

  quotient_back : (p q s : Pair) → divided means code p q ≡ Ok s → exact2 means code mul s q ≡ Ok p
  quotient_back p q s h =
      let b = both (λ x y. cond (is_naught y) (Err ZeroDivisor) (held (code (div x y)))) p q s h in
      by b.left b.right b.left_is b.right_is (is_naught b.right) refl b.gives
    where
      by : (x y : Frac) → means p ≡ Some x → means q ≡ Some y → (t : Bool) → is_naught y ≡ t → cond t (Err ZeroDivisor) (held (code (div x y))) ≡ Ok s → exact2 means code mul s q ≡ Ok p
      by x y ep eq true z g = absurd (err_ok ZeroDivisor s g)
      by x y ep eq false z g = returned mul p q s x y (div x y) ep eq (held_ok (code (div x y)) s g) (div_mul x y (not_zero y z))

  order_total : (p q : Pair) (b : Bool) → asked2 means less p q ≡ Ok b → asked2 means at_most q p ≡ Ok (not b)
  order_total p q b h =
      let t = both (λ x y. Ok (less x y)) p q b h in
      let e : less t.left t.right ≡ b = let g = t.gives in cc in
      ap₂ (of_two (λ x y. Ok (at_most x y))) t.right_is t.left_is ∙ ap Ok (at_most_not t.right t.left ∙ ap not e)

  pub answers : Answers means code
  answers = record {
    one_pair = one_pair;
    sums_swap = λ p q. swap_two _ _ (λ x y. ap (λ z. held (code z)) (frac_ring.plus_comm x y)) (means p) (means q);
    products_swap = λ p q. swap_two _ _ (λ x y. ap (λ z. held (code z)) (frac_ring.times_comm x y)) (means p) (means q);
    difference_back = difference_back;
    quotient_back = quotient_back;
    order_total = order_total;
  }
