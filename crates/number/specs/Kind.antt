-- What a kind of number owes, and what each of its operations answers, by two functions:
-- `means`, the fraction that a pair means if it is a number of the kind, and `code`, the pair of a fraction if it is held.
use Rattle.std.specs.Prelude.{◌≡◌, ℕ, ◌≤◌, Bool, cond, ◌&&◌, ℤ, pos, Some, None, Ok, Err, Option, Result, ◌==◌, int_le, nat_le, unsigned_abs}
use Rattle.number.specs.declared.Pair.{Pair}
use Rattle.number.specs.declared.Quantity.{Quantity}
use Rattle.number.specs.declared.Fault.{Fault}
use Rattle.number.specs.declared.Fault.TheVariants.{NotHeld, ZeroDivisor}
use Rattle.number.specs.declared.Operation.{Operation}
use Rattle.number.specs.declared.Operation.TheVariants.{Add, Sub, Mul, Div, Lt, Le}
use Rattle.number.specs.declared.Answer.{Answer}
use Rattle.number.specs.declared.Answer.TheVariants.{Number, Truth}
use Rattle.number.specs.Frac.{Frac, norm, whole, add, sub, mul, div, scale, less, at_most, horner}

-- what makes two such functions a kind
pub record Holds (means : Pair → Option Frac) (code : Frac → Option Pair) : Type 0 where
  -- a fraction that is held has exactly one pair, and a number means the fraction of that pair
  pub back : (q : Frac) (p : Pair) → code q ≡ Some p → means p ≡ Some q
  pub forth : (p : Pair) (q : Frac) → means p ≡ Some q → code q ≡ Some p
  -- small whole numbers are held
  pub wholes : (z : ℤ) → unsigned_abs z ≤ 1000 → (p : Pair) × (code (whole z) ≡ Some p)
  -- and nothing with lowest terms beyond the limit
  pub small : (q : Frac) (p : Pair) → code q ≡ Some p → (unsigned_abs q.num ≤ 2147483647) × (q.den ≤ 2147483647)

-- the pair, or "not held"
abbrev pub held : Option Pair → Result Pair Fault
held (Some p) = Ok p
held None = Err NotHeld

-- f of what one pair means, or "not held" where it is no number
abbrev pub of_one : {A : Type 0} → (Frac → Result A Fault) → Option Frac → Result A Fault
of_one f (Some x) = f x
of_one f None = Err NotHeld

-- f of what two pairs mean, or "not held" where one is no number
abbrev pub of_two : {A : Type 0} → (Frac → Frac → Result A Fault) → Option Frac → Option Frac → Result A Fault
of_two f (Some x) (Some y) = f x y
of_two f (Some x) None = Err NotHeld
of_two f None y = Err NotHeld

-- is it 0
abbrev pub is_naught : Frac → Bool
is_naught q = unsigned_abs q.num == 0

module _ (means : Pair → Option Frac) (code : Frac → Option Pair) where
  -- take n / d
  abbrev pub taken : ℤ → ℤ → Result Pair Fault
  taken n d = cond (int_le (pos 1) d) (held (code (norm n (unsigned_abs d)))) (Err NotHeld)

  -- add, subtract, multiply: the exact result, if it is held
  abbrev pub exact2 : (Frac → Frac → Frac) → Pair → Pair → Result Pair Fault
  exact2 op p q = of_two (λ x y. held (code (op x y))) (means p) (means q)

  -- divide
  abbrev pub divided : Pair → Pair → Result Pair Fault
  divided p q = of_two (λ x y. cond (is_naught y) (Err ZeroDivisor) (held (code (div x y)))) (means p) (means q)

  -- scale by n over k, with n at most the limit and k from 1 to 4
  abbrev pub scaled : Pair → ℕ → ℕ → Result Pair Fault
  scaled p n k = cond (nat_le n 2147483647 && (nat_le 1 k && nat_le k 4)) (of_one (λ x. held (code (scale x n k))) (means p)) (Err NotHeld)

-- lowest terms
abbrev pub in_terms : (Pair → Option Frac) → Pair → Result (ℤ × ℤ) Fault
in_terms means p = of_one (λ x. Ok (x.num, pos x.den)) (means p)

-- less than, at most
abbrev pub asked2 : (Pair → Option Frac) → (Frac → Frac → Bool) → Pair → Pair → Result Bool Fault
asked2 means test p q = of_two (λ x y. Ok (test x y)) (means p) (means q)

-- f of a good answer
abbrev pub then : {A B : Type 0} → Result A Fault → (A → Result B Fault) → Result B Fault
then (Ok a) f = f a
then (Err e) f = Err e

module _ (means : Pair → Option Frac) (code : Frac → Option Pair) where
  -- what an operation on two numbers comes to
  abbrev pub applied : Operation → Pair → Pair → Result Answer Fault
  applied Add p q = then (exact2 means code add p q) (λ s. Ok (Number s))
  applied Sub p q = then (exact2 means code sub p q) (λ s. Ok (Number s))
  applied Mul p q = then (exact2 means code mul p q) (λ s. Ok (Number s))
  applied Div p q = then (divided means code p q) (λ s. Ok (Number s))
  applied Lt p q = then (asked2 means less p q) (λ t. Ok (Truth t))
  applied Le p q = then (asked2 means at_most p q) (λ t. Ok (Truth t))

  -- d + r n / k
  abbrev pub stepped : Pair → Pair → ℕ → ℕ → Result Pair Fault
  stepped d r n k = then (scaled means code r n k) (λ s. exact2 means code add d s)

  -- the value n ticks on by the Horner form, each number on the way held
  abbrev pub worked : Quantity → ℕ → Result Pair Fault
  worked q n =
      then (stepped q.d3 q.d4 n 4) (λ r3. then (stepped q.d2 r3 n 3) (λ r2. then (stepped q.d1 r2 n 2) (λ r1. stepped q.d0 r1 n 1)))

-- an answer is the pair of exactly the value n ticks on
abbrev pub Exactly : (Pair → Option Frac) → Quantity → ℕ → Result Pair Fault → Type 0
Exactly means q n r = (x0 x1 x2 x3 x4 : Frac) (p : Pair) → means q.d0 ≡ Some x0 → means q.d1 ≡ Some x1 → means q.d2 ≡ Some x2 → means q.d3 ≡ Some x3 → means q.d4 ≡ Some x4 → r ≡ Ok p → means p ≡ Some (horner x0 x1 x2 x3 x4 n)
