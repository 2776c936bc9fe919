-- What the items of a line come to, worked out from left to right over what waits.
use Rattle.std.specs.Prelude.{ℕ, zero, suc, Bool, not, ◌&&◌, ◌||◌, List, [], ◌∷◌, Some, None, Option}
use Rattle.motion.specs.Numbers.{Numbers, Divided, quot, by_zero, not_held}
use Rattle.motion.specs.Lines.{Item, number, name, calculate, combine, negate, Calculation, add, sub, mul, div, lt, le, Connective, and, or}

-- an answer, or a fault by its number and field
pub data Got (A : Type 0) : Type 0 where
  good : A → Got A
  bad : (fault field : ℕ) → Got A

-- f of a good answer; a fault stays as it is
abbrev pub bind : {A B : Type 0} → Got A → (A → Got B) → Got B
bind (good a) f = f a
bind (bad n k) f = bad n k

-- what an item leaves waiting: a number or a truth
pub data Value (V : Type 0) : Type 0 where
  num : V → Value V
  truth : Bool → Value V

-- the element at place k, counted from 0; nothing where there is none
abbrev pub nth : {V : Type 0} → List V → ℕ → Option V
nth [] k = None
nth (x ∷ xs) zero = Some x
nth (x ∷ xs) (suc k) = nth xs k

-- an answered number at field f; fault 23 where it is not held
abbrev pub number_at : {V : Type 0} → ℕ → Option V → Got (Value V)
number_at f (Some v) = good (num v)
number_at f None = bad 23 f

-- an answered quotient at field f; fault 21 where the divisor is zero
abbrev pub quotient_at : {V : Type 0} → ℕ → Divided V → Got (Value V)
quotient_at f (quot v) = good (num v)
quotient_at f by_zero = bad 21 f
quotient_at f not_held = bad 23 f

-- an answered comparison at field f
abbrev pub truth_at : {V : Type 0} → ℕ → Option Bool → Got (Value V)
truth_at f (Some b) = good (truth b)
truth_at f None = bad 23 f

-- two numbers off what waits, the one written first on the left, and what waits below; what breaks the rules of items is fault 14
abbrev pub two_numbers : {V : Type 0} → List (Value V) → Got ((V × V) × List (Value V))
two_numbers [] = bad 14 0
two_numbers (truth b ∷ r) = bad 14 0
two_numbers (num b ∷ []) = bad 14 0
two_numbers (num b ∷ truth a ∷ r) = bad 14 0
two_numbers (num b ∷ num a ∷ r) = good ((a, b), r)

-- two truths off what waits
abbrev pub two_truths : {V : Type 0} → List (Value V) → Got ((Bool × Bool) × List (Value V))
two_truths [] = bad 14 0
two_truths (num b ∷ r) = bad 14 0
two_truths (truth b ∷ []) = bad 14 0
two_truths (truth b ∷ num a ∷ r) = bad 14 0
two_truths (truth b ∷ truth a ∷ r) = good ((a, b), r)

-- one truth off what waits
abbrev pub one_truth : {V : Type 0} → List (Value V) → Got (Bool × List (Value V))
one_truth [] = bad 14 0
one_truth (num b ∷ r) = bad 14 0
one_truth (truth b ∷ r) = good (b, r)

-- a value waits on top
abbrev pub wait : {V : Type 0} → List (Value V) → Value V → Got (List (Value V))
wait s v = good (v ∷ s)

-- two truths by and, by or; both are worked out before
abbrev pub combined : Connective → Bool → Bool → Bool
combined and a b = a && b
combined or a b = a || b

-- what waits at the end, as one number; the items of a checked script leave nothing below it
abbrev pub as_number : {V : Type 0} → List (Value V) → Got V
as_number [] = bad 14 0
as_number (truth b ∷ r) = bad 14 0
as_number (num q ∷ r) = good q

-- what waits at the end, as one truth, likewise
abbrev pub as_truth : {V : Type 0} → List (Value V) → Got Bool
as_truth [] = bad 14 0
as_truth (num b ∷ r) = bad 14 0
as_truth (truth q ∷ r) = good q

module _ {V : Type 0} (N : Numbers V) where
  -- a calculation or comparison at field f
  abbrev pub calculated : ℕ → Calculation → V → V → Got (Value V)
  calculated f add a b = number_at f (N.add a b)
  calculated f sub a b = number_at f (N.sub a b)
  calculated f mul a b = number_at f (N.mul a b)
  calculated f div a b = quotient_at f (N.div a b)
  calculated f lt a b = truth_at f (N.lt a b)
  calculated f le a b = truth_at f (N.le a b)

  -- one item at field f, at the values env, over what waits
  abbrev pub item : (env : List V) → ℕ → Item → List (Value V) → Got (List (Value V))
  item env f (number q) s = bind (number_at f (N.literal q)) (wait s)
  item env f (name x) s = bind (number_at f (nth env x)) (wait s)
  item env f (calculate o) s = bind (two_numbers s) (λ p. bind (calculated f o p.0.0 p.0.1) (wait p.1))
  item env f (combine o) s = bind (two_truths s) (λ p. wait p.1 (truth (combined o p.0.0 p.0.1)))
  item env f negate s = bind (one_truth s) (λ p. wait p.1 (truth (not p.0)))

  -- the items from field f on, over what waits
  abbrev pub items : List V → ℕ → List Item → List (Value V) → Got (List (Value V))
  items env f [] s = good s
  items env f (i ∷ is) s = bind (item env f i s) (items env (suc f) is)

  -- the number that items come to, of which the first stands in field f
  abbrev pub number_of : List V → ℕ → List Item → Got V
  number_of env f is = bind (items env f is []) as_number

  -- the truth that items come to
  abbrev pub truth_of : List V → ℕ → List Item → Got Bool
  truth_of env f is = bind (items env f is []) as_truth
