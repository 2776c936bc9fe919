-- The items of a line never come to fault 22.
use Rattle.std.proofs.Common.{◌≡◌, ℕ, suc, List, [], ◌∷◌, Some, None, Option, ap, ◌∙◌, subst, inl, inr, arith}
use Rattle.number.specs.Frac.{Frac}
use Rattle.motion.specs.Numbers.{exact, Divided, quot, by_zero, not_held}
use Rattle.motion.specs.Lines.{Item, number, name, calculate, combine, negate, Calculation, add, sub, mul, div, lt, le}
use Rattle.motion.specs.Items.{Got, good, bad, bind, Value, num, truth, nth, number_at, quotient_at, two_numbers, two_truths, one_truth, wait, calculated, item, items, as_number, as_truth, number_of, truth_of}
use Rattle.motion.specs.Rules.{Env, Undefined}
use Rattle.motion.specs.Agreement.{Err, Fault}

abbrev pub Fine : {A : Type 0} → Got A → Type 0
Fine (good a) = Unit {0}
Fine (bad n k) = Fault n × (n ≡ 22 → ⊥)

bind_fine : {A B : Type 0} (r : Got A) (f : A → Got B) → Fine r → ((a : A) → Fine (f a)) → Fine (bind r f)
bind_fine (good a) f h k = k a
bind_fine (bad n i) f h k = h

abbrev Stack : Type 0
Stack = List (Value Frac)

number_at_fine : (f : ℕ) (o : Option Frac) → Fine (number_at f o)
number_at_fine f (Some v) = tt
number_at_fine f None = omega arith

quotient_at_fine : (f : ℕ) (d : Divided Frac) → Fine (quotient_at f d)
quotient_at_fine f (quot v) = tt
quotient_at_fine f by_zero = omega arith
quotient_at_fine f not_held = omega arith

two_numbers_fine : (s : Stack) → Fine (two_numbers s)
two_numbers_fine [] = omega arith
two_numbers_fine (truth b ∷ r) = omega arith
two_numbers_fine (num b ∷ []) = omega arith
two_numbers_fine (num b ∷ truth a ∷ r) = omega arith
two_numbers_fine (num b ∷ num a ∷ r) = tt

two_truths_fine : (s : Stack) → Fine (two_truths s)
two_truths_fine [] = omega arith
two_truths_fine (num b ∷ r) = omega arith
two_truths_fine (truth b ∷ []) = omega arith
two_truths_fine (truth b ∷ num a ∷ r) = omega arith
two_truths_fine (truth b ∷ truth a ∷ r) = tt

one_truth_fine : (s : Stack) → Fine (one_truth s)
one_truth_fine [] = omega arith
one_truth_fine (num b ∷ r) = omega arith
one_truth_fine (truth b ∷ r) = tt

calculated_fine : (f : ℕ) (o : Calculation) (a b : Frac) → Fine (calculated exact f o a b)
calculated_fine f add a b = tt
calculated_fine f sub a b = tt
calculated_fine f mul a b = tt
calculated_fine f div a b = quotient_at_fine f _
calculated_fine f lt a b = tt
calculated_fine f le a b = tt

item_fine : (σ : Env) (f : ℕ) (i : Item) (s : Stack) → Fine (item exact σ f i s)
item_fine σ f (number q) s = tt
item_fine σ f (name x) s = bind_fine (number_at f (nth σ x)) (wait s) (number_at_fine f (nth σ x)) (λ v. tt)
item_fine σ f (calculate o) s =
    bind_fine (two_numbers s) _ (two_numbers_fine s) (λ p.
    bind_fine (calculated exact f o p.0.0 p.0.1) (wait p.1) (calculated_fine f o p.0.0 p.0.1) (λ v. tt))
item_fine σ f (combine o) s = bind_fine (two_truths s) _ (two_truths_fine s) (λ p. tt)
item_fine σ f negate s = bind_fine (one_truth s) _ (one_truth_fine s) (λ p. tt)

items_fine : (σ : Env) (f : ℕ) (is : List Item) (s : Stack) → Fine (items exact σ f is s)
items_fine σ f [] s = tt
items_fine σ f (i ∷ is) s = bind_fine (item exact σ f i s) (items exact σ (suc f) is) (item_fine σ f i s) (items_fine σ (suc f) is)

as_number_fine : (s : Stack) → Fine (as_number s)
as_number_fine [] = omega arith
as_number_fine (truth b ∷ r) = omega arith
as_number_fine (num q ∷ r) = tt

as_truth_fine : (s : Stack) → Fine (as_truth s)
as_truth_fine [] = omega arith
as_truth_fine (num b ∷ r) = omega arith
as_truth_fine (truth q ∷ r) = tt

pub number_fine : (σ : Env) (f : ℕ) (is : List Item) → Fine (number_of exact σ f is)
number_fine σ f is = bind_fine (items exact σ f is []) (as_number) (items_fine σ f is []) as_number_fine

pub truth_of_fine : (σ : Env) (f : ℕ) (is : List Item) → Fine (truth_of exact σ f is)
truth_of_fine σ f is = bind_fine (items exact σ f is []) (as_truth) (items_fine σ f is []) as_truth_fine

pub undefined : {A : Type 0} (r : Got A) (k f : ℕ) → Fine r → r ≡ bad k f → Err k → Undefined r
undefined r k f h e (inl i) = (f, e ∙ ap (λ (x : ℕ). bad x f) i)
undefined r k f h e (inr i) = absurd ((subst Fine e h).1 i)

pub numbered : {A : Type 0} (r : Got A) (k f : ℕ) → Fine r → r ≡ bad k f → Fault k
numbered r k f h e = (subst Fine e h).0
