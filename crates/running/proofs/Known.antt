-- The faults of items, and of a step, have numbers that are reasons. Assumes nothing.
use Rattle.std.proofs.Common.{◌≡◌, ℕ, suc, Bool, List, [], ◌∷◌, Some, None, Ok, Err, Option, Result, sym, refl, ap, ◌∙◌, arith}
use Rattle.number.specs.declared.Pair.{Pair}
use Rattle.motion.specs.Numbers.{Numbers, Divided, quot, by_zero, not_held}
use Rattle.motion.specs.Lines.{Line, Item, number, name, calculate, combine, negate, Calculation, add, sub, mul, div, lt, le}
use Rattle.motion.specs.Items.{Got, good, bad, bind, Value, num, truth, nth, number_at, quotient_at, truth_at, two_numbers, two_truths, one_truth, wait, calculated, item, items, as_number, as_truth, number_of, truth_of}
use Rattle.motion.specs.Machine.{fail, assigned, started, chosen}
use Rattle.record.specs.Refusals.{Refusal}
use Rattle.record.specs.Refusals as R
use Rattle.refusal.specs.Refusals.{refused}
use Rattle.postfix.specs.Located.{located}
use Rattle.running.specs.Steps.{seen_step}

abbrev Known : {A : Type 0} → Got A → Type 0
Known (good a) = Unit {0}
Known (bad n k) = R.number_of (R.reason_of n) ≡ n

bind_known : {A B : Type 0} (r : Got A) (f : A → Got B) → Known r → ((a : A) → Known (f a)) → Known (bind r f)
bind_known (good a) f h k = k a
bind_known (bad n i) f h k = h

truth_known : (V : Type 0) (f : ℕ) (o : Option Bool) → Known (truth_at {V = V} f o)
truth_known V f (Some b) = tt
truth_known V f None = refl

module _ {V : Type 0} where
  number_known : (f : ℕ) (o : Option V) → Known (number_at f o)
  number_known f (Some v) = tt
  number_known f None = refl

  quotient_known : (f : ℕ) (d : Divided V) → Known (quotient_at f d)
  quotient_known f (quot v) = tt
  quotient_known f by_zero = refl
  quotient_known f not_held = refl

  two_numbers_known : (s : List (Value V)) → Known (two_numbers s)
  two_numbers_known [] = refl
  two_numbers_known (truth b ∷ r) = refl
  two_numbers_known (num b ∷ []) = refl
  two_numbers_known (num b ∷ truth a ∷ r) = refl
  two_numbers_known (num b ∷ num a ∷ r) = tt

  two_truths_known : (s : List (Value V)) → Known (two_truths s)
  two_truths_known [] = refl
  two_truths_known (num b ∷ r) = refl
  two_truths_known (truth b ∷ []) = refl
  two_truths_known (truth b ∷ num a ∷ r) = refl
  two_truths_known (truth b ∷ truth a ∷ r) = tt

  one_truth_known : (s : List (Value V)) → Known (one_truth s)
  one_truth_known [] = refl
  one_truth_known (num b ∷ r) = refl
  one_truth_known (truth b ∷ r) = tt

  as_number_known : (s : List (Value V)) → Known (as_number s)
  as_number_known [] = refl
  as_number_known (truth b ∷ r) = refl
  as_number_known (num q ∷ r) = tt

  as_truth_known : (s : List (Value V)) → Known (as_truth s)
  as_truth_known [] = refl
  as_truth_known (num b ∷ r) = refl
  as_truth_known (truth q ∷ r) = tt

  module _ (N : Numbers V) (env : List V) where
    calculated_known : (f : ℕ) (o : Calculation) (a b : V) → Known (calculated N f o a b)
    calculated_known f add a b = number_known f (N.add a b)
    calculated_known f sub a b = number_known f (N.sub a b)
    calculated_known f mul a b = number_known f (N.mul a b)
    calculated_known f div a b = quotient_known f (N.div a b)
    calculated_known f lt a b = truth_known V f (N.lt a b)
    calculated_known f le a b = truth_known V f (N.le a b)

    item_known : (f : ℕ) (i : Item) (s : List (Value V)) → Known (item N env f i s)
    item_known f (number q) s = bind_known (number_at f (N.literal q)) (wait s) (number_known f (N.literal q)) (λ v. tt)
    item_known f (name x) s = bind_known (number_at f (nth env x)) (wait s) (number_known f (nth env x)) (λ v. tt)
    item_known f (calculate o) s =
        bind_known (two_numbers s) _ (two_numbers_known s) (λ p.
        bind_known (calculated N f o p.0.0 p.0.1) (wait p.1) (calculated_known f o p.0.0 p.0.1) (λ v. tt))
    item_known f (combine o) s = bind_known (two_truths s) _ (two_truths_known s) (λ p. tt)
    item_known f negate s = bind_known (one_truth s) _ (one_truth_known s) (λ p. tt)

    items_known : (f : ℕ) (is : List Item) (s : List (Value V)) → Known (items N env f is s)
    items_known f [] s = tt
    items_known f (i ∷ is) s = bind_known (item N env f i s) (items N env (suc f) is) (item_known f i s) (items_known (suc f) is)

    number_of_known : (f : ℕ) (is : List Item) → Known (number_of N env f is)
    number_of_known f is = bind_known (items N env f is []) as_number (items_known f is []) as_number_known

    truth_of_known : (f : ℕ) (is : List Item) → Known (truth_of N env f is)
    truth_of_known f is = bind_known (items N env f is []) as_truth (items_known f is []) as_truth_known

-- a step whose items are at fault
module _ (all : List Line) (env : List Pair) (t n : ℕ) (e : Refusal) where
  fault : (k f : ℕ) → R.number_of (R.reason_of k) ≡ k → e ≡ refused (R.reason_of k) n f → seen_step (Err e) ≡ fail k n f
  fault k f h p = ap (λ (x : Refusal). seen_step (Err x)) p ∙ ap (λ (i : ℕ). fail i n f) h

  told : {A : Type 0} (k f : ℕ) → ◌≡◌ {A = Result A Refusal} (Err e) (Err (refused (R.reason_of k) n f)) → e ≡ refused (R.reason_of k) n f
  told k f q = cc

  set_at_fault : (x : ℕ) (r : Got Pair) → Known r → Err e ≡ located n r → seen_step (Err e) ≡ assigned all env t n x r
  set_at_fault x (good q) h p = let z : ◌≡◌ {A = ℕ} 0 1 = cc in absurd (omega arith)
  set_at_fault x (bad k f) h p = fault k f h (told k f p)

  run_at_fault : (N : Numbers Pair) (r : Got Pair) → Known r → Err e ≡ located n r → seen_step (Err e) ≡ started N all env t n r
  run_at_fault N (good q) h p = let z : ◌≡◌ {A = ℕ} 0 1 = cc in absurd (omega arith)
  run_at_fault N (bad k f) h p = fault k f h (told k f p)

  choice_at_fault : (r : Got Bool) → Known r → Err e ≡ located n r → seen_step (Err e) ≡ chosen all env t n r
  choice_at_fault (good b) h p = let z : ◌≡◌ {A = ℕ} 0 1 = cc in absurd (omega arith)
  choice_at_fault (bad k f) h p = fault k f h (told k f p)

module _ (N : Numbers Pair) (all : List Line) (env : List Pair) (t n : ℕ) (e : Refusal) (is : List Item) where
  pub set_fails : (x : ℕ) → Err e ≡ located n (number_of N env 3 is) → seen_step (Err e) ≡ assigned all env t n x (number_of N env 3 is)
  set_fails x p = set_at_fault all env t n e x (number_of N env 3 is) (number_of_known N env 3 is) p

  pub run_fails : Err e ≡ located n (number_of N env 2 is) → seen_step (Err e) ≡ started N all env t n (number_of N env 2 is)
  run_fails p = run_at_fault all env t n e N (number_of N env 2 is) (number_of_known N env 2 is) p

  pub choice_fails : Err e ≡ located n (truth_of N env 2 is) → seen_step (Err e) ≡ chosen all env t n (truth_of N env 2 is)
  choice_fails p = choice_at_fault all env t n e (truth_of N env 2 is) (truth_of_known N env 2 is) p

-- items that come to a number, or a truth
pub good_of : {A : Type 0} (n : ℕ) (a : A) (r : Got A) → Ok a ≡ located n r → r ≡ good a
good_of n a (good b) p = let q : a ≡ b = cc in ap good (sym q)
good_of n a (bad k f) p = let z : ◌≡◌ {A = ℕ} 0 1 = cc in absurd (omega arith)
