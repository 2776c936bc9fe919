-- Items that keep the rules, worked out. Assumes nothing.
use Rattle.std.proofs.Common.{◌≡◌, ℕ, suc, Bool, true, false, cond, ltb, List, [], ◌∷◌, map, length, Some, None, Option, refl, ap, ◌∙◌, arith}
use Rattle.script.specs.declared.words.Operator.{Operator}
use Rattle.script.specs.declared.words.Operator.TheVariants as o
use Rattle.script.specs.declared.words.Word.TheVariants as word
use Rattle.script.specs.declared.tokens.Token.{Token}
use Rattle.script.specs.declared.tokens.Token.TheVariants as token
use Rattle.script.specs.declared.reading.Entry.{Entry}
use Rattle.motion.specs.Numbers.{Numbers, Divided, quot, by_zero}
use Rattle.motion.specs.Numbers as M
use Rattle.motion.specs.Lines.{Calculation, Connective}
use Rattle.motion.specs.Lines as L
use Rattle.motion.specs.Items.{Value, num, truth, Got, good, bad, bind, wait, number_at, quotient_at, truth_at, nth, calculated, item, items}
use Rattle.entries.specs.declared.sorts.Sort.{Sort}
use Rattle.entries.specs.declared.sorts.Sort.TheVariants as s
use Rattle.entries.specs.Sorts.{push, of_sorts, operate, after_item, and_then, after_items}
use Rattle.entries.specs.Decoding.{frac_of_number, or_none, operator_item, item_of, items_of}
use Rattle.entries.specs.Running.{sort_of, Sorted, wait_so, zero_divisor, not_held, ItemsSorted}

-- one value of a sort, or a fault
data One {V : Type 0} (r : Sort) : Got (Value V) → Type 0 where
  value : {v : Value V} → sort_of v ≡ r → One r (good v)
  by_nought : {f : ℕ} → One r (bad 21 f)
  lost : {f : ℕ} → One r (bad 23 f)

then_some : (q : Option (List Sort)) (k : List Sort → Option (List Sort)) (ws : List Sort) → and_then q k ≡ Some ws → (m : List Sort) × (q ≡ Some m) × (k m ≡ Some ws)
then_some (Some m) k ws h = (m, refl, h)
then_some None k ws h = let z : ◌≡◌ {A = ℕ} 0 1 = cc in absurd (omega arith)

module _ {V : Type 0} where
  a_number : (f : ℕ) (q : Option V) → One s.Number (number_at f q)
  a_number f (Some v) = value refl
  a_number f None = lost

  a_quotient : (f : ℕ) (q : Divided V) → One s.Number (quotient_at f q)
  a_quotient f (quot v) = value refl
  a_quotient f by_zero = by_nought
  a_quotient f M.not_held = lost

  a_truth : (f : ℕ) (q : Option Bool) → One {V = V} s.Truth (truth_at f q)
  a_truth f (Some b) = value refl
  a_truth f None = lost

  on_top : (r : Sort) (ws : List Sort) (vs : List (Value V)) (g : Got (Value V)) → One r g → r ∷ map sort_of vs ≡ ws → Sorted ws (bind g (wait vs))
  on_top r ws vs _ (value {v} e) h = wait_so (ap (λ (x : Sort). x ∷ map sort_of vs) e ∙ h)
  on_top r ws vs _ by_nought h = zero_divisor
  on_top r ws vs _ lost h = not_held

  pushed : (r : Sort) (vs : List (Value V)) (ws : List Sort) → push r (map sort_of vs) ≡ Some ws → r ∷ map sort_of vs ≡ ws
  pushed r vs ws h = by (ltb (length (map sort_of vs)) 8) h
    where
      by : (b : Bool) → cond b (Some (r ∷ map sort_of vs)) None ≡ Some ws → r ∷ map sort_of vs ≡ ws
      by true h = cc
      by false h = let z : ◌≡◌ {A = ℕ} 0 1 = cc in absurd (omega arith)

  module _ (N : Numbers V) (env : List V) (f : ℕ) where
    numbers_worked : (c : Calculation) (r : Sort) (vs : List (Value V)) (ws : List Sort) → ((a b : V) → One r (calculated N f c a b)) → of_sorts (s.Number ∷ s.Number ∷ []) r (map sort_of vs) ≡ Some ws → Sorted ws (item N env f (L.calculate c) vs)
    numbers_worked c r [] ws k h = let z : ◌≡◌ {A = ℕ} 0 1 = cc in absurd (omega arith)
    numbers_worked c r (truth b ∷ vs) ws k h = let z : ◌≡◌ {A = ℕ} 0 1 = cc in absurd (omega arith)
    numbers_worked c r (num b ∷ []) ws k h = let z : ◌≡◌ {A = ℕ} 0 1 = cc in absurd (omega arith)
    numbers_worked c r (num b ∷ truth a ∷ vs) ws k h = let z : ◌≡◌ {A = ℕ} 0 1 = cc in absurd (omega arith)
    numbers_worked c r (num b ∷ num a ∷ vs) ws k h = on_top r ws vs (calculated N f c a b) (k a b) (cc)

    truths_worked : (c : Connective) (vs : List (Value V)) (ws : List Sort) → of_sorts (s.Truth ∷ s.Truth ∷ []) s.Truth (map sort_of vs) ≡ Some ws → Sorted ws (item N env f (L.combine c) vs)
    truths_worked c [] ws h = let z : ◌≡◌ {A = ℕ} 0 1 = cc in absurd (omega arith)
    truths_worked c (num b ∷ vs) ws h = let z : ◌≡◌ {A = ℕ} 0 1 = cc in absurd (omega arith)
    truths_worked c (truth b ∷ []) ws h = let z : ◌≡◌ {A = ℕ} 0 1 = cc in absurd (omega arith)
    truths_worked c (truth b ∷ num a ∷ vs) ws h = let z : ◌≡◌ {A = ℕ} 0 1 = cc in absurd (omega arith)
    truths_worked c (truth b ∷ truth a ∷ vs) ws h = wait_so (cc)

    truth_worked : (vs : List (Value V)) (ws : List Sort) → of_sorts (s.Truth ∷ []) s.Truth (map sort_of vs) ≡ Some ws → Sorted ws (item N env f L.negate vs)
    truth_worked [] ws h = let z : ◌≡◌ {A = ℕ} 0 1 = cc in absurd (omega arith)
    truth_worked (num b ∷ vs) ws h = let z : ◌≡◌ {A = ℕ} 0 1 = cc in absurd (omega arith)
    truth_worked (truth b ∷ vs) ws h = wait_so (cc)

    operator_worked : (p : Operator) (vs : List (Value V)) (ws : List Sort) → operate p (map sort_of vs) ≡ Some ws → Sorted ws (item N env f (operator_item p) vs)
    operator_worked o.Add vs ws h = numbers_worked L.add s.Number vs ws (λ a b. a_number f (N.add a b)) h
    operator_worked o.Sub vs ws h = numbers_worked L.sub s.Number vs ws (λ a b. a_number f (N.sub a b)) h
    operator_worked o.Mul vs ws h = numbers_worked L.mul s.Number vs ws (λ a b. a_number f (N.mul a b)) h
    operator_worked o.Div vs ws h = numbers_worked L.div s.Number vs ws (λ a b. a_quotient f (N.div a b)) h
    operator_worked o.Lt vs ws h = numbers_worked L.lt s.Truth vs ws (λ a b. a_truth f (N.lt a b)) h
    operator_worked o.Le vs ws h = numbers_worked L.le s.Truth vs ws (λ a b. a_truth f (N.le a b)) h
    operator_worked o.And vs ws h = truths_worked L.and vs ws h
    operator_worked o.Or vs ws h = truths_worked L.or vs ws h
    operator_worked o.Not vs ws h = truth_worked vs ws h

    item_worked : (t : Token) (x : Option ℕ) (vs : List (Value V)) (ws : List Sort) → after_item t (map sort_of vs) ≡ Some ws → Sorted ws (item N env f (item_of t x) vs)
    item_worked (token.Word (word.Line v)) x vs ws h = let z : ◌≡◌ {A = ℕ} 0 1 = cc in absurd (omega arith)
    item_worked (token.Word (word.Item p)) x vs ws h = operator_worked p vs ws h
    item_worked (token.Word word.One) x vs ws h = let z : ◌≡◌ {A = ℕ} 0 1 = cc in absurd (omega arith)
    item_worked token.Name x vs ws h = on_top s.Number ws vs (number_at f (nth env (or_none x))) (a_number f (nth env (or_none x))) (pushed s.Number vs ws h)
    item_worked (token.Number n) x vs ws h = on_top s.Number ws vs (number_at f (N.literal (frac_of_number n))) (a_number f (N.literal (frac_of_number n))) (pushed s.Number vs ws h)
    item_worked token.Other x vs ws h = let z : ◌≡◌ {A = ℕ} 0 1 = cc in absurd (omega arith)

  goes_on : (m ws : List Sort) (g : Got (List (Value V))) (k : List (Value V) → Got (List (Value V))) → Sorted m g → ((vs : List (Value V)) → map sort_of vs ≡ m → Sorted ws (k vs)) → Sorted ws (bind g k)
  goes_on m ws _ k (wait_so {vs} e) h = h vs e
  goes_on m ws _ k zero_divisor h = zero_divisor
  goes_on m ws _ k not_held h = not_held

  items_worked : (N : Numbers V) (env : List V) (f : ℕ) (es : List Entry) (xs : List (Option ℕ)) (vs : List (Value V)) (ws : List Sort) → length es ≡ length xs → after_items es (map sort_of vs) ≡ Some ws → Sorted ws (items N env f (items_of es xs) vs)
  items_worked N env f [] xs vs ws l h = wait_so (cc)
  items_worked N env f (e ∷ es) [] vs ws l h = absurd (omega arith)
  items_worked N env f (e ∷ es) (x ∷ xs) vs ws l h =
      let a = then_some (after_item e.token (map sort_of vs)) (after_items es) ws h in
      goes_on a.0 ws (item N env f (item_of e.token x) vs) (items N env (suc f) (items_of es xs)) (item_worked N env f e.token x vs a.0 a.1)
      (λ us k. items_worked N env (suc f) es xs us ws (omega arith) (ap (after_items es) k ∙ a.2))

pub items_sorted : (V : Type 0) → ItemsSorted V
items_sorted V N env f es xs waits l h = items_worked N env f es xs [] waits l h
