-- What the items of a line that passed can come to when they are worked out.
use Rattle.std.specs.Prelude.{◌≡◌, ℕ, List, [], map, length, Some, Option}
use Rattle.script.specs.declared.reading.Entry.{Entry}
use Rattle.motion.specs.Numbers.{Numbers}
use Rattle.motion.specs.Items.{Value, num, truth, Got, good, bad, items}
use Rattle.entries.specs.declared.sorts.Sort.{Sort}
use Rattle.entries.specs.declared.sorts.Sort.TheVariants as s
use Rattle.entries.specs.Sorts.{after_items}
use Rattle.entries.specs.Decoding.{items_of}

-- the sort of a value
abbrev pub sort_of : {V : Type 0} → Value V → Sort
sort_of (num v) = s.Number
sort_of (truth b) = s.Truth

-- values of these sorts wait, or the items are refused by 21 or by 23
pub data Sorted {V : Type 0} (waits : List Sort) : Got (List (Value V)) → Type 0 where
  wait_so : {vs : List (Value V)} → map sort_of vs ≡ waits → Sorted waits (good vs)
  zero_divisor : {f : ℕ} → Sorted waits (bad 21 f)
  not_held : {f : ℕ} → Sorted waits (bad 23 f)

-- Items that keep the rules of items come to values of the sorts that these give, or are refused by 21 or 23, in any numbers and at any
-- values: no rule of items is broken when they are worked out.
abbrev pub ItemsSorted : Type 0 → Type 0
ItemsSorted V =
    (N : Numbers V) (env : List V) (f : ℕ) (es : List Entry) (xs : List (Option ℕ)) (waits : List Sort) →
    length es ≡ length xs → after_items es [] ≡ Some waits → Sorted waits (items N env f (items_of es xs) [])
