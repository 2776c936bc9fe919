-- Which bytes write a number, and which number, in the words of the format. Assumes nothing.
use Rattle.std.specs.Prelude.{◌≡◌, ℕ, ◌≤◌, Bool, true, false, List, [], ◌∷◌, ◌++◌, length, Some, codes, Option}
use Rattle.std.specs.List.{AllByRecursion}
use Rattle.script.specs.declared.numbers.Number.{Number}
use Rattle.script.specs.Numbers.{most, run_value, number_of}

-- a byte from `0` to `9`
abbrev pub Digit : ℕ → Type 0
Digit b = (48 ≤ b) × (b ≤ 57)

-- These bytes are a run of digits of this value: one digit at least, a zero in front only where it stands alone,
-- and no value above the largest.
pub record Digits (bs : List ℕ) (n : ℕ) : Type 0 where
  pub some : 1 ≤ length bs
  pub digits : AllByRecursion Digit bs
  pub zero_alone : (rest : List ℕ) → bs ≡ 48 ∷ rest → rest ≡ []
  pub value : run_value 0 bs ≡ n
  pub small : n ≤ most

-- Digits alone are the top, over 1; digits, a slash and digits are the top over the bottom, which is not 0.
pub data Quotient : List ℕ → ℕ → ℕ → Type 0 where
  whole : {bs : List ℕ} {top : ℕ} → Digits bs top → Quotient bs top 1
  parted : {above below : List ℕ} {top bottom : ℕ} → Digits above top → Digits below bottom → 1 ≤ bottom → Quotient (above ++ 47 ∷ below) top bottom

-- a number by its sign and its two parts
abbrev pub number : Bool → ℕ → ℕ → Number
number minus top bottom = record { minus = minus; top = top; bottom = bottom }

-- These bytes write this number: a minus stands in front or none, and none stands before 0.
pub data Numeral : List ℕ → Number → Type 0 where
  plain : {bs : List ℕ} {top bottom : ℕ} → Quotient bs top bottom → Numeral bs (number false top bottom)
  negative : {bs : List ℕ} {top bottom : ℕ} → Quotient bs top bottom → 1 ≤ top → Numeral (45 ∷ bs) (number true top bottom)

-- The answer is a number exactly where the bytes write it.
abbrev pub Written : List ℕ → Option Number → Type 0
Written bs r = (x : Number) → (r ≡ Some x → Numeral bs x) × (Numeral bs x → r ≡ Some x)

-- bytes are read as a number exactly where they write it
abbrev pub NumeralsRead : Type 0
NumeralsRead = (bs : List ℕ) → Written bs (number_of bs)

-- numerals of each form
pub record NumeralsShown : Type 0 where
  pub nought : Numeral (codes "0") (number false 0 1)
  pub largest : Numeral (codes "2147483647") (number false 2147483647 1)
  pub fraction : Numeral (codes "10/4") (number false 10 4)
  pub minus : Numeral (codes "-12") (number true 12 1)
  pub minus_fraction : Numeral (codes "-3/4") (number true 3 4)

-- bytes that write no number: an empty run, a zero in front, a value above the largest, a bottom of 0, a minus before 0
pub record NumeralsRefused : Type 0 where
  pub empty : (x : Number) → Numeral (codes "") x → ⊥
  pub no_bottom : (x : Number) → Numeral (codes "3/") x → ⊥
  pub zero_first : (x : Number) → Numeral (codes "03") x → ⊥
  pub too_large : (x : Number) → Numeral (codes "2147483648") x → ⊥
  pub zero_bottom : (x : Number) → Numeral (codes "3/0") x → ⊥
  pub minus_zero : (x : Number) → Numeral (codes "-0") x → ⊥
