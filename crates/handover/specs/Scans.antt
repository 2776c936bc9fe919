-- The numbers of a line, field by field, whatever else stands there. Assumes nothing.
use Rattle.std.specs.Prelude.{ℕ, ◌+◌, ◌-◌, ◌*◌, Bool, true, false, cond, ◌||◌, List, [], ◌∷◌, ◌++◌, map, length, ℤ, pos, neg_ℤ, ◌==◌, nat_le, nat_lt, Some, None, Option}
use Rattle.std.specs.Char.{is_ascii_digit}
use Rattle.std.specs.Option.{unwrap_or, option_or}
use Rattle.arrayvec.specs.ArrayVec.{ArrayVec}
use Rattle.number.specs.declared.Pair.{Pair}
use Rattle.handover.specs.declared.scanning.Number.{Number}

-- does the byte end a field
abbrev pub closes : ℕ → Bool
closes b = b == 44 || b == 10

-- a number by its parts
abbrev pub number : (minus : Bool) (top : ℕ) (bottom : Option ℕ) → Number
number minus top bottom = record { minus = minus; top = top; bottom = bottom }

-- the number of a field of which nothing is read
abbrev pub blank : Number
blank = number false 0 None

-- a value with one digit more; one that is too large already stays
abbrev pub grown : ℕ → ℕ → ℕ
grown v d = cond (nat_le v 214748364) (v * 10 + d) v

-- a number with one digit more, by what stands below its slash: above the slash or below it
abbrev pub with_digit_by : Number → ℕ → Option ℕ → Number
with_digit_by x d None = number x.minus (grown x.top d) None
with_digit_by x d (Some bottom) = number x.minus x.top (Some (grown bottom d))

-- a number with one digit more
abbrev pub with_digit : Number → ℕ → Number
with_digit x d = with_digit_by x d x.bottom

-- a number after a minus or a slash; any other byte changes nothing
abbrev pub with_mark : Number → ℕ → Number
with_mark x b = cond (b == 45) (number true x.top x.bottom) (cond (b == 47) (number x.minus x.top (option_or x.bottom (Some 0))) x)

-- a value with a minus or without
abbrev pub signed_by : Bool → ℕ → ℤ
signed_by minus n = cond minus (neg_ℤ (pos n)) (pos n)

-- a number as a pair, over 1 where it has no slash
abbrev pub pair_of_number : Number → Pair
pair_of_number x = record { a = signed_by x.minus x.top; b = pos (unwrap_or x.bottom 1) }

-- the fields that are read
abbrev pub fields_of : ArrayVec Number → List Pair
fields_of f = map pair_of_number f.items

-- one field more, up to 21
abbrev pub closed : List Pair → Pair → List Pair
closed fs p = cond (nat_lt (length fs) 21) (fs ++ p ∷ []) fs

-- the fields of these bytes, after fields that are read and the number of the field that is begun
abbrev pub scanned : List Pair → Number → List ℕ → List Pair
scanned fs x [] = fs
scanned fs x (b ∷ bs) = cond (is_ascii_digit b) (scanned fs (with_digit x (b - 48)) bs) (cond (closes b) (scanned (closed fs (pair_of_number x)) blank bs) (scanned fs (with_mark x b) bs))
