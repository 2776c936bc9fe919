-- The reasons for a refusal by their numbers. Assumes nothing.
use Rattle.std.specs.Prelude.{ℕ}
use Rattle.script.specs.declared.refusals.Reason.{Reason}
use Rattle.script.specs.declared.refusals.Reason.TheVariants.{TextTooLong, NoLineFeedAtEnd, StrayByte, TooManyLines, NoLineWord, FieldCount, FieldForm, TableTooShort}
use Rattle.refusal.specs.declared.Refusal as r

-- the number by which a reason is known
abbrev pub number_of : Reason → ℕ
number_of TextTooLong = 1
number_of NoLineFeedAtEnd = 2
number_of StrayByte = 3
number_of TooManyLines = 4
number_of NoLineWord = 5
number_of FieldCount = 6
number_of FieldForm = 7
number_of TableTooShort = 8

-- a refusal by one of these reasons
abbrev pub Refusal : Type 0
Refusal = r.Refusal Reason ℕ
