-- What reading a text and checking it for a kind answers. Assumes nothing.
use Rattle.std.specs.Prelude.{ℕ, List, length, take, Ok, Err, Option, Result}
use Rattle.script.specs.declared.reading.Entry.{Entry}
use Rattle.script.specs.Refusals as unread
use Rattle.script.specs.Reading.{read_of, filled}
use Rattle.number.specs.declared.Pair.{Pair}
use Rattle.number.specs.Frac.{Frac}
use Rattle.checker.specs.Refusals.{Refusal}
use Rattle.checker.specs.declared.lines.Past.{Past}
use Rattle.entries.specs.Fields.{lines}
use Rattle.checker.specs.Conditions.{lines_check, at_first}
use Rattle.checker.specs.Checking.{check_of}
use Rattle.check_listing.specs.declared.answers.Size.{Size}
use Rattle.checker.specs.declared.refused.Refused.{Refused}
use Rattle.checker.specs.declared.refused.Refused.TheVariants.{Unread, Unchecked}

-- how many variables are declared behind the last line
abbrev pub variables : Result Past Refusal → ℕ
variables (Ok p) = p.declared
variables (Err e) = 0

-- so many variables and lines
abbrev pub size : ℕ → ℕ → Size
size vars ls = record { variables = vars; lines = ls }

-- the answer of a check
abbrev pub checked : Result Unit Refusal → ℕ → ℕ → Result Size Refused
checked (Ok u) vars ls = Ok (size vars ls)
checked (Err e) vars ls = Err (Unchecked e)

module _ (means : Pair → Option Frac) (code : Frac → Option Pair) where
  -- the answer for a draft of so many fields and a table
  abbrev pub answer_for : List ℕ → ℕ → List Entry → Result Size Refused
  answer_for text fields table =
      checked (check_of means code text fields table) (variables (lines_check means code text at_first (lines (take fields table)))) (length (lines (take fields table)))

  -- the same by the answer of the reading, with the table as the reader fills it
  abbrev pub answer_by : List ℕ → List Entry → Result (ℕ × ℕ) unread.Refusal → Result Size Refused
  answer_by text table (Ok x) = answer_for text x.1 (filled text table)
  answer_by text table (Err e) = Err (Unread e)

  -- the answer for a text and a table to read it into
  abbrev pub answer_to : List ℕ → List Entry → Result Size Refused
  answer_to text table = answer_by text table (read_of text (length table))

-- the table behind a reading: filled, or as it was
abbrev pub table_by : List ℕ → List Entry → Result (ℕ × ℕ) unread.Refusal → List Entry
table_by text table (Ok x) = filled text table
table_by text table (Err e) = table

-- the same behind a reading and a check, which writes nothing
abbrev pub table_to : List ℕ → List Entry → List Entry
table_to text table = table_by text table (read_of text (length table))
