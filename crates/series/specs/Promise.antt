-- The promise of any list of calls on a bench that is built on a text. Assumes nothing.
use Rattle.std.specs.Prelude.{◌≡◌, ℕ, List, length, Ok, Err, Option, Result}
use Rattle.script.specs.declared.reading.Entry.{Entry}
use Rattle.script.specs.Refusals as reader
use Rattle.script.specs.Reading.{entries, filled, read_of}
use Rattle.number.specs.declared.Pair.{Pair}
use Rattle.number.specs.Frac.{Frac}
use Rattle.motion.specs.Lines.{Line}
use Rattle.motion.specs.Machine as M
use Rattle.motion.specs.Promise.{Alike}
use Rattle.entries.specs.Fields.{lines, find}
use Rattle.entries.specs.Decoding.{names_of, script_of}
use Rattle.checker.specs.Refusals.{Refusal}
use Rattle.checker.specs.Checking.{check_of}
use Rattle.series.specs.declared.calls.Step.{Step}
use Rattle.checker.specs.declared.refused.Refused.{Refused}
use Rattle.checker.specs.declared.refused.Refused.TheVariants.{Unread, Unchecked}
use Rattle.series.specs.Series.{Performed}

-- the lines of a text
abbrev pub script_in : List ℕ → List Line
script_in text = script_of text (lines (entries text))

-- the place of a name among the variables of a text
abbrev pub variable_of : List ℕ → List ℕ → Option ℕ
variable_of text name = find text (names_of (lines (entries text))) 0 name

-- an answer of the check
abbrev pub check_reply : Result Unit Refusal → Result Unit Refused
check_reply (Ok u) = Ok tt
check_reply (Err e) = Err (Unchecked e)

-- whether a bench is built on a text: the reader takes it into a table of so many entries, and the check passes it for the kind
abbrev pub checked_of : (Pair → Option Frac) → (Frac → Option Pair) → List ℕ → List Entry → Result (ℕ × ℕ) reader.Refusal → Result Unit Refused
checked_of means code text table (Ok x) = check_reply (check_of means code text x.1 (filled text table))
checked_of means code text table (Err e) = Err (Unread e)

abbrev pub admitted : (Pair → Option Frac) → (Frac → Option Pair) → List ℕ → List Entry → Result Unit Refused
admitted means code text table = checked_of means code text table (read_of text (length table))

-- an answer without the bench
abbrev pub outcome : {A : Type 0} → Result A Refused → Result Unit Refused
outcome (Ok a) = Ok tt
outcome (Err e) = Err e

-- These calls with these replies led to this bench, on the script of the text, and the promise is kept.
abbrev pub Promise : (Pair → Option Frac) → (Frac → Option Pair) → List ℕ → List Step → M.Bench Pair → Type 0
Promise means code text steps b = Performed means code (script_in text) (variable_of text) steps b

-- Two benches on one text, each in its kind: with equal sums, and both or neither with an accepted advance, they are alike.
pub record TwoPromise (means means' : Pair → Option Frac) (code code' : Frac → Option Pair) (text : List ℕ) (steps steps' : List Step) (b c : M.Bench Pair) : Type 0 where
  pub first : Promise means code text steps b
  pub second : Promise means' code' text steps' c
  pub alike : first.sum ≡ second.sum → first.moved ≡ second.moved → Alike means means' b c
