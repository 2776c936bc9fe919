-- What the program `checked` prints of a text. Assumes nothing.
use Rattle.std.specs.Prelude.{ℕ, List, ◌++◌, replicate, Ok, Err, codes, decimal, Option, Result}
use Rattle.script.specs.declared.tokens.Token.TheVariants.{Other}
use Rattle.script.specs.declared.reading.Entry.{Entry}
use Rattle.refusal.specs.Refusals.{refusal_text}
use Rattle.script.specs.Refusals.{Refusal}
use Rattle.checker.specs.Refusals as c
use Rattle.script.specs.Reading.{read_of}
use Rattle.number.specs.declared.Pair.{Pair}
use Rattle.number.specs.Frac.{Frac}
use Rattle.kinds.specs.Fractions.{frac_of, pair_of}
use Rattle.kinds.specs.Thousandths.{thousand_of, count_of}
use Rattle.kinds.specs.Small.{small_of, small_pair}
use Rattle.check_listing.specs.declared.answers.Size.{Size}
use Rattle.checker.specs.declared.refused.Refused.{Refused}
use Rattle.checker.specs.declared.refused.Refused.TheVariants.{Unread, Unchecked}
use Rattle.listing.specs.Rows.{refusal_line}
use Rattle.check_listing.specs.Answers.{answer_to}

-- the table's length: 256 lines of 18 fields
abbrev pub room : ℕ
room = 4608

-- an entry before anything is read
abbrev pub blank : Entry
blank = record { place = record { line = 0; field = 0; from = 0; to = 0 }; token = Other }

-- KIND,ok,VARIABLES,LINES and a line feed
abbrev pub ok_line : List ℕ → ℕ → ℕ → List ℕ
ok_line kind vars ls = kind ++ (codes ",ok," ++ (decimal vars ++ (codes "," ++ (decimal ls ++ codes "\n"))))

-- KIND,refused,NUMBER,LINE,FIELD and a line feed
abbrev pub refused_line : List ℕ → c.Refusal → List ℕ
refused_line kind e = kind ++ (codes ",refused," ++ (refusal_text (c.number_of e.reason) e.line e.field ++ codes "\n"))

-- the line of a kind by the answer for it
abbrev pub answer_line : List ℕ → Result Size Refused → List ℕ
answer_line kind (Ok s) = ok_line kind s.variables s.lines
answer_line kind (Err (Unchecked e)) = refused_line kind e
answer_line kind (Err (Unread e)) = refusal_line e

-- the line of a kind, of which this is the name
abbrev pub kind_line : (Pair → Option Frac) → (Frac → Option Pair) → List ℕ → List ℕ → List ℕ
kind_line means code kind text = answer_line kind (answer_to means code text (replicate room blank))

-- the lines of the three kinds
abbrev pub kind_lines : List ℕ → List ℕ
kind_lines text =
    (kind_line frac_of pair_of (codes "fractions") text ++ kind_line thousand_of count_of (codes "thousandths") text) ++ kind_line small_of small_pair (codes "small") text

-- what is printed of a text by the answer of its reading
abbrev pub shown : List ℕ → Result (ℕ × ℕ) Refusal → List ℕ
shown text (Ok x) = kind_lines text
shown text (Err e) = refusal_line e

-- all that is printed of a text
abbrev pub printed : List ℕ → List ℕ
printed text = shown text (read_of text room)
