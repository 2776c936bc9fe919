-- What reading a text answers and leaves in the table. Assumes nothing.
use Rattle.std.specs.Prelude.{ℕ, cond, List, ◌++◌, map, length, drop, Ok, Err, Result, nat_lt}
use Rattle.script.specs.declared.places.Place.{Place}
use Rattle.script.specs.declared.reading.Entry.{Entry}
use Rattle.script.specs.declared.reading.Draft.{Draft}
use Rattle.script.specs.Refusals.{Refusal}
use Rattle.script.specs.declared.refusals.Reason.TheVariants.{TableTooShort}
use Rattle.script.specs.Tokens.{token_of}
use Rattle.script.specs.Places.{places, bytes_at}
use Rattle.script.specs.Lines.{rows, fields_in}
use Rattle.refusal.specs.Refusals.{refused}
use Rattle.script.specs.Checks.{and_then, text_check, rows_check}
use Rattle.script.specs.Scan.{line_check}

-- whether a table of `room` entries is too short
abbrev pub table_check : ℕ → ℕ → ℕ → Result (ℕ × ℕ) Refusal
table_check room lines fields = cond (nat_lt room fields) (Err (refused TableTooShort 0 0)) (Ok (lines, fields))

-- The answer for a text and a table of `room` entries: the numbers of lines and fields, or why and where it is refused.
-- First the text as a whole, then line by line, last the table.
abbrev pub read_of : List ℕ → ℕ → Result (ℕ × ℕ) Refusal
read_of text room = and_then (text_check text) (λ lines. and_then (rows_check 1 (rows text)) (λ _. table_check room lines (fields_in (rows text))))

-- the same answer, found in one pass from field to field
abbrev pub scan_of : List ℕ → ℕ → Result (ℕ × ℕ) Refusal
scan_of text room = and_then (text_check text) (λ lines. and_then (line_check text) (λ fields. table_check room lines fields))

-- a draft by its numbers of lines and fields
abbrev pub summary : Result Draft Refusal → Result (ℕ × ℕ) Refusal
summary (Ok d) = Ok (d.lines, d.fields)
summary (Err e) = Err e

-- The layout of the table: the entry of the field at a place.
abbrev pub entry_of : List ℕ → Place → Entry
entry_of text p = record { place = p; token = token_of (bytes_at text p) }

-- the entries of a text, one for each field in order
abbrev pub entries : List ℕ → List Entry
entries text = map (entry_of text) (places text)

-- the table of an accepted text: its entries, and behind them what stood there
abbrev pub filled : List ℕ → List Entry → List Entry
filled text table = entries text ++ drop (length (places text)) table
