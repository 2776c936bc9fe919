-- What the program `fields` prints of a text. Assumes nothing.
use Rattle.std.specs.Prelude.{◌≡◌, ℕ, List, [], ◌∷◌, ◌++◌, Ok, Err, codes, decimal, Result, ◌≢◌}
use Rattle.std.specs.List.{flat_map}
use Rattle.refusal.specs.Refusals.{refusal_text}
use Rattle.script.specs.declared.tokens.Token.{Token}
use Rattle.script.specs.declared.tokens.Token.TheVariants as token
use Rattle.script.specs.declared.reading.Entry.{Entry}
use Rattle.script.specs.Refusals.{Refusal, number_of}
use Rattle.script.specs.declared.refusals.Reason.TheVariants.{TableTooShort}
use Rattle.script.specs.Tokens.{token_of}
use Rattle.script.specs.Places.{bytes_at}
use Rattle.script.specs.Lines.{Cell, cells, rows}
use Rattle.script.specs.Reading.{read_of}

-- the table's length: 256 lines of 18 fields
abbrev pub room : ℕ
room = 4608

-- WHAT
abbrev pub kind_of : Token → List ℕ
kind_of (token.Word w) = codes "word"
kind_of token.Name = codes "name"
kind_of (token.Number n) = codes "number"
kind_of token.Other = codes "other"

-- LINE,FIELD,WHAT,BYTES and a line feed
abbrev pub field_line : ℕ → ℕ → Token → List ℕ → List ℕ
field_line line field t bytes = ((decimal line ++ (codes "," ++ (decimal field ++ (codes "," ++ (kind_of t ++ codes ","))))) ++ bytes) ++ 10 ∷ []

-- the line of a field
abbrev pub cell_line : Cell → List ℕ
cell_line c = field_line c.line c.field (token_of c.bytes) c.bytes

-- the line of an entry of the table
abbrev pub entry_line : List ℕ → Entry → List ℕ
entry_line text e = field_line e.place.line e.place.field e.token (bytes_at text e.place)

abbrev pub entry_lines : List ℕ → List Entry → List ℕ
entry_lines text es = flat_map (entry_line text) es

-- read,LINES,FIELDS and a line feed
abbrev pub total_line : ℕ → ℕ → List ℕ
total_line lines fields = codes "read," ++ (decimal lines ++ (codes "," ++ (decimal fields ++ codes "\n")))

-- refused,NUMBER,LINE,FIELD and a line feed
abbrev pub refusal_line : Refusal → List ℕ
refusal_line r = codes "refused," ++ (refusal_text (number_of r.reason) r.line r.field ++ codes "\n")

-- what is printed of a text by the answer of its reading: the fields of its lines in order, or the refusal
abbrev pub shown : List ℕ → Result (ℕ × ℕ) Refusal → List ℕ
shown text (Ok x) = flat_map cell_line (cells 1 (rows text)) ++ total_line x.0 x.1
shown text (Err e) = refusal_line e

-- all that is printed of a text
abbrev pub printed : List ℕ → List ℕ
printed text = shown text (read_of text room)

-- no text is refused for want of room in the table
abbrev pub RoomEnough : List ℕ → Type 0
RoomEnough text = (e : Refusal) → read_of text room ≡ Err e → e.reason ≢ TableTooShort
