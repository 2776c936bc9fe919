-- The same checks field by field, as they are made in one pass. Assumes nothing.
use Rattle.std.specs.Prelude.{ℕ, ◌+◌, cond, List, [], ◌∷◌, map, Some, None, Ok, Err, Option, Result, ◌==◌}
use Rattle.script.specs.declared.words.LineWord.{LineWord}
use Rattle.script.specs.declared.words.Word.{Word}
use Rattle.script.specs.declared.words.Word.TheVariants as word
use Rattle.script.specs.declared.tokens.Token.{Token}
use Rattle.script.specs.declared.tokens.Token.TheVariants as token
use Rattle.script.specs.declared.checks.Line.{Line}
use Rattle.script.specs.declared.places.Place.{Place}
use Rattle.script.specs.Refusals.{Refusal}
use Rattle.script.specs.declared.refusals.Reason.TheVariants.{NoLineWord, FieldCount}
use Rattle.script.specs.Tokens.{token_of}
use Rattle.script.specs.Places.{places, bytes_at}
use Rattle.script.specs.Lines.{Cell, cell}
use Rattle.refusal.specs.Refusals.{refused}
use Rattle.script.specs.Checks.{sooner, and_then, count_suits, form_at, has_form, by_misfit}

-- a line as far as it was gone through: its word, its fields so far, the first of them that has not the form of its place
abbrev pub line_so_far : ℕ → LineWord → ℕ → Option ℕ → Line
line_so_far number w fields wrong = record { number = number; word = w; fields = fields; misfit = wrong }

abbrev pub begin_word : ℕ → Word → Result Line Refusal
begin_word number (word.Line w) = Ok (line_so_far number w 1 None)
begin_word number (word.Item o) = Err (refused NoLineWord number 1)
begin_word number word.One = Err (refused NoLineWord number 1)

-- a line that begins with this field
abbrev pub begin : ℕ → Token → Result Line Refusal
begin number (token.Word w) = begin_word number w
begin number token.Name = Err (refused NoLineWord number 1)
begin number (token.Number n) = Err (refused NoLineWord number 1)
begin number token.Other = Err (refused NoLineWord number 1)

-- the line with field number `field` more
abbrev pub with_field : Line → ℕ → Token → Line
with_field l field t = line_so_far l.number l.word field (sooner l.misfit (cond (has_form (form_at l.word field) t) None (Some field)))

-- a line is over: its field count, and then its forms
abbrev pub finish : Line → Result Unit Refusal
finish l = cond (count_suits l.word l.fields) (by_misfit l.number l.misfit) (Err (refused FieldCount l.number 0))

abbrev pub finish_any : Option Line → Result Unit Refusal
finish_any (Some l) = finish l
finish_any None = Ok tt

-- the line under way, with this field more or begun by it
abbrev pub next_line : Option Line → ℕ → ℕ → Token → Result Line Refusal
next_line (Some l) line field t = cond (field == 1) (and_then (finish l) (λ _. begin line t)) (Ok (with_field l field t))
next_line None line field t = begin line t

-- the number of all fields, `n` being before these, or the first refusal
abbrev pub scan : Option Line → ℕ → List Cell → Result ℕ Refusal
scan l n [] = and_then (finish_any l) (λ _. Ok n)
scan l n (x ∷ xs) = and_then (next_line l x.line x.field (token_of x.bytes)) (λ m. scan (Some m) (n + 1) xs)

-- the field at a place, with its line and number
abbrev pub cell_at : List ℕ → Place → Cell
cell_at text p = cell p.line p.field (bytes_at text p)

-- the number of the fields of a text, or the first refusal, line by line
abbrev pub line_check : List ℕ → Result ℕ Refusal
line_check text = scan None 0 (map (cell_at text) (places text))
