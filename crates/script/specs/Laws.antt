-- Which texts are accepted, and with what the others are refused, in the words of the format. Assumes nothing.
use Rattle.std.specs.Prelude.{◌≡◌, ℕ, ◌+◌, ◌<◌, ◌≤◌, Bool, true, false, cond, not, ◌&&◌, List, [], ◌∷◌, ◌++◌, map, length, Some, None, Ok, Err, Option, Result, ◌==◌, nat_lt}
use Rattle.std.specs.List.{AllByRecursion}
use Rattle.script.specs.declared.words.LineWord.{LineWord}
use Rattle.script.specs.declared.reading.Entry.{Entry}
use Rattle.script.specs.Refusals.{Refusal}
use Rattle.script.specs.declared.refusals.Reason.TheVariants.{TextTooLong, NoLineFeedAtEnd, StrayByte, TooManyLines, NoLineWord, FieldCount, FieldForm, TableTooShort}
use Rattle.script.specs.Words.{line_word}
use Rattle.script.specs.Tokens.{token_of}
use Rattle.script.specs.Places.{bytes_at}
use Rattle.script.specs.Lines.{Row, first, others, width, rows, fields_in, Cell, cell, cells}
use Rattle.refusal.specs.Refusals.{refused}
use Rattle.script.specs.Checks.{most_bytes, most_lines, feeds, unended, allowed, count_suits, form_at, has_form}
use Rattle.script.specs.Reading.{read_of}

-- the whole text ------------------------------------------------------------

-- more than 16,384 bytes
abbrev pub too_long : List ℕ → Bool
too_long text = nat_lt most_bytes (length text)

-- every byte is a lower-case letter, digit, comma, minus, slash or line feed
abbrev pub all_allowed : List ℕ → Bool
all_allowed [] = true
all_allowed (b ∷ bs) = allowed b && all_allowed bs

-- more than 256 lines
abbrev pub too_many_lines : List ℕ → Bool
too_many_lines text = nat_lt most_lines (feeds text)

-- none of these, nor an end without a line feed: nothing is wrong with the text as a whole
pub record Whole (text : List ℕ) : Type 0 where
  pub short : too_long text ≡ false
  pub ended : unended text ≡ false
  pub clean : all_allowed text ≡ true
  pub few : too_many_lines text ≡ false

-- how many commas these bytes have after their last line feed, with `n` before them
abbrev pub commas_after : ℕ → List ℕ → ℕ
commas_after n [] = n
commas_after n (b ∷ bs) = cond (b == 10) (commas_after 0 bs) (cond (b == 44) (commas_after (n + 1) bs) (commas_after n bs))

-- a line ----------------------------------------------------------------------

abbrev pub is_none : {A : Type 0} → Option A → Bool
is_none (Some a) = false
is_none None = true

abbrev pub of_word : Option LineWord → (LineWord → Bool) → Bool
of_word (Some w) test = test w
of_word None test = false

-- its first field is none of the eight line words
abbrev pub no_line_word : Row → Bool
no_line_word r = is_none (line_word (first r))

-- so many fields suit no line of its word
abbrev pub wrong_count : Row → Bool
wrong_count r = of_word (line_word (first r)) (λ w. not (count_suits w (width r)))

-- fields, numbered from `k` on, have the forms of their places
abbrev pub forms_fit : LineWord → ℕ → List (List ℕ) → Bool
forms_fit w k [] = true
forms_fit w k (f ∷ fs) = has_form (form_at w k) (token_of f) && forms_fit w (k + 1) fs

-- a field has not the form of its place
abbrev pub wrong_form : Row → Bool
wrong_form r = of_word (line_word (first r)) (λ w. not (forms_fit w 2 (others r)))

-- none of the three: the line is in order
pub record Right (r : Row) : Type 0 where
  pub begun : no_line_word r ≡ false
  pub counted : wrong_count r ≡ false
  pub formed : wrong_form r ≡ false

-- The line of this number is refused with the first of the three, at its place.
pub data Fault (line : ℕ) (r : Row) : Refusal → Type 0 where
  bad_word : no_line_word r ≡ true → Fault line r (refused NoLineWord line 1)
  bad_count : no_line_word r ≡ false → wrong_count r ≡ true → Fault line r (refused FieldCount line 0)
  bad_form : no_line_word r ≡ false → wrong_count r ≡ false → (w : LineWord) → line_word (first r) ≡ Some w → (before : List (List ℕ)) (f : List ℕ) (after : List (List ℕ)) → others r ≡ before ++ f ∷ after → forms_fit w 2 before ≡ true → has_form (form_at w (length before + 2)) (token_of f) ≡ false → Fault line r (refused FieldForm line (length before + 2))

-- a reading -------------------------------------------------------------------

-- A text is refused with the first condition that holds, in their order, and at its place.
pub data Refused (text : List ℕ) (room : ℕ) : Refusal → Type 0 where
  text_too_long : too_long text ≡ true → Refused text room (refused TextTooLong 0 0)
  no_line_feed : too_long text ≡ false → unended text ≡ true → Refused text room (refused NoLineFeedAtEnd (feeds text + 1) 0)
  stray_byte : too_long text ≡ false → unended text ≡ false → (before : List ℕ) (b : ℕ) (after : List ℕ) → text ≡ before ++ b ∷ after → all_allowed before ≡ true → allowed b ≡ false → Refused text room (refused StrayByte (feeds before + 1) (commas_after 0 before + 1))
  many_lines : too_long text ≡ false → unended text ≡ false → all_allowed text ≡ true → too_many_lines text ≡ true → Refused text room (refused TooManyLines 257 0)
  bad_line : Whole text → (before : List Row) (r : Row) (after : List Row) (e : Refusal) → rows text ≡ before ++ r ∷ after → AllByRecursion Right before → Fault (length before + 1) r e → Refused text room e
  table_too_short : Whole text → AllByRecursion Right (rows text) → room < fields_in (rows text) → Refused text room (refused TableTooShort 0 0)

-- A text is accepted where none of the conditions holds.
pub record Accepted (text : List ℕ) (room lines fields : ℕ) : Type 0 where
  pub whole : Whole text
  pub right : AllByRecursion Right (rows text)
  pub fits : fields_in (rows text) ≤ room
  pub all_lines : lines ≡ length (rows text)
  pub all_fields : fields ≡ fields_in (rows text)

-- the answer is what these rules say
abbrev pub Told : List ℕ → ℕ → Result (ℕ × ℕ) Refusal → Type 0
Told text room (Ok x) = Accepted text room x.0 x.1
Told text room (Err e) = Refused text room e

-- and by them there is no other answer
pub record Alone (text : List ℕ) (room : ℕ) : Type 0 where
  pub accepted : (lines fields : ℕ) → Accepted text room lines fields → read_of text room ≡ Ok (lines, fields)
  pub refused_only : (e : Refusal) → Refused text room e → read_of text room ≡ Err e

-- the table -------------------------------------------------------------------

-- the field of which an entry speaks
abbrev pub cell_of : List ℕ → Entry → Cell
cell_of text e = cell e.place.line e.place.field (bytes_at text e.place)

-- The entries are those of the fields of the text, in order, each with its line, its number on the line and its bytes;
-- and each says what its bytes are.
pub record Entered (text : List ℕ) (es : List Entry) : Type 0 where
  pub fields : map (cell_of text) es ≡ cells 1 (rows text)
  pub tokens : AllByRecursion (λ e. e.token ≡ token_of (bytes_at text e.place)) es
