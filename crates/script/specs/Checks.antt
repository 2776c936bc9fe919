-- What is tried of a text, in order, before anything is written. Assumes nothing.
use Rattle.std.specs.Prelude.{ℕ, ◌+◌, ◌-◌, ◌%◌, Bool, true, false, cond, not, ◌&&◌, ◌||◌, List, [], ◌∷◌, length, Some, None, Ok, Err, Option, Result, ◌==◌, nat_le, nat_lt, slice_index}
use Rattle.script.specs.declared.words.LineWord.{LineWord}
use Rattle.script.specs.declared.words.LineWord.TheVariants.{Var, Set, Run, Rate, If, Else, While, End}
use Rattle.script.specs.declared.tokens.Token.{Token}
use Rattle.script.specs.declared.tokens.Token.TheVariants as token
use Rattle.script.specs.declared.checks.Form.{Form}
use Rattle.script.specs.declared.checks.Form.TheVariants as form
use Rattle.script.specs.declared.checks.Spot.{Spot}
use Rattle.script.specs.Refusals.{Refusal}
use Rattle.script.specs.declared.refusals.Reason.TheVariants.{TextTooLong, NoLineFeedAtEnd, StrayByte, TooManyLines, NoLineWord, FieldCount, FieldForm}
use Rattle.script.specs.Words.{line_word, is_item, is_one}
use Rattle.script.specs.Numbers.{digit}
use Rattle.script.specs.Tokens.{letter, token_of}
use Rattle.script.specs.Lines.{Row, rows, first, others, width}
use Rattle.refusal.specs.Refusals.{refused}

-- the first of two, where there is one
abbrev pub sooner : {A : Type 0} → Option A → Option A → Option A
sooner (Some a) other = Some a
sooner None other = other

-- what `f` makes of a result, unless that is a refusal
abbrev pub and_then : {A B E : Type 0} → Result A E → (A → Result B E) → Result B E
and_then (Ok a) f = f a
and_then (Err e) f = Err e

-- the whole text ------------------------------------------------------------

abbrev pub most_bytes : ℕ
most_bytes = 16384

abbrev pub most_lines : ℕ
most_lines = 256

-- how many line feeds there are
abbrev pub feeds : List ℕ → ℕ
feeds [] = 0
feeds (b ∷ bs) = cond (b == 10) (feeds bs + 1) (feeds bs)

-- the text is not empty and does not end in a line feed
abbrev pub unended : List ℕ → Bool
unended text = nat_lt 0 (length text) && not (slice_index text (length text - 1) == 10)

-- a lower-case letter, digit, comma, minus, slash or line feed
abbrev pub allowed : ℕ → Bool
allowed b = letter b || (digit b || (b == 44 || (b == 45 || (b == 47 || b == 10))))

abbrev pub spot : ℕ → ℕ → Spot
spot line field = record { line = line; field = field }

-- the line and field of the first byte that is not allowed, after `line` lines and `field` fields of this line
abbrev pub stray : ℕ → ℕ → List ℕ → Option Spot
stray line field [] = None
stray line field (b ∷ bs) = cond (allowed b)
    (cond (b == 10) (stray (line + 1) 0 bs) (cond (b == 44) (stray line (field + 1) bs) (stray line field bs)))
    (Some (spot (line + 1) (field + 1)))

abbrev pub by_stray : Option Spot → Result ℕ Refusal → Result ℕ Refusal
by_stray (Some s) other = Err (refused StrayByte s.line s.field)
by_stray None other = other

-- the number of lines, or what is wrong with the text as a whole
abbrev pub text_check : List ℕ → Result ℕ Refusal
text_check text = cond (nat_lt most_bytes (length text)) (Err (refused TextTooLong 0 0))
    (cond (unended text) (Err (refused NoLineFeedAtEnd (feeds text + 1) 0))
    (by_stray (stray 0 0 text)
    (cond (nat_lt most_lines (feeds text)) (Err (refused TooManyLines 257 0)) (Ok (feeds text)))))

-- line by line --------------------------------------------------------------

abbrev pub between : ℕ → ℕ → ℕ → Bool
between low high n = nat_le low n && nat_le n high

-- a line of this word can have so many fields, the word included
abbrev pub count_suits : LineWord → ℕ → Bool
count_suits Var n = n == 3
count_suits Set n = between 3 18 n
count_suits Run n = between 2 17 n
count_suits Rate n = between 4 14 n && n % 2 == 0
count_suits If n = between 2 17 n
count_suits Else n = n == 1
count_suits While n = between 2 17 n
count_suits End n = n == 1

-- the form that field `n` of such a line must have, the word being field 1
abbrev pub form_at : LineWord → ℕ → Form
form_at Var n = cond (n == 2) form.Name form.Number
form_at Set n = cond (n == 2) form.Name form.Item
form_at Run n = form.Item
form_at Rate n = cond (n == 2) form.Name (cond (n % 2 == 1) form.Number form.NameOrOne)
form_at If n = form.Item
form_at Else n = form.Item
form_at While n = form.Item
form_at End n = form.Item

-- what a field is suits this form
abbrev pub has_form : Form → Token → Bool
has_form form.Name (token.Word w) = false
has_form form.Name token.Name = true
has_form form.Name (token.Number n) = false
has_form form.Name token.Other = false
has_form form.Number (token.Word w) = false
has_form form.Number token.Name = false
has_form form.Number (token.Number n) = true
has_form form.Number token.Other = false
has_form form.Item (token.Word w) = is_item w
has_form form.Item token.Name = true
has_form form.Item (token.Number n) = true
has_form form.Item token.Other = false
has_form form.NameOrOne (token.Word w) = is_one w
has_form form.NameOrOne token.Name = true
has_form form.NameOrOne (token.Number n) = false
has_form form.NameOrOne token.Other = false

-- the number of the first of these fields that has not the form of its place, numbered from `k` on
abbrev pub misfit : LineWord → ℕ → List (List ℕ) → Option ℕ
misfit w k [] = None
misfit w k (f ∷ fs) = cond (has_form (form_at w k) (token_of f)) (misfit w (k + 1) fs) (Some k)

abbrev pub by_misfit : ℕ → Option ℕ → Result Unit Refusal
by_misfit line (Some k) = Err (refused FieldForm line k)
by_misfit line None = Ok tt

-- a line of this word: its field count comes before the forms of its fields
abbrev pub by_word : ℕ → Row → Option LineWord → Result Unit Refusal
by_word line r (Some w) = cond (count_suits w (width r)) (by_misfit line (misfit w 2 (others r))) (Err (refused FieldCount line 0))
by_word line r None = Err (refused NoLineWord line 1)

-- the line of this number is in order, or what is wrong with it first
abbrev pub row_check : ℕ → Row → Result Unit Refusal
row_check line r = by_word line r (line_word (first r))

-- the same of lines, numbered from `line` on: the first that is not in order decides
abbrev pub rows_check : ℕ → List Row → Result Unit Refusal
rows_check line [] = Ok tt
rows_check line (r ∷ rs) = and_then (row_check line r) (λ _. rows_check (line + 1) rs)

-- no refusal
abbrev pub passes : {A E : Type 0} → Result A E → Bool
passes (Ok a) = true
passes (Err e) = false

-- nothing is wrong with the text, neither as a whole nor on a line
abbrev pub is_in_order : List ℕ → Bool
is_in_order text = passes (text_check text) && passes (rows_check 1 (rows text))
