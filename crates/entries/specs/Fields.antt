-- What the fields of a line are: its word, the names and the numbers among them. Total on any entries.
use Rattle.std.specs.Prelude.{ℕ, ◌+◌, Bool, true, false, cond, ◌&&◌, List, [], ◌∷◌, ℤ, pos, neg_ℤ, Some, None, Ok, Err, Option, Result, ◌==◌}
use Rattle.std.specs.List.{position_from}
use Rattle.std.specs.Str.{bytes_eq}
use Rattle.script.specs.declared.words.LineWord.{LineWord}
use Rattle.script.specs.declared.words.LineWord.TheVariants.{Var, End}
use Rattle.script.specs.declared.words.Word.{Word}
use Rattle.script.specs.declared.words.Word.TheVariants as word
use Rattle.script.specs.declared.tokens.Token.{Token}
use Rattle.script.specs.declared.tokens.Token.TheVariants as token
use Rattle.script.specs.declared.numbers.Number.{Number}
use Rattle.script.specs.declared.places.Place.{Place}
use Rattle.script.specs.declared.reading.Entry.{Entry}
use Rattle.script.specs.Places.{bytes_at}
use Rattle.number.specs.declared.Pair.{Pair}
use Rattle.number.specs.declared.Fault.{Fault}
use Rattle.number.specs.Frac.{Frac}
use Rattle.number.specs.Kind.{taken}

-- places ---------------------------------------------------------------------

-- a place that no text has
abbrev pub nowhere : Place
nowhere = record { line = 0; field = 0; from = 0; to = 0 }

abbrev pub blank : Entry
blank = record { place = nowhere; token = token.Word (word.Line Var) }

-- the first field of a line
abbrev pub head_of : List Entry → Entry
head_of [] = blank
head_of (e ∷ es) = e

-- where its second field stands, which is the name on a line of var, set or rate
abbrev pub second_place : List Entry → Place
second_place [] = nowhere
second_place (a ∷ []) = nowhere
second_place (a ∷ b ∷ es) = b.place

-- lines -----------------------------------------------------------------------

-- how many of these entries come before the next line, which begins with a field 1
abbrev pub rest_of_line : List Entry → ℕ
rest_of_line [] = 0
rest_of_line (e ∷ es) = cond (e.place.field == 1) 0 (rest_of_line es + 1)

-- the entries behind these are none, or begin a line
abbrev pub fresh : List Entry → Bool
fresh [] = true
fresh (e ∷ es) = e.place.field == 1

-- an entry in front of the first line
abbrev pub onto : Entry → List (List Entry) → List (List Entry)
onto e [] = (e ∷ []) ∷ []
onto e (l ∷ ls) = (e ∷ l) ∷ ls

-- entries by lines
abbrev pub lines : List Entry → List (List Entry)
lines [] = []
lines (e ∷ es) = cond (fresh es) ((e ∷ []) ∷ lines es) (onto e (lines es))

-- the word that an entry is as the first of its line; end, where it is no line word
abbrev pub by_reserved : Word → LineWord
by_reserved (word.Line w) = w
by_reserved (word.Item o) = End
by_reserved word.One = End

abbrev pub first_word : Token → LineWord
first_word (token.Word w) = by_reserved w
first_word token.Name = End
first_word (token.Number n) = End
first_word token.Other = End

-- names -----------------------------------------------------------------------

abbrev pub is_name : Token → Bool
is_name (token.Word w) = false
is_name token.Name = true
is_name (token.Number n) = false
is_name token.Other = false

abbrev pub is_none : {A : Type 0} → Option A → Bool
is_none (Some a) = false
is_none None = true

-- the place of this name among those that stand at these places of the text, numbered from `i` on
abbrev pub find : List ℕ → List Place → ℕ → List ℕ → Option ℕ
find text names i name = position_from (λ p. bytes_eq (bytes_at text p) name) i names

-- the field of the first of these entries that passes a test
abbrev pub first_field : (Entry → Bool) → List Entry → Option ℕ
first_field test [] = None
first_field test (e ∷ es) = cond (test e) (Some e.place.field) (first_field test es)

-- an entry is a name that is not among these
abbrev pub unknown : List ℕ → List Place → Entry → Bool
unknown text names e = is_name e.token && is_none (find text names 0 (bytes_at text e.place))

-- the field of the first name that is not among these
abbrev pub undeclared : List ℕ → List Place → List Entry → Option ℕ
undeclared text names = first_field (unknown text names)

-- numbers ---------------------------------------------------------------------

-- the numerator of a number as written
abbrev pub signed : Bool → ℕ → ℤ
signed true n = neg_ℤ (pos n)
signed false n = pos n

abbrev pub is_err : {A E : Type 0} → Result A E → Bool
is_err (Ok a) = false
is_err (Err e) = true

module _ (means : Pair → Option Frac) (code : Frac → Option Pair) where
  -- the kind's pair of a number as written, if it is held
  abbrev pub pair_of_number : Number → Result Pair Fault
  pair_of_number n = taken means code (signed n.minus n.top) (pos n.bottom)

  -- what an entry is is a number that is not held
  abbrev pub not_held : Token → Bool
  not_held (token.Word w) = false
  not_held token.Name = false
  not_held (token.Number n) = is_err (pair_of_number n)
  not_held token.Other = false

  -- the field of the first number that is not held
  abbrev pub unheld : List Entry → Option ℕ
  unheld = first_field (λ e. not_held e.token)
