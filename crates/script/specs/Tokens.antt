-- What a field is, by its bytes. Assumes nothing.
use Rattle.std.specs.Prelude.{ℕ, Bool, true, cond, ◌&&◌, List, [], ◌∷◌, length, Some, None, Option, nat_le}
use Rattle.script.specs.declared.words.Word.{Word}
use Rattle.script.specs.declared.numbers.Number.{Number}
use Rattle.script.specs.declared.tokens.Token.{Token}
use Rattle.script.specs.declared.tokens.Token.TheVariants as token
use Rattle.script.specs.declared.tokens.Field.{Field}
use Rattle.script.specs.declared.tokens.Field.TheVariants as field
use Rattle.script.specs.Words.{word_of}
use Rattle.script.specs.Numbers.{number_of}

-- a lower-case letter
abbrev pub letter : ℕ → Bool
letter b = nat_le 97 b && nat_le b 122

abbrev pub all_letters : List ℕ → Bool
all_letters [] = true
all_letters (b ∷ bs) = letter b && all_letters bs

-- 1 to 8 lower-case letters; reserved words are told before
abbrev pub is_name : List ℕ → Bool
is_name bs = nat_le 1 (length bs) && (nat_le (length bs) 8 && all_letters bs)

abbrev pub or_number : Option Number → Token
or_number (Some n) = token.Number n
or_number None = token.Other

abbrev pub or_word : Option Word → Token → Token
or_word (Some w) rest = token.Word w
or_word None rest = rest

-- what these bytes are: a reserved word, a name, a number, or none of these
abbrev pub token_of : List ℕ → Token
token_of bs = or_word (word_of bs) (cond (is_name bs) token.Name (or_number (number_of bs)))

-- what a field is said to be
abbrev pub token_in : Field → Token
token_in (field.Word w s) = token.Word w
token_in (field.Name s) = token.Name
token_in (field.Number n s) = token.Number n
token_in (field.Other s) = token.Other

-- the bytes that a field borrows
abbrev pub bytes_in : Field → List ℕ
bytes_in (field.Word w s) = s.now
bytes_in (field.Name s) = s.now
bytes_in (field.Number n s) = s.now
bytes_in (field.Other s) = s.now
