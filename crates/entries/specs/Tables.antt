-- Condition 8: the table does not hold what the reader wrote, tested against the text itself. Total on any entries.
use Rattle.std.specs.Prelude.{ℕ, Bool, true, false, ◌&&◌, List, map, ◌==◌}
use Rattle.std.specs.Bool.{beq}
use Rattle.std.specs.Cmp.Lexicographic.{pointwise}
use denote.Enum.Bare.{sameb}
use Rattle.script.specs.contracts.words.LineWord as line_word
use Rattle.script.specs.contracts.words.Operator as operator
use Rattle.script.specs.declared.words.Word.{Word}
use Rattle.script.specs.declared.words.Word.TheVariants as word
use Rattle.script.specs.declared.tokens.Token.{Token}
use Rattle.script.specs.declared.tokens.Token.TheVariants as token
use Rattle.script.specs.declared.numbers.Number.{Number}
use Rattle.script.specs.declared.places.Place.{Place}
use Rattle.script.specs.declared.reading.Entry.{Entry}
use Rattle.script.specs.Reading.{entry_of}

-- two words are the same
abbrev pub same_word : Word → Word → Bool
same_word (word.Line v) (word.Line w) = sameb line_word.the_type v w
same_word (word.Item v) (word.Item w) = sameb operator.the_type v w
same_word word.One word.One = true
same_word v w = false

abbrev pub same_number : Number → Number → Bool
same_number m n = beq m.minus n.minus && (m.top == n.top && m.bottom == n.bottom)

-- two fields are said to be the same
abbrev pub same_token : Token → Token → Bool
same_token (token.Word v) (token.Word w) = same_word v w
same_token token.Name token.Name = true
same_token (token.Number m) (token.Number n) = same_number m n
same_token token.Other token.Other = true
same_token s t = false

abbrev pub same_place : Place → Place → Bool
same_place p q = p.line == q.line && (p.field == q.field && (p.from == q.from && p.to == q.to))

abbrev pub same_entry : Entry → Entry → Bool
same_entry d e = same_place d.place e.place && same_token d.token e.token

-- these entries are those of the fields at these places, one for one
abbrev pub same_table : List ℕ → List Place → List Entry → Bool
same_table text ps es = pointwise same_entry (map (entry_of text) ps) es
