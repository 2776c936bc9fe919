-- The reserved words and how they are spelled. Assumes nothing.
use Rattle.std.specs.Prelude.{ℕ, Bool, true, false, cond, List, Some, None, codes, Option}
use Rattle.std.specs.Str.{bytes_eq}
use Rattle.script.specs.declared.words.LineWord.{LineWord}
use Rattle.script.specs.declared.words.LineWord.TheVariants.{Var, Set, Run, Rate, If, Else, While, End}
use Rattle.script.specs.declared.words.Operator.{Operator}
use Rattle.script.specs.declared.words.Operator.TheVariants.{Add, Sub, Mul, Div, Lt, Le, And, Or, Not}
use Rattle.script.specs.declared.words.Word.{Word}
use Rattle.script.specs.declared.words.Word.TheVariants as word

-- this word where the bytes are these letters, else what the others give
abbrev pub spelled : {W : Type 0} → List ℕ → List ℕ → W → Option W → Option W
spelled bytes letters w other = cond (bytes_eq bytes letters) (Some w) other

-- the word that begins a line
abbrev pub line_word : List ℕ → Option LineWord
line_word bytes =
    spelled bytes (codes "var") Var (spelled bytes (codes "set") Set (spelled bytes (codes "run") Run (spelled bytes (codes "rate") Rate
    (spelled bytes (codes "if") If (spelled bytes (codes "else") Else (spelled bytes (codes "while") While (spelled bytes (codes "end") End None)))))))

-- the word that works on the results before it
abbrev pub operator : List ℕ → Option Operator
operator bytes =
    spelled bytes (codes "add") Add (spelled bytes (codes "sub") Sub (spelled bytes (codes "mul") Mul (spelled bytes (codes "div") Div
    (spelled bytes (codes "lt") Lt (spelled bytes (codes "le") Le (spelled bytes (codes "and") And (spelled bytes (codes "or") Or
    (spelled bytes (codes "not") Not None))))))))

abbrev pub or_line : Option LineWord → Option Word → Option Word
or_line (Some w) other = Some (word.Line w)
or_line None other = other

abbrev pub or_operator : Option Operator → Option Word → Option Word
or_operator (Some o) other = Some (word.Item o)
or_operator None other = other

-- the reserved word that the bytes spell
abbrev pub word_of : List ℕ → Option Word
word_of bytes = or_line (line_word bytes) (or_operator (operator bytes) (spelled bytes (codes "one") word.One None))

-- may stand among items
abbrev pub is_item : Word → Bool
is_item (word.Line w) = false
is_item (word.Item o) = true
is_item word.One = false

-- is the word `one`
abbrev pub is_one : Word → Bool
is_one (word.Line w) = false
is_one (word.Item o) = false
is_one word.One = true
