-- The letters of each reserved word. Assumes nothing.
use Rattle.std.specs.Prelude.{◌≡◌, ℕ, List, Some, codes, Option}
use Rattle.script.specs.declared.words.LineWord.{LineWord}
use Rattle.script.specs.declared.words.LineWord.TheVariants.{Var, Set, Run, Rate, If, Else, While, End}
use Rattle.script.specs.declared.words.Operator.{Operator}
use Rattle.script.specs.declared.words.Operator.TheVariants.{Add, Sub, Mul, Div, Lt, Le, And, Or, Not}
use Rattle.script.specs.declared.words.Word.{Word}
use Rattle.script.specs.declared.words.Word.TheVariants as word
use Rattle.script.specs.Words.{word_of}

-- the letters of a word that begins a line
abbrev pub line_letters : LineWord → List ℕ
line_letters Var = codes "var"
line_letters Set = codes "set"
line_letters Run = codes "run"
line_letters Rate = codes "rate"
line_letters If = codes "if"
line_letters Else = codes "else"
line_letters While = codes "while"
line_letters End = codes "end"

-- the letters of a word that works on the results before it
abbrev pub operator_letters : Operator → List ℕ
operator_letters Add = codes "add"
operator_letters Sub = codes "sub"
operator_letters Mul = codes "mul"
operator_letters Div = codes "div"
operator_letters Lt = codes "lt"
operator_letters Le = codes "le"
operator_letters And = codes "and"
operator_letters Or = codes "or"
operator_letters Not = codes "not"

-- the letters of a reserved word
abbrev pub letters : Word → List ℕ
letters (word.Line w) = line_letters w
letters (word.Item o) = operator_letters o
letters word.One = codes "one"

-- The answer is a word exactly where the bytes are the letters of that word.
abbrev pub Spelled : List ℕ → Option Word → Type 0
Spelled bs r = (w : Word) → (r ≡ Some w → bs ≡ letters w) × (bs ≡ letters w → r ≡ Some w)

-- bytes spell a reserved word exactly where they are its letters
abbrev pub WordsSpelled : Type 0
WordsSpelled = (bs : List ℕ) → Spelled bs (word_of bs)

-- each of the eighteen is spelled by its letters
abbrev pub WordsKnown : Type 0
WordsKnown = (w : Word) → word_of (letters w) ≡ Some w
