-- Bytes spell a word exactly where they are its letters. Assumes nothing.
use Rattle.std.proofs.Common.{◌≡◌, ℕ, Bool, true, false, cond, List, Some, None, Option, sym, refl, ap, ◌∙◌, arith}
use Rattle.std.proofs.lemmas.Slice.Eq.{bytes_eq-Decides}
use Rattle.std.specs.Str.{bytes_eq}
use Rattle.script.specs.declared.words.LineWord.{LineWord}
use Rattle.script.specs.declared.words.LineWord.TheVariants.{Var, Set, Run, Rate, If, Else, While, End}
use Rattle.script.specs.declared.words.Operator.{Operator}
use Rattle.script.specs.declared.words.Operator.TheVariants.{Add, Sub, Mul, Div, Lt, Le, And, Or, Not}
use Rattle.script.specs.declared.words.Word.{Word}
use Rattle.script.specs.declared.words.Word.TheVariants as word
use Rattle.script.specs.Words.{spelled, line_word, operator, or_line, or_operator, word_of}
use Rattle.script.specs.Spelling.{line_letters, operator_letters, letters, Spelled, WordsSpelled, WordsKnown}

-- where an answer is a word, the bytes are its letters
abbrev Told : {W : Type 0} → (W → List ℕ) → List ℕ → Option W → Type 0
Told spelling bs (Some w) = bs ≡ spelling w
Told spelling bs None = Unit {0}

by_test : {W : Type 0} (spelling : W → List ℕ) (bs : List ℕ) (w : W) (other : Option W) (t : Bool) → (t ≡ true → bs ≡ spelling w) → Told spelling bs other → Told spelling bs (cond t (Some w) other)
by_test spelling bs w other true h k = h refl
by_test spelling bs w other false h k = k

-- one word more
spelled_keeps : {W : Type 0} (spelling : W → List ℕ) (bs : List ℕ) (w : W) (other : Option W) → Told spelling bs other → Told spelling bs (spelled bs (spelling w) w other)
spelled_keeps spelling bs w other k = by_test spelling bs w other (bytes_eq bs (spelling w)) (bytes_eq-Decides bs (spelling w)).0 k

line_told : (bs : List ℕ) → Told line_letters bs (line_word bs)
line_told bs =
    let keep = spelled_keeps line_letters bs in
    keep Var _ (keep Set _ (keep Run _ (keep Rate _ (keep If _ (keep Else _ (keep While _ (keep End None tt)))))))

operator_told : (bs : List ℕ) → Told operator_letters bs (operator bs)
operator_told bs =
    let keep = spelled_keeps operator_letters bs in
    keep Add _ (keep Sub _ (keep Mul _ (keep Div _ (keep Lt _ (keep Le _ (keep And _ (keep Or _ (keep Not None tt))))))))

told : (bs : List ℕ) (l : Option LineWord) (o : Option Operator) (one : Option Word) → Told line_letters bs l → Told operator_letters bs o → Told letters bs one → Told letters bs (or_line l (or_operator o one))
told bs (Some w) o one a b c = a
told bs None (Some o) one a b c = b
told bs None None one a b c = c

word_told : (bs : List ℕ) → Told letters bs (word_of bs)
word_told bs = told bs (line_word bs) (operator bs) _ (line_told bs) (operator_told bs) (spelled_keeps letters bs word.One None tt)

-- what is told, at a word that the answer is
at_word : (bs : List ℕ) (r : Option Word) (w : Word) → Told letters bs r → r ≡ Some w → bs ≡ letters w
at_word bs (Some v) w k h = let e : v ≡ w = cc in k ∙ ap letters e
at_word bs None w k h = let z : ◌≡◌ {A = ℕ} 0 1 = cc in absurd (omega arith)

of_line : (w : LineWord) → word_of (line_letters w) ≡ Some (word.Line w)
of_line Var = refl
of_line Set = refl
of_line Run = refl
of_line Rate = refl
of_line If = refl
of_line Else = refl
of_line While = refl
of_line End = refl

of_operator : (o : Operator) → word_of (operator_letters o) ≡ Some (word.Item o)
of_operator Add = refl
of_operator Sub = refl
of_operator Mul = refl
of_operator Div = refl
of_operator Lt = refl
of_operator Le = refl
of_operator And = refl
of_operator Or = refl
of_operator Not = refl

-- the letters of a word spell it
pub words_known : WordsKnown
words_known (word.Line w) = of_line w
words_known (word.Item o) = of_operator o
words_known word.One = refl

pub words_spelled : WordsSpelled
words_spelled bs w = (at_word bs (word_of bs) w (word_told bs), λ h. ap word_of h ∙ words_known w)

-- the same of an answer that is the word of the bytes
pub spelled_by : (bs : List ℕ) (r : Option Word) → r ≡ word_of bs → Spelled bs r
spelled_by bs r e w = (λ h. (words_spelled bs w).0 (sym e ∙ h), λ h. e ∙ (words_spelled bs w).1 h)
