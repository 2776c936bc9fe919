-- The lines by their first words, for the code that goes from line to line.
use Rattle.std.specs.Prelude.{ℕ, suc, List, [], ◌∷◌, Some, None, Option}
use Rattle.script.specs.declared.words.LineWord.{LineWord}
use Rattle.script.specs.declared.words.LineWord.TheVariants as w
use Rattle.motion.specs.Lines.{Line, var_line, set_line, run_line, rate_line, if_line, else_line, while_line, end_line}
use Rattle.motion.specs.NextLine.{Open, in_while, in_if}

-- the first word of a line
abbrev pub word_of : Line → LineWord
word_of (var_line x) = w.Var
word_of (set_line x e) = w.Set
word_of (run_line e) = w.Run
word_of (rate_line r) = w.Rate
word_of (if_line e) = w.If
word_of else_line = w.Else
word_of (while_line e) = w.While
word_of end_line = w.End

-- the line of the innermost open block, if that is a while
abbrev pub back_to : List Open → Option ℕ
back_to [] = None
back_to (in_while o ∷ st) = Some o
back_to (in_if ∷ st) = None

-- an index as the number of its line
abbrev pub numbered : Option ℕ → Option ℕ
numbered (Some i) = Some (suc i)
numbered None = None
