-- The program that lines spell, read off from the last line to the first.
use Rattle.std.specs.Prelude.{ℕ, suc, Bool, true, false, List, [], ◌∷◌}
use Rattle.motion.specs.Lines.{Line, var_line, set_line, run_line, rate_line, if_line, else_line, while_line, end_line, Rate, Item}
use Rattle.motion.specs.Program.{Prog, skip, assign, evolve, branch, repeat, seq}

-- what the lines up to the end of a block spell: rates that stand first, a program, and whether an else line ends it
pub data Block : Type 0 where
  block : List Rate → Prog → Bool → Block

-- a statement before the blocks that the lines behind it read as; no blocks where the lines break the rules
abbrev pub put : Prog → List Block → List Block
put s [] = []
put s (block (r ∷ rs) p c ∷ bs) = []
put s (block [] p c ∷ bs) = block [] (seq s p) c ∷ bs

-- a run line, which takes the rates that stand first
abbrev pub put_run : ℕ → List Item → List Block → List Block
put_run i e [] = []
put_run i e (block rs p c ∷ bs) = block [] (seq (evolve i e rs) p) c ∷ bs

-- a rate line
abbrev pub put_rate : Rate → List Block → List Block
put_rate r [] = []
put_rate r (block rs p c ∷ bs) = block (r ∷ rs) p c ∷ bs

-- a while line, whose body is the innermost block
abbrev pub put_while : ℕ → List Item → List Block → List Block
put_while i e [] = []
put_while i e (block (r ∷ rs) p c ∷ bs) = []
put_while i e (block [] p true ∷ bs) = []
put_while i e (block [] p false ∷ bs) = put (repeat i e p) bs

-- an if line with the body a, whose else part is the innermost block
abbrev pub put_else : ℕ → List Item → Prog → List Block → List Block
put_else i e a [] = []
put_else i e a (block (r ∷ rs) b c ∷ bs) = []
put_else i e a (block [] b true ∷ bs) = []
put_else i e a (block [] b false ∷ bs) = put (branch i e a b) bs

-- an if line, whose body is the innermost block
abbrev pub put_if : ℕ → List Item → List Block → List Block
put_if i e [] = []
put_if i e (block (r ∷ rs) p c ∷ bs) = []
put_if i e (block [] p true ∷ bs) = put_else i e p bs
put_if i e (block [] p false ∷ bs) = put (branch i e p skip) bs

-- an end line, or an else line, which ends a block
abbrev pub put_end : Bool → List Block → List Block
put_end c [] = []
put_end c (b ∷ bs) = block [] skip c ∷ (b ∷ bs)

-- the blocks from line i on, the innermost first
abbrev pub read : ℕ → List Line → List Block
read i [] = block [] skip false ∷ []
read i (set_line x e ∷ ls) = put (assign i x e) (read (suc i) ls)
read i (run_line e ∷ ls) = put_run i e (read (suc i) ls)
read i (rate_line r ∷ ls) = put_rate r (read (suc i) ls)
read i (if_line e ∷ ls) = put_if i e (read (suc i) ls)
read i (else_line ∷ ls) = put_end true (read (suc i) ls)
read i (while_line e ∷ ls) = put_while i e (read (suc i) ls)
read i (end_line ∷ ls) = put_end false (read (suc i) ls)
read i (var_line x ∷ ls) = []
