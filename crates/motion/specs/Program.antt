-- The nested program that a checked script spells, with the number of the line on which each statement stands.
use Rattle.std.specs.Prelude.{ℕ, suc, ◌+◌, List, [], ◌∷◌, ◌++◌, map, length}
use Rattle.motion.specs.Lines.{Line, set_line, run_line, rate_line, if_line, else_line, while_line, end_line, Rate, Item}

-- a program; each statement has the number of its line
pub data Prog : Type 0 where
  skip : Prog
  assign : (line x : ℕ) → List Item → Prog
  -- a stretch whose duration is still to be worked out, and the rest of one that was cut
  evolve : (line : ℕ) → List Item → List Rate → Prog
  rest : (line left : ℕ) → List Rate → Prog
  branch : (line : ℕ) → List Item → Prog → Prog → Prog
  repeat : (line : ℕ) → List Item → Prog → Prog
  seq : Prog → Prog → Prog

-- what follows is added; an empty block leaves nothing to do
infixr 30 ◌⨟◌
abbrev pub ◌⨟◌ : Prog → Prog → Prog
skip ⨟ q = q
assign l x e ⨟ q = seq (assign l x e) q
evolve l e r ⨟ q = seq (evolve l e r) q
rest l d r ⨟ q = seq (rest l d r) q
branch l e a b ⨟ q = seq (branch l e a b) q
repeat l e a ⨟ q = seq (repeat l e a) q
seq a b ⨟ q = seq (seq a b) q

-- Spells i ls p: the lines ls, of which the first has the number i, spell p
pub data Spells : ℕ → List Line → Prog → Type 0 where
  none : {i : ℕ} → Spells i [] skip
  assigns : {i x : ℕ} {e : List Item} {ls : List Line} {p : Prog} → Spells (suc i) ls p → Spells i (set_line x e ∷ ls) (seq (assign i x e) p)
  evolves : {i : ℕ} {e : List Item} (rs : List Rate) {ls : List Line} {p : Prog} → Spells (suc (i + length rs)) ls p → Spells i (run_line e ∷ (map rate_line rs ++ ls)) (seq (evolve i e rs) p)
  branches : {i : ℕ} {e : List Item} {xs ls : List Line} {a p : Prog} → Spells (suc i) xs a → Spells (suc (suc (i + length xs))) ls p → Spells i (if_line e ∷ (xs ++ (end_line ∷ ls))) (seq (branch i e a skip) p)
  branches_else : {i : ℕ} {e : List Item} {xs ys ls : List Line} {a b p : Prog} → Spells (suc i) xs a → Spells (suc (suc (i + length xs))) ys b → Spells (suc (suc (suc (i + length xs + length ys)))) ls p → Spells i (if_line e ∷ (xs ++ (else_line ∷ (ys ++ (end_line ∷ ls))))) (seq (branch i e a b) p)
  repeats : {i : ℕ} {e : List Item} {xs ls : List Line} {a p : Prog} → Spells (suc i) xs a → Spells (suc (suc (i + length xs))) ls p → Spells i (while_line e ∷ (xs ++ (end_line ∷ ls))) (seq (repeat i e a) p)
