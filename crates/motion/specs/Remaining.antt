-- What is left to be done at a place of the line machine.
use Rattle.std.specs.Prelude.{◌≡◌, ℕ, suc, ◌+◌, List, [], ◌∷◌, ◌++◌, map, length, drop}
use Rattle.motion.specs.Lines.{Line, var_line, set_line, if_line, run_line, rate_line, else_line, while_line, end_line, Rate, Item}
use Rattle.motion.specs.NextLine.{Open, in_while, in_if, opens, line_at}
use Rattle.motion.specs.Machine.{Place, at, inside, ended}
use Rattle.motion.specs.Program.{Prog, skip, rest, repeat, seq, ◌⨟◌, Spells}

-- before line n the blocks st are open, and the lines from n on are ls
pub record Here (all : List Line) (n : ℕ) (st : List Open) (ls : List Line) : Type 0 where
  pub before : ℕ
  pub number : n ≡ suc before
  pub blocks : opens [] 1 before all ≡ st
  pub lines : drop before all ≡ ls

-- first p, then the programs of the list, one after the other
abbrev pub plug : List Prog → Prog → Prog
plug [] p = p
plug (q ∷ qs) p = plug qs (p ⨟ q)

-- the lines tl, from n on, with which the innermost of the open blocks ends, and what is to be done behind that block
pub data Behind (all : List Line) : List Open → ℕ → List Line → List Prog → Type 0 where
  nothing : {n : ℕ} → Behind all [] n [] []
  if_part : {st : List Open} {n m : ℕ} {ls tl : List Line} {q : Prog} {qs : List Prog}
      → Spells (suc n) ls q → m ≡ suc (n + length ls) → Behind all st m tl qs → Behind all (in_if ∷ st) n (end_line ∷ (ls ++ tl)) (q ∷ qs)
  else_part : {st : List Open} {n m : ℕ} {ys ls : List Line} {b : Prog} {qs : List Prog}
      → Spells (suc n) ys b → m ≡ suc (n + length ys) → Behind all (in_if ∷ st) m (end_line ∷ ls) qs → Behind all (in_if ∷ st) n (else_line ∷ (ys ++ (end_line ∷ ls))) qs
  while_part : {st : List Open} {l n m : ℕ} {e : List Item} {xs ls tl : List Line} {a q : Prog} {qs : List Prog}
      → Here all l st (while_line e ∷ ((xs ++ (end_line ∷ ls)) ++ tl)) → Spells (suc l) xs a → Spells (suc (suc (l + length xs))) ls q
      → n ≡ suc (l + length xs) → m ≡ suc (n + length ls) → Behind all st m tl qs
      → Behind all (in_while l ∷ st) n (end_line ∷ (ls ++ tl)) (repeat l e a ∷ q ∷ qs)

-- at line n: the rest xs of the innermost block spells a
pub data Stands (all : List Line) : ℕ → Prog → Type 0 where
  stands : {st : List Open} {n m : ℕ} {xs tl : List Line} {a : Prog} {qs : List Prog}
      → Here all n st (xs ++ tl) → Spells n xs a → m ≡ n + length xs → Behind all st m tl qs → Stands all n (plug qs a)

-- in the stretch on line n, with d ticks left
pub data Cut (all : List Line) : ℕ → ℕ → Prog → Type 0 where
  cuts : {st : List Open} {n m d : ℕ} {e : List Item} (rs : List Rate) {xs tl : List Line} {a : Prog} {qs : List Prog}
      → Here all n st (run_line e ∷ (map rate_line rs ++ (xs ++ tl))) → Spells (suc (n + length rs)) xs a → m ≡ suc (n + length rs + length xs) → Behind all st m tl qs
      → Cut all n d (plug qs (seq (rest n d rs) a))

-- a line on which a statement stands
abbrev pub Statement : Line → Type 0
Statement (set_line x e) = Unit {0}
Statement (run_line e) = Unit {0}
Statement (if_line e) = Unit {0}
Statement (while_line e) = Unit {0}
Statement (var_line x) = ⊥
Statement (rate_line r) = ⊥
Statement else_line = ⊥
Statement end_line = ⊥

-- the program p is left to be done at a place
abbrev pub Left : List Line → Place → Prog → Type 0
Left all (at n) p = Stands all n p × Statement (line_at all n)
Left all (inside n d) p = Cut all n d p
Left all ended p = p ≡ skip
