-- The lines in the order in which a run takes them: from a line to the next statement.
use Rattle.std.specs.Prelude.{ℕ, zero, suc, List, [], ◌∷◌, drop, slice_index_or}
use Rattle.number.specs.Frac.{Frac}
use Rattle.motion.specs.Lines.{Line, var_line, set_line, run_line, rate_line, if_line, else_line, while_line, end_line, Rate}

-- line n, counted from 1
abbrev pub line_at : List Line → ℕ → Line
line_at ls zero = end_line
line_at ls (suc m) = slice_index_or ls m end_line

-- the rate lines that stand first
abbrev pub rates : List Line → List Rate
rates [] = []
rates (rate_line r ∷ ls) = r ∷ rates ls
rates (var_line x ∷ ls) = []
rates (set_line x y ∷ ls) = []
rates (run_line x ∷ ls) = []
rates (if_line x ∷ ls) = []
rates (else_line ∷ ls) = []
rates (while_line x ∷ ls) = []
rates (end_line ∷ ls) = []

-- a block that is open: a while, by its line, or an if
pub data Open : Type 0 where
  in_while : (line : ℕ) → Open
  in_if : Open

-- the blocks that are open behind line n, from those that are open before it, the innermost first
abbrev pub open_after : List Open → ℕ → Line → List Open
open_after st n (if_line x) = in_if ∷ st
open_after st n (while_line x) = in_while n ∷ st
open_after st n end_line = drop 1 st
open_after st n else_line = st
open_after st n (var_line x) = st
open_after st n (set_line x y) = st
open_after st n (run_line x) = st
open_after st n (rate_line x) = st

-- the same behind the first m of the lines from number k on
abbrev pub opens : List Open → (k m : ℕ) → List Line → List Open
opens st k zero ls = st
opens st k (suc m) [] = st
opens st k (suc m) (l ∷ ls) = opens (open_after st k l) (suc k) m ls

-- from line n on, the line of the next statement; at skip 0 over rate and end lines, back to the while at the end of its body, and past an else part;
-- at skip k + 1 only behind the end, or the else, of the innermost but k of the blocks that are open
abbrev pub settle : (skip : ℕ) → List Open → ℕ → List Line → ℕ
settle k st n [] = n
settle zero st n (rate_line r ∷ ls) = settle zero st (suc n) ls
settle zero st n (else_line ∷ ls) = settle 1 st (suc n) ls
settle zero [] n (end_line ∷ ls) = settle zero [] (suc n) ls
settle zero (in_while o ∷ st) n (end_line ∷ ls) = o
settle zero (in_if ∷ st) n (end_line ∷ ls) = settle zero st (suc n) ls
settle zero st n (var_line x ∷ ls) = n
settle zero st n (set_line x y ∷ ls) = n
settle zero st n (run_line x ∷ ls) = n
settle zero st n (if_line x ∷ ls) = n
settle zero st n (while_line x ∷ ls) = n
settle (suc k) st n (if_line x ∷ ls) = settle (suc (suc k)) (in_if ∷ st) (suc n) ls
settle (suc k) st n (while_line x ∷ ls) = settle (suc (suc k)) (in_while n ∷ st) (suc n) ls
settle (suc k) st n (end_line ∷ ls) = settle k (drop 1 st) (suc n) ls
settle (suc zero) st n (else_line ∷ ls) = settle zero st (suc n) ls
settle (suc (suc k)) st n (else_line ∷ ls) = settle (suc (suc k)) st (suc n) ls
settle (suc k) st n (var_line x ∷ ls) = settle (suc k) st (suc n) ls
settle (suc k) st n (set_line x y ∷ ls) = settle (suc k) st (suc n) ls
settle (suc k) st n (run_line x ∷ ls) = settle (suc k) st (suc n) ls
settle (suc k) st n (rate_line x ∷ ls) = settle (suc k) st (suc n) ls

-- the line of the next statement behind line n
abbrev pub onward : (skip : ℕ) → List Line → ℕ → ℕ
onward k all n = settle k (opens [] 1 n all) (suc n) (drop n all)

-- the line of the next statement from line n on
abbrev pub next_from : List Line → ℕ → ℕ
next_from all zero = zero
next_from all (suc m) = onward 0 all m

-- past the body that starts behind line n: of an if, in its else part or behind it; of a while, behind it
abbrev pub past : List Line → ℕ → ℕ
past all n = onward 1 all n

-- the number of the first line that is not var, or one past the last, where the first line has the number n
abbrev pub first_line : ℕ → List Line → ℕ
first_line n [] = n
first_line n (var_line x ∷ ls) = first_line (suc n) ls
first_line n (set_line x y ∷ ls) = n
first_line n (run_line x ∷ ls) = n
first_line n (rate_line x ∷ ls) = n
first_line n (if_line x ∷ ls) = n
first_line n (else_line ∷ ls) = n
first_line n (while_line x ∷ ls) = n
first_line n (end_line ∷ ls) = n

-- the declared values: those of the var lines that stand first
abbrev pub declared : List Line → List Frac
declared [] = []
declared (var_line x ∷ ls) = x ∷ declared ls
declared (set_line x y ∷ ls) = []
declared (run_line x ∷ ls) = []
declared (rate_line x ∷ ls) = []
declared (if_line x ∷ ls) = []
declared (else_line ∷ ls) = []
declared (while_line x ∷ ls) = []
declared (end_line ∷ ls) = []
