-- Lines of benches.
use Rattle.std.specs.Prelude.{◌≡◌, ℕ, List, [], ◌∷◌, ◌++◌, pos, negsuc, codes}
use Rattle.number.specs.Frac.{Frac, norm}
use Rattle.motion.specs.Machine as M
use Rattle.handover.specs.Lines.{text_of}

-- a text as a line
abbrev pub as_line : List ℕ → List ℕ
as_line text = text ++ 10 ∷ []

-- a bench by its parts
abbrev pub bench : (line left total over : ℕ) → List Frac → M.Bench Frac
bench line left total over values = record { line = line; left = left; total = total; over = over; values = values }

pub record Examples : Type 0 where
  pub inside : text_of (bench 3 5 5 0 (norm (pos 25) 1 ∷ norm (pos 10) 1 ∷ [])) ≡ as_line (codes "bench,3,5,5,0,25,10")
  pub ended : text_of (bench 9 0 23 3 (norm (negsuc 2) 2 ∷ norm (pos 0) 1 ∷ [])) ≡ as_line (codes "bench,9,0,23,3,-3/2,0")
  pub no_values : text_of (bench 257 0 2147483647 0 []) ≡ as_line (codes "bench,257,0,2147483647,0")
