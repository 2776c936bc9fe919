-- The eight marked runs: what the machine answers for four scripts, in fractions and in thousandths.
use Rattle.std.specs.Prelude.{◌≡◌, ℕ, ◌*◌, List, [], ◌∷◌, ℤ, pos, negsuc}
use Rattle.number.specs.declared.Pair.{Pair}
use Rattle.number.specs.Frac.{whole}
use Rattle.kinds.specs.Fractions.{frac_of, pair_of}
use Rattle.kinds.specs.Thousandths.{thousand_of, count_of}
use Rattle.motion.specs.Lines.{Line, var_line, set_line, run_line, rate_line, while_line, end_line, Item, number, name, calculate, lt, div, Part, Of, one, var}
use Rattle.motion.specs.Machine.{Bench, Answer, accepted, refused, new, advance}
use Rattle.motion.specs.Pairs.{numbers_of}

-- a whole number as an item
abbrev pub n : ℕ → Item
n k = number (whole (pos k))

-- a part with a whole coefficient
abbrev pub part : ℤ → Of → Part
part c o = record { coefficient = whole c; of = o }

-- a rate line of one part
abbrev pub rate : ℕ → Part → Line
rate x p = rate_line (record { name = x; parts = p ∷ [] })

-- a var line with a whole value
abbrev pub var0 : ℕ → Line
var0 k = var_line (whole (pos k))

-- var,p,0  var,v,0  run,10  rate,p,1,v  rate,v,2,one  run,10  rate,p,1,v  rate,v,-2,one
abbrev pub A : List Line
A = var0 0 ∷ var0 0 ∷ run_line (n 10 ∷ []) ∷ rate 0 (part (pos 1) (var 1)) ∷ rate 1 (part (pos 2) one)
    ∷ run_line (n 10 ∷ []) ∷ rate 0 (part (pos 1) (var 1)) ∷ rate 1 (part (negsuc 1) one) ∷ []

-- var,x,1  while,0,1,lt  set,x,x,2,div  end
abbrev pub B : List Line
B = var0 1 ∷ while_line (n 0 ∷ n 1 ∷ calculate lt ∷ []) ∷ set_line 0 (name 0 ∷ n 2 ∷ calculate div ∷ []) ∷ end_line ∷ []

-- var,p,2147000000  var,v,2000  run,2000  rate,p,1,v  rate,v,-2,one
abbrev pub C : List Line
C = var0 2147000000 ∷ var0 2000 ∷ run_line (n 2000 ∷ []) ∷ rate 0 (part (pos 1) (var 1)) ∷ rate 1 (part (negsuc 1) one) ∷ []

-- var,x,1  run,1  rate,x,-1,one  set,x,1,x,div
abbrev pub D : List Line
D = var0 1 ∷ run_line (n 1 ∷ []) ∷ rate 0 (part (negsuc 0) one) ∷ set_line 0 (n 1 ∷ name 0 ∷ calculate div ∷ []) ∷ []

-- a whole number as a pair of fractions: itself over 1
abbrev pub w : ℕ → Pair
w k = record { a = pos k; b = pos 1 }

-- a whole number as a pair of thousandths: a thousand times itself, and 1
abbrev pub thousands : ℕ → Pair
thousands k = w (1000 * k)

-- the answer to an advance of a new bench with the values vs, in fractions
abbrev pub in_fractions : List Line → List Pair → (ticks allowance : ℕ) → Answer Pair
in_fractions ls vs t a = advance (numbers_of frac_of pair_of) ls (new ls vs) t a

-- the same in thousandths
abbrev pub in_thousandths : List Line → List Pair → (ticks allowance : ℕ) → Answer Pair
in_thousandths ls vs t a = advance (numbers_of thousand_of count_of) ls (new ls vs) t a

-- a bench by its line, ticks left, total, ticks over and values
abbrev pub bench : {V : Type 0} → (line left total over : ℕ) → List V → Bench V
bench l d t o v = record { line = l; left = d; total = t; over = o; values = v }

-- the eight runs: steps and ticks over with the bench after it, or a refusal with its line and field
pub record MarkedRuns : Type 0 where
  pub one : in_fractions A (w 0 ∷ w 0 ∷ []) 5 10 ≡ accepted 1 0 (bench 3 5 5 0 (w 25 ∷ w 10 ∷ []))
  pub two : in_fractions A (w 0 ∷ w 0 ∷ []) 10 10 ≡ accepted 2 0 (bench 6 10 10 0 (w 100 ∷ w 20 ∷ []))
  pub three : in_fractions A (w 0 ∷ w 0 ∷ []) 23 10 ≡ accepted 2 3 (bench 9 0 23 3 (w 200 ∷ w 0 ∷ []))
  pub four : (in_fractions B (w 1 ∷ []) 0 61 ≡ refused 20 3 0) × (in_fractions B (w 1 ∷ []) 0 62 ≡ refused 23 3 5)
  pub five : (in_thousandths B (thousands 1 ∷ []) 0 7 ≡ refused 20 3 0) × (in_thousandths B (thousands 1 ∷ []) 0 8 ≡ refused 23 3 5)
  pub six : in_fractions C (w 2147000000 ∷ w 2000 ∷ []) 281 10 ≡ accepted 1 0 (bench 3 1719 281 0 (w 2147483039 ∷ w 1438 ∷ []))
  pub seven : in_fractions C (w 2147000000 ∷ w 2000 ∷ []) 282 10 ≡ refused 24 3 0
  pub eight : (in_fractions D (w 1 ∷ []) 0 10 ≡ accepted 1 0 (bench 2 1 0 0 (w 1 ∷ []))) × (in_fractions D (w 1 ∷ []) 1 10 ≡ refused 21 4 5)
