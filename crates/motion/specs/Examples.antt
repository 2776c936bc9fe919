-- What the theorems ask, shown at scripts: every premise is met by one of these.
use Rattle.std.specs.Prelude.{◌≡◌, ℕ, ◌+◌, true, List, [], ◌∷◌, drop, pos, negsuc, Some}
use Rattle.number.specs.declared.Pair.{Pair}
use Rattle.number.specs.Frac.{Frac, norm, whole}
use Rattle.number.specs.Kind.{Holds}
use Rattle.kinds.specs.Fractions.{frac_of, pair_of}
use Rattle.kinds.specs.Thousandths.{thousand_of, count_of}
use Rattle.motion.specs.Numbers.{exact}
use Rattle.motion.specs.Lines.{Line, set_line, run_line, if_line, else_line, while_line, end_line, name, calculate, add, sub, div, lt, le, one, var}
use Rattle.motion.specs.Flow.{flow}
use Rattle.motion.specs.Derivatives.{D}
use Rattle.motion.specs.Stretches.{five, zeros, w as v}
use Rattle.motion.specs.Machine.{Bench, accepted, refused, new, advance}
use Rattle.motion.specs.NextLine.{declared, rates}
use Rattle.motion.specs.Rules.{Env, run, Standing, Curve, ProgramOf}
use Rattle.motion.specs.Agreement.{FailsWithin}
use Rattle.motion.specs.Program.{Prog}
use Rattle.motion.specs.Carriers.{Each, Carries, Paired}
use Rattle.motion.specs.Chains.{Shallows}
use Rattle.motion.specs.Pairs.{numbers_of, Meant}
use Rattle.motion.specs.Calls.{Call, advances, reads, asks_joint, writes, hands_over, after_calls, ticks_accepted, some_accepted, StandsAt}
use Rattle.motion.specs.Fitting.{fits}
use Rattle.motion.specs.Marked.{A, B, C, D as Divides, n, w, thousands, part, rate, var0, bench, in_fractions}

-- nested blocks, an else, and two empty bodies:
-- var,x,3  var,y,0  while,0,x,lt  if,y,x,lt  set,y,y,1,add  while,x,y,lt  end  else  run,2  rate,y,-1,one  set,x,x,1,sub  end  if,x,y,le  end  end
abbrev pub Nested : List Line
Nested = var0 3 ∷ var0 0
    ∷ while_line (n 0 ∷ name 0 ∷ calculate lt ∷ [])
    ∷ if_line (name 1 ∷ name 0 ∷ calculate lt ∷ []) ∷ set_line 1 (name 1 ∷ n 1 ∷ calculate add ∷ []) ∷ while_line (name 0 ∷ name 1 ∷ calculate lt ∷ []) ∷ end_line
    ∷ else_line ∷ run_line (n 2 ∷ []) ∷ rate 1 (part (negsuc 0) one) ∷ set_line 0 (name 0 ∷ n 1 ∷ calculate sub ∷ []) ∷ end_line
    ∷ if_line (name 0 ∷ name 1 ∷ calculate le ∷ []) ∷ end_line
    ∷ end_line ∷ []

-- a chain of four names: var,a,0  var,b,0  var,c,0  var,d,0  run,4  rate,a,1,b  rate,b,1,c  rate,c,1,d  rate,d,1,one
abbrev pub Four : List Line
Four = var0 0 ∷ var0 0 ∷ var0 0 ∷ var0 0 ∷ run_line (n 4 ∷ [])
    ∷ rate 0 (part (pos 1) (var 1)) ∷ rate 1 (part (pos 1) (var 2)) ∷ rate 2 (part (pos 1) (var 3)) ∷ rate 3 (part (pos 1) one) ∷ []

-- a duration that is not whole: var,x,1  run,1,2,div
abbrev pub Half : List Line
Half = var0 1 ∷ run_line (n 1 ∷ n 2 ∷ calculate div ∷ []) ∷ []

-- a script as the theorems ask: it spells a program with shallow stretches, and fractions hold its first values as vs
pub record Sample (script : List Line) (vs : List Pair) : Type 0 where
  pub program : Prog
  pub spelled : ProgramOf script program
  pub shallow : Shallows program
  pub held : Each (Meant frac_of) (declared script) vs

-- a new bench in unlimited fractions
abbrev pub begin : List Line → Bench Frac
begin ls = new ls (declared ls)

-- calls of every sort: 5 ticks and 18 are the 23 of the third marked run
abbrev pub calls : List Call
calls = advances 5 10 ∷ reads 0 ∷ asks_joint ∷ writes 411 ∷ hands_over 411 ∷ advances 18 10 ∷ []

-- whole numbers as values
abbrev pub wholes : ℕ → ℕ → Env
wholes a b = whole (pos a) ∷ whole (pos b) ∷ []

-- the first marked script 5 ticks on, in fractions
abbrev pub half_way : Bench Pair
half_way = bench 3 5 5 0 (w 25 ∷ w 10 ∷ [])

-- What holds of these scripts.
pub record Examples : Type 0 where
  -- the four marked scripts, nested blocks with empty bodies, and a chain of four names
  pub samples : Sample A (w 0 ∷ w 0 ∷ []) × Sample B (w 1 ∷ []) × Sample C (w 2147000000 ∷ w 2000 ∷ []) × Sample Divides (w 1 ∷ [])
      × Sample Nested (w 3 ∷ w 0 ∷ []) × Sample Four (w 0 ∷ w 0 ∷ w 0 ∷ w 0 ∷ [])
  -- fractions are a kind, and their pairs carry what unlimited fractions do
  pub kind : Holds frac_of pair_of
  pub carried : Carries exact (numbers_of frac_of pair_of) (Meant frac_of)
  -- so does every fraction beside itself
  pub paired : Carries exact exact (Paired {C = Frac} (λ x. x) (λ x. x))
  -- what two of them come to
  pub nested : in_fractions Nested (w 3 ∷ w 0 ∷ []) 3 28 ≡ accepted 28 0 (bench 9 1 3 0 (w 2 ∷ w 1 ∷ []))
  pub chained : advance exact Four (begin Four) 2 1 ≡ accepted 1 0 (bench 5 2 2 0 (norm (pos 2) 3 ∷ norm (pos 4) 3 ∷ whole (pos 2) ∷ whole (pos 2) ∷ []))
  -- the curve of the first script in its first stretch, at its end and past it
  pub inside : Curve A 5 (record { values = wholes 25 10; line = 3; left = 5; over = 0 })
  pub joint : Curve A 10 (record { values = wholes 100 20; line = 6; left = 10; over = 0 })
  pub past : Curve A 23 (record { values = wholes 200 0; line = 9; left = 0; over = 3 })
  -- the rules fail within two steps, and from then on the curve has nothing
  pub fails : (p : Prog) → ProgramOf Divides p → FailsWithin 2 (run p (declared Divides) 1)
  pub nothing : (T : ℕ) (s : Standing) → Curve Divides (1 + T) s → ⊥
  -- each of the refusals that last
  pub refused_20 : advance exact B (begin B) 0 1 ≡ refused 20 3 0
  pub refused_21 : advance exact Divides (begin Divides) 1 10 ≡ refused 21 4 5
  pub refused_22 : advance exact Half (begin Half) 0 10 ≡ refused 22 2 0
  -- a cut inside of a stretch, three steps against two, and one past the end
  pub cut : (advance exact A (begin A) 5 10 ≡ accepted 1 0 (bench 3 5 5 0 (wholes 25 10)))
      × (advance exact A (bench 3 5 5 0 (wholes 25 10)) 18 10 ≡ accepted 2 3 (bench 9 0 23 3 (wholes 200 0)))
      × (advance exact A (begin A) 23 10 ≡ accepted 2 3 (bench 9 0 23 3 (wholes 200 0)))
      × (advance exact A (bench 9 0 23 3 (wholes 200 0)) 4 0 ≡ accepted 0 7 (bench 9 0 27 7 (wholes 200 0)))
  -- benches that stand on the curve: in a stretch, in two kinds, and before a zero divisor
  pub stood : StandsAt (Meant frac_of) (numbers_of frac_of pair_of) A 5 half_way
      × StandsAt (Meant thousand_of) (numbers_of thousand_of count_of) A 5 (bench 3 5 5 0 (thousands 25 ∷ thousands 10 ∷ []))
      × StandsAt (Meant frac_of) (numbers_of frac_of pair_of) Divides 0 (bench 2 1 0 0 (w 1 ∷ []))
  -- an advance from there that is accepted, one refused by 20, and one by 21
  pub advanced : (advance (numbers_of frac_of pair_of) A half_way 18 10 ≡ accepted 2 3 (bench 9 0 23 3 (w 200 ∷ w 0 ∷ [])))
      × (advance (numbers_of frac_of pair_of) A half_way 18 1 ≡ refused 20 6 0)
      × (advance (numbers_of frac_of pair_of) Divides (bench 2 1 0 0 (w 1 ∷ [])) 1 10 ≡ refused 21 4 5)
  -- calls of every sort, and that the bench then fits its script
  pub called : after_calls (numbers_of frac_of pair_of) A (new A (w 0 ∷ w 0 ∷ [])) calls ≡ bench 9 0 23 3 (w 200 ∷ w 0 ∷ [])
  pub summed : (ticks_accepted (numbers_of frac_of pair_of) A (new A (w 0 ∷ w 0 ∷ [])) calls ≡ 23) × (some_accepted (numbers_of frac_of pair_of) A (new A (w 0 ∷ w 0 ∷ [])) calls ≡ true)
  pub fitting : fits (numbers_of frac_of pair_of) A (bench 3 5 5 0 (w 25 ∷ w 10 ∷ [])) ≡ true
  -- a chain of four names has a D4 that is not 0, and four are the most: with five names two pieces are not the whole
  pub fourth : D (rates (drop 5 Four)) (declared Four) 4 (var 0) ≡ whole (pos 1)
  pub broken : (flow exact five (zeros 5) 1 ≡ Some (v 0 ∷ v 1 ∷ v 4 ∷ v 12 ∷ v 24 ∷ []))
      × (flow exact five (v 0 ∷ v 1 ∷ v 4 ∷ v 12 ∷ v 24 ∷ []) 1 ≡ Some (v 6 ∷ v 16 ∷ v 32 ∷ v 48 ∷ v 48 ∷ []))
      × (flow exact five (zeros 5) 2 ≡ Some (v 0 ∷ v 16 ∷ v 32 ∷ v 48 ∷ v 48 ∷ []))
