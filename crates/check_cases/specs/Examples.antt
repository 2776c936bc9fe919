-- Scripts that are accepted and refused, by the rules of the format. Assumes nothing.
use Rattle.std.specs.Prelude.{ℕ, List, [], length, codes}
use Rattle.script.specs.Reading.{entries}
use Rattle.kinds.specs.Fractions.{frac_of, pair_of}
use Rattle.kinds.specs.Thousandths.{thousand_of, count_of}
use Rattle.checker.specs.declared.refusals.Reason.TheVariants.{OtherTable, VarOutOfPlace, NameNotDeclared, NumberNotHeld, RateOutOfPlace, Blocks, Items, Chains}
use Rattle.checker.specs.Refusals.{Refusal}
use Rattle.refusal.specs.Refusals.{refused}
use Rattle.checker.specs.Verdict.{Accepted, Refused}

-- a text with its own entries is accepted in fractions
abbrev pub Accepts : List ℕ → Type 0
Accepts text = Accepted frac_of pair_of text (length (entries text)) (entries text)

-- it is refused so in fractions
abbrev pub Refuses : List ℕ → Refusal → Type 0
Refuses text e = Refused frac_of pair_of text (length (entries text)) (entries text) e

-- scripts with a stretch and with blocks that are accepted, and one for each condition
pub record Examples : Type 0 where
  pub stretch : Accepts (codes "var,p,0\nvar,v,0\nrun,10\nrate,p,1,v\nrate,v,2,one\n")
  pub blocks : Accepts (codes "if,0,1,lt\nelse\nwhile,1,0,lt\nend\nend\n")
  pub table : Refused frac_of pair_of (codes "end\n") 1 [] (refused OtherTable 0 0)
  pub var_behind : Refuses (codes "run,1\nvar,x,1\n") (refused VarOutOfPlace 2 2)
  pub var_twice : Refuses (codes "var,x,1\nvar,x,1\n") (refused VarOutOfPlace 2 2)
  pub undeclared : Refuses (codes "var,x,1\nset,x,x,y,add\nvar,y,1\n") (refused NameNotDeclared 2 4)
  pub not_held : Refused thousand_of count_of (codes "var,x,1/3\n") 3 (entries (codes "var,x,1/3\n")) (refused NumberNotHeld 1 3)
  pub rate_alone : Refuses (codes "var,x,1\nrate,x,1,one\n") (refused RateOutOfPlace 2 2)
  pub rate_twice : Refuses (codes "var,x,1\nrun,1\nrate,x,1,one\nrate,x,2,one\n") (refused RateOutOfPlace 4 2)
  pub else_in_while : Refuses (codes "while,1,2,lt\nelse\nend\n") (refused Blocks 2 0)
  pub left_open : Refuses (codes "if,1,2,lt\nwhile,1,2,lt\n") (refused Blocks 2 0)
  pub items : Refuses (codes "run,1,2\n") (refused Items 1 0)
  pub circle : Refuses (codes "var,x,1\nvar,y,1\nrun,1\nrate,x,1,y\nrate,y,1,x\n") (refused Chains 3 0)
