use Rattle.std.proofs.Common.{◌≡◌, ℕ, List, [], length, Ok, Err, codes, refl}
use Rattle.number.specs.Gcd.{gcd, steps}
use Rattle.number.specs.Lowest.{lowest}
use Rattle.number.specs.Frac.{naught, norm}
use Rattle.script.specs.Reading.{entries}
use Rattle.kinds.specs.Fractions.{made, frac_of, pair_of}
use Rattle.kinds.specs.Thousandths.{thousand_of, counted, count_of}
use Rattle.checker.specs.Refusals.{Refusal}
use Rattle.checker.specs.declared.refusals.Reason.TheVariants.{OtherTable, VarOutOfPlace, NameNotDeclared, NumberNotHeld, RateOutOfPlace, Blocks, Items, Chains}
use Rattle.refusal.specs.Refusals.{refused}
use Rattle.checker.specs.Verdict.{Refused}
use Rattle.checker.specs.Checking.{check_of}
use Rattle.checker.proofs.Verdict.{judged}
use Rattle.check_cases.specs.Examples.{Accepts, Refuses}
use Rattle.check_cases.proofs.examples.Goals as goal

-- by what the check answers
accepts : (text : List ℕ) → check_of frac_of pair_of text (length (entries text)) (entries text) ≡ Ok tt → Accepts text
accepts text e = (judged frac_of pair_of text (length (entries text)) (entries text) _ refl).accepts.0 e

refuses : (text : List ℕ) (e : Refusal) → check_of frac_of pair_of text (length (entries text)) (entries text) ≡ Err e → Refuses text e
refuses text x e = ((judged frac_of pair_of text (length (entries text)) (entries text) _ refl).refuses x).0 e

stretch : Accepts (codes "var,p,0\nvar,v,0\nrun,10\nrate,p,1,v\nrate,v,2,one\n")
unfolding gcd steps lowest norm naught made frac_of pair_of
stretch = accepts (codes "var,p,0\nvar,v,0\nrun,10\nrate,p,1,v\nrate,v,2,one\n") refl

blocks : Accepts (codes "if,0,1,lt\nelse\nwhile,1,0,lt\nend\nend\n")
unfolding gcd steps lowest norm naught made frac_of pair_of
blocks = accepts (codes "if,0,1,lt\nelse\nwhile,1,0,lt\nend\nend\n") refl

var_behind : Refuses (codes "run,1\nvar,x,1\n") (refused VarOutOfPlace 2 2)
unfolding gcd steps lowest norm naught made frac_of pair_of
var_behind = refuses (codes "run,1\nvar,x,1\n") (refused VarOutOfPlace 2 2) refl

var_twice : Refuses (codes "var,x,1\nvar,x,1\n") (refused VarOutOfPlace 2 2)
unfolding gcd steps lowest norm naught made frac_of pair_of
var_twice = refuses (codes "var,x,1\nvar,x,1\n") (refused VarOutOfPlace 2 2) refl

undeclared : Refuses (codes "var,x,1\nset,x,x,y,add\nvar,y,1\n") (refused NameNotDeclared 2 4)
unfolding gcd steps lowest norm naught made frac_of pair_of
undeclared = refuses (codes "var,x,1\nset,x,x,y,add\nvar,y,1\n") (refused NameNotDeclared 2 4) refl

rate_alone : Refuses (codes "var,x,1\nrate,x,1,one\n") (refused RateOutOfPlace 2 2)
unfolding gcd steps lowest norm naught made frac_of pair_of
rate_alone = refuses (codes "var,x,1\nrate,x,1,one\n") (refused RateOutOfPlace 2 2) refl

rate_twice : Refuses (codes "var,x,1\nrun,1\nrate,x,1,one\nrate,x,2,one\n") (refused RateOutOfPlace 4 2)
unfolding gcd steps lowest norm naught made frac_of pair_of
rate_twice = refuses (codes "var,x,1\nrun,1\nrate,x,1,one\nrate,x,2,one\n") (refused RateOutOfPlace 4 2) refl

else_in_while : Refuses (codes "while,1,2,lt\nelse\nend\n") (refused Blocks 2 0)
unfolding gcd steps lowest norm naught made frac_of pair_of
else_in_while = refuses (codes "while,1,2,lt\nelse\nend\n") (refused Blocks 2 0) refl

left_open : Refuses (codes "if,1,2,lt\nwhile,1,2,lt\n") (refused Blocks 2 0)
unfolding gcd steps lowest norm naught made frac_of pair_of
left_open = refuses (codes "if,1,2,lt\nwhile,1,2,lt\n") (refused Blocks 2 0) refl

items : Refuses (codes "run,1,2\n") (refused Items 1 0)
unfolding gcd steps lowest norm naught made frac_of pair_of
items = refuses (codes "run,1,2\n") (refused Items 1 0) refl

circle : Refuses (codes "var,x,1\nvar,y,1\nrun,1\nrate,x,1,y\nrate,y,1,x\n") (refused Chains 3 0)
unfolding gcd steps lowest norm naught made frac_of pair_of
circle = refuses (codes "var,x,1\nvar,y,1\nrun,1\nrate,x,1,y\nrate,y,1,x\n") (refused Chains 3 0) refl

table : Refused frac_of pair_of (codes "end\n") 1 [] (refused OtherTable 0 0)
table = ((judged frac_of pair_of (codes "end\n") 1 [] _ refl).refuses (refused OtherTable 0 0)).0 refl

not_held : Refused thousand_of count_of (codes "var,x,1/3\n") 3 (entries (codes "var,x,1/3\n")) (refused NumberNotHeld 1 3)
unfolding gcd steps lowest norm naught thousand_of counted
not_held = ((judged thousand_of count_of (codes "var,x,1/3\n") 3 (entries (codes "var,x,1/3\n")) _ refl).refuses (refused NumberNotHeld 1 3)).0 refl

pub returns : goal.returns
returns c = record { stretch = stretch; blocks = blocks; table = table; var_behind = var_behind; var_twice = var_twice; undeclared = undeclared; not_held = not_held; rate_alone = rate_alone; rate_twice = rate_twice; else_in_while = else_in_while; left_open = left_open; items = items; circle = circle }
