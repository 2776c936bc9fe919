-- The scripts of the marked runs as texts. Assumes nothing.
use Rattle.std.specs.Prelude.{ℕ, List, codes}

-- there and back: two stretches of 10 ticks
abbrev pub text_a : List ℕ
text_a = codes "var,p,0\nvar,v,0\nrun,10\nrate,p,1,v\nrate,v,2,one\nrun,10\nrate,p,1,v\nrate,v,-2,one\n"

-- a loop without end that halves a value
abbrev pub text_b : List ℕ
text_b = codes "var,x,1\nwhile,0,1,lt\nset,x,x,2,div\nend\n"

-- a long stretch that slows down near the largest number
abbrev pub text_c : List ℕ
text_c = codes "var,p,2147000000\nvar,v,2000\nrun,2000\nrate,p,1,v\nrate,v,-2,one\n"

-- a value that falls to zero, and then divides
abbrev pub text_d : List ℕ
text_d = codes "var,x,1\nrun,1\nrate,x,-1,one\nset,x,1,x,div\n"
