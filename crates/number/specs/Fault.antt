-- What is printed of a refusal of a kind.
use Rattle.std.specs.Prelude.{ℕ, List, codes}
use Rattle.number.specs.declared.Fault.{Fault}
use Rattle.number.specs.declared.Fault.TheVariants.{NotHeld, ZeroDivisor}

-- the words of a refusal
abbrev pub fault_text : Fault → List ℕ
fault_text NotHeld = codes "not held"
fault_text ZeroDivisor = codes "zero divisor"
