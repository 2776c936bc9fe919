-- The reasons for refusing a draft by their numbers. Assumes nothing.
use Rattle.std.specs.Prelude.{ℕ}
use Rattle.checker.specs.declared.refusals.Reason.{Reason}
use Rattle.checker.specs.declared.refusals.Reason.TheVariants.{OtherTable, VarOutOfPlace, NameNotDeclared, NumberNotHeld, RateOutOfPlace, Blocks, Items, Chains}
use Rattle.refusal.specs.declared.Refusal as r

-- the number by which a reason is known
abbrev pub number_of : Reason → ℕ
number_of OtherTable = 8
number_of VarOutOfPlace = 9
number_of NameNotDeclared = 10
number_of NumberNotHeld = 11
number_of RateOutOfPlace = 12
number_of Blocks = 13
number_of Items = 14
number_of Chains = 15

-- a refusal by one of these reasons
abbrev pub Refusal : Type 0
Refusal = r.Refusal Reason ℕ
