-- The reasons for refusing a call on a bench by their numbers. Assumes nothing.
use Rattle.std.specs.Prelude.{cond, ℕ, eqb}
use Rattle.record.specs.declared.Reason.{Reason}
use Rattle.record.specs.declared.Reason.TheVariants.{LineForm, ValueNotHeld, NotFitting, TooManyTicks, StepsUsedUp, ZeroDivisor, NoDuration, NotHeld, NotHeldWhereCut, NameNotDeclared, BufferTooShort, ItemsBroken, NoStatement}
use Rattle.refusal.specs.declared.Refusal as r

-- the number by which a reason is known
abbrev pub number_of : Reason → ℕ
number_of LineForm = 16
number_of ValueNotHeld = 17
number_of NotFitting = 18
number_of TooManyTicks = 19
number_of StepsUsedUp = 20
number_of ZeroDivisor = 21
number_of NoDuration = 22
number_of NotHeld = 23
number_of NotHeldWhereCut = 24
number_of NameNotDeclared = 25
number_of BufferTooShort = 26
number_of ItemsBroken = 14
number_of NoStatement = 0

-- the reason that has a number; a number of no step stands for none
abbrev pub reason_of : ℕ → Reason
reason_of n =
    cond (eqb n 20) StepsUsedUp (cond (eqb n 21) ZeroDivisor (cond (eqb n 22) NoDuration (cond (eqb n 23) NotHeld (cond (eqb n 24) NotHeldWhereCut (
    cond (eqb n 18) NotFitting (cond (eqb n 19) TooManyTicks (cond (eqb n 14) ItemsBroken NoStatement)))))))

-- a refusal by one of these reasons
abbrev pub Refusal : Type 0
Refusal = r.Refusal Reason ℕ
