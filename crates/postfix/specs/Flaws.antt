-- A flaw of items as the fault that the rules speak of, and as a refusal. Assumes nothing.
use Rattle.std.specs.Prelude.{ℕ, Ok, Err, Result}
use Rattle.number.specs.declared.Fault.{Fault}
use Rattle.number.specs.declared.Fault.TheVariants as fault
use Rattle.motion.specs.Items.{Got, good, bad}
use Rattle.record.specs.declared.Reason.TheVariants as reason
use Rattle.record.specs.Refusals.{Refusal}
use Rattle.refusal.specs.Refusals.{refused}
use Rattle.postfix.specs.declared.flaw.Flaw.{Flaw}
use Rattle.postfix.specs.declared.flaw.Flaw.TheVariants.{Broken, NotHeld, ZeroDivisor}

-- a kind's fault at this field
abbrev pub flawed : Fault → ℕ → Flaw
flawed fault.NotHeld field = NotHeld field
flawed fault.ZeroDivisor field = ZeroDivisor field

-- the fault by its number and field
abbrev pub fault_of : {A : Type 0} → Flaw → Got A
fault_of Broken = bad 14 0
fault_of (NotHeld field) = bad 23 field
fault_of (ZeroDivisor field) = bad 21 field

-- an answer, or the fault that its flaw is
abbrev pub got : {A : Type 0} → Result A Flaw → Got A
got (Ok a) = good a
got (Err e) = fault_of e

-- the refusal on this line
abbrev pub refusal_on : ℕ → Flaw → Refusal
refusal_on line Broken = refused reason.ItemsBroken line 0
refusal_on line (NotHeld field) = refused reason.NotHeld line field
refusal_on line (ZeroDivisor field) = refused reason.ZeroDivisor line field
