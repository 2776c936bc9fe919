-- The slots of a stack as what waits, the last first; what an operator does with it. Total on any stack.
use Rattle.std.specs.Prelude.{ℕ, zero, suc, List, [], ◌∷◌, pos, Ok, Err, Result, slice_index_or}
use Rattle.number.specs.declared.Pair.{Pair}
use Rattle.number.specs.declared.Answer.{Answer}
use Rattle.number.specs.declared.Answer.TheVariants.{Number, Truth}
use Rattle.number.specs.declared.Operation.{Operation}
use Rattle.number.specs.declared.Operation.TheVariants as o
use Rattle.motion.specs.Lines as L
use Rattle.motion.specs.Items.{Value, num, truth, Got, good, bad}
use Rattle.postfix.specs.declared.flaw.Flaw.{Flaw}
use Rattle.postfix.specs.declared.stack.Stack.{Stack}
use Rattle.postfix.specs.declared.working.Connective.{Connective}
use Rattle.postfix.specs.declared.working.Connective.TheVariants as d
use Rattle.postfix.specs.Flaws.{fault_of}

-- what waits, the last first
abbrev pub Waiting : Type 0
Waiting = List (Value Pair)

abbrev pub value_of : Answer → Value Pair
value_of (Number p) = num p
value_of (Truth b) = truth b

abbrev pub zero_slot : Answer
zero_slot = Number (record { a = pos 0; b = pos 0 })

-- the first n slots, from the last on
abbrev pub stacked : ℕ → List Answer → Waiting
stacked zero xs = []
stacked (suc n) xs = value_of (slice_index_or xs n zero_slot) ∷ stacked n xs

abbrev pub waiting : Stack → Waiting
waiting s = stacked s.depth s.slots

-- an answer as a value, or the fault that its flaw is
abbrev pub got_value : Result Answer Flaw → Got (Value Pair)
got_value (Ok v) = good (value_of v)
got_value (Err e) = fault_of e

-- an answer with what then waits
abbrev pub got_with : {A : Type 0} → Result A Flaw → Stack → Got (A × Waiting)
got_with (Ok a) s = good (a, waiting s)
got_with (Err e) s = fault_of e

-- what waits after an answer
abbrev pub got_after : {A : Type 0} → Result A Flaw → Stack → Got Waiting
got_after (Ok a) s = good (waiting s)
got_after (Err e) s = fault_of e

-- an answered stack by what waits on it
abbrev pub got_stack : Result Stack Flaw → Got Waiting
got_stack (Ok s) = good (waiting s)
got_stack (Err e) = fault_of e

-- one number off what waits
abbrev pub one_number : Waiting → Got (Pair × Waiting)
one_number [] = bad 14 0
one_number (truth b ∷ r) = bad 14 0
one_number (num p ∷ r) = good (p, r)

abbrev pub calculation_of : Operation → L.Calculation
calculation_of o.Add = L.add
calculation_of o.Sub = L.sub
calculation_of o.Mul = L.mul
calculation_of o.Div = L.div
calculation_of o.Lt = L.lt
calculation_of o.Le = L.le

abbrev pub connective_of : Connective → L.Connective
connective_of d.And = L.and
connective_of d.Or = L.or
