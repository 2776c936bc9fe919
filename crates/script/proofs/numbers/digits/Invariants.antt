use Rattle.std.proofs.Common.{◌≡◌, ◌≤◌, drop}
use Rattle.script.specs.Numbers.{most, digits_from}
use Rattle.script.proofs.numbers.digits.Given as goal

abbrev pub invariant-loop-b : goal.invariant-loop-b
invariant-loop-b l = (l.value ≤ most) × (digits_from 0 l.bytes ≡ digits_from l.value (drop l.b-index l.bytes))
