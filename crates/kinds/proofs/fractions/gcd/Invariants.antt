-- Euclid's loop keeps the greatest common divisor, and b falls.
use Rattle.std.proofs.Common.{◌≡◌}
use Rattle.number.specs.Gcd.{gcd}
use Rattle.kinds.proofs.fractions.gcd.Given as goal

abbrev pub invariant-loop-b : goal.invariant-loop-b
invariant-loop-b l = gcd l.a l.b ≡ gcd l.initial.a l.initial.b

abbrev pub decreases-loop-b : goal.decreases-loop-b
decreases-loop-b l = l.b
