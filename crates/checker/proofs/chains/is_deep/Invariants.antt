use Rattle.std.proofs.Common.{map}
use Rattle.motion.specs.Chains.{starts}
use Rattle.checker.specs.Chains.{Marks, rate_of}
use Rattle.checker.proofs.chains.is_deep.Given as goal

abbrev pub invariant-loop : goal.invariant-loop
invariant-loop l = Marks l.level.marks (starts (map (rate_of l.table) l.rates) l.counter)
