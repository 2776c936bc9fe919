use Rattle.std.proofs.Common.{map, drop}
use Rattle.checker.specs.Chains.{row_name}
use Rattle.checker.proofs.Marked.{Marking}
use Rattle.checker.proofs.chains.named.Given as goal

abbrev pub invariant-loop-r : goal.invariant-loop-r
invariant-loop-r l = Marking l.level.marks (map row_name (drop l.r-index l.rates)) (map row_name l.rates)
