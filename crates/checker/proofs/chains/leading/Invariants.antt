use Rattle.std.proofs.Common.{ℕ, List, map, drop}
use Rattle.motion.specs.Chains.{leading}
use Rattle.checker.specs.Chains.{Marks, rate_of}
use Rattle.checker.proofs.Marked.{Marking}
use Rattle.checker.proofs.chains.leading.Given as goal

abbrev pub invariant-loop-r : goal.invariant-loop-r
invariant-loop-r l = (xs : List ℕ) → Marks l.level.marks xs → Marking l.next.marks (leading xs (map (rate_of l.table) (drop l.r-index l.rates))) (leading xs (map (rate_of l.table) l.rates))
