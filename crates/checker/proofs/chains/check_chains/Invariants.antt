use Rattle.std.proofs.Common.{◌≡◌, ◌+◌, drop}
use Rattle.entries.specs.Decoding.{lines_over}
use Rattle.checker.specs.Chains.{chains_check}
use Rattle.checker.proofs.chains.check_chains.Given as goal

abbrev pub invariant-loop-i : goal.invariant-loop-i
invariant-loop-i l = chains_check 1 (lines_over l.table l.rows) ≡ chains_check (l.i + 1) (lines_over l.table (drop l.i l.rows))
