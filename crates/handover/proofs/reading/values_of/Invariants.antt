use Rattle.std.proofs.Common.{◌≡◌, map, length, take}
use Rattle.handover.specs.Scans.{pair_of_number}
use Rattle.handover.proofs.reading.values_of.Given as goal

abbrev pub invariant-loop-i : goal.invariant-loop-i
invariant-loop-i l = (take l.i l.pairs ≡ map pair_of_number (take l.i l.fields)) × (length l.pairs ≡ 16)
