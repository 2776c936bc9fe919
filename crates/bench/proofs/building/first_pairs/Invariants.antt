use Rattle.std.proofs.Common.{◌≡◌, ◌≤◌, map, length, take}
use Rattle.bench.specs.Built.{value_in}
use Rattle.bench.proofs.building.first_pairs.Given as goal

abbrev pub invariant-loop-i : goal.invariant-loop-i
invariant-loop-i g l = (16 ≤ length l.pairs) × (take l.i l.pairs ≡ map (value_in g.K.Kind.code l.table) (take l.i l.rows))
