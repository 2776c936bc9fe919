-- The record of a bench as the bench that the rules of a run speak of.
use Rattle.std.specs.Prelude.{List, take}
use Rattle.number.specs.declared.Pair.{Pair}
use Rattle.motion.specs.Machine as M
use Rattle.record.specs.declared.Values.{Values}
use Rattle.record.specs.declared.Bench.{Bench}

-- the values that count
abbrev pub pairs_of : Values → List Pair
pairs_of v = take v.count v.pairs

-- the bench of a record
abbrev pub bench_of : Bench → M.Bench Pair
bench_of b = record { line = b.line; left = b.left; total = b.total; over = b.over; values = pairs_of b.values }
