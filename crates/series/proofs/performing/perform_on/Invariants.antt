use Rattle.std.proofs.Common.{◌≡◌, ◌≤◌, map, take}
use Rattle.checker.specs.Scripts.{lines_in, variable_in}
use Rattle.record.specs.Benches.{bench_of}
use Rattle.series.specs.Series.{Performed, call_in}
use Rattle.series.proofs.performing.perform_on.Given as goal

abbrev pub invariant-loop-i : goal.invariant-loop-i
invariant-loop-i g l =
    (l.bench.values.count ≤ 16) × (map call_in l.steps ≡ map call_in l.initial.steps) ×
    (Performed g.K.Kind.means g.K.Kind.code (lines_in l.script) (variable_in l.script) (take l.i l.steps) (bench_of l.bench))
