use Rattle.checker.specs.Scripts.{lines_in}
use Rattle.record.specs.Benches.{bench_of}
use Rattle.bench.proofs.Numbered.{as_new_told, in_stretch_told, at_end_told}
use Rattle.bench.proofs.fitting.is_placed.Goals as goal

pub returns-then-is_new : goal.returns-then-is_new
returns-then-is_new g c = as_new_told (lines_in c.args.script.now) (bench_of c.args.bench.now) c.is_new.result (c.is_new.ensures) c.if-is_new.true

pub returns-then-is_in_stretch : goal.returns-then-is_in_stretch
returns-then-is_in_stretch g c =
    in_stretch_told (lines_in c.args.script.now) (bench_of c.args.bench.now) c.is_new.result c.is_in_stretch.result (c.is_new.ensures) c.if-is_new.false (c.is_in_stretch.ensures) c.if-is_in_stretch.true

pub returns : goal.returns
returns g c =
    at_end_told (lines_in c.args.script.now) (bench_of c.args.bench.now) c.is_new.result c.is_in_stretch.result c.is_at_end.result (c.is_new.ensures) c.if-is_new.false (c.is_in_stretch.ensures) c.if-is_in_stretch.false (c.is_at_end.ensures)
