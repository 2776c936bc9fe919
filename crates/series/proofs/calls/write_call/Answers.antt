use Rattle.std.proofs.Common.{refl, ◌∙◌}
use Rattle.checker.specs.Scripts.{lines_in}
use Rattle.record.specs.Benches.{bench_of}
use Rattle.checker.proofs.Sound.{sound}
use Rattle.bench.proofs.First.{lines_few, values_few}
use Rattle.series.proofs.Replied.{cut_length, room_same}
use Rattle.series.proofs.calls.write_call.Goals as goal

pub returns : goal.returns
returns g c = λ few.
    let s = c.args.script.now in
    let h = sound s in
    c.write_with.ensures few ∙ room_same g.K.Kind.means g.K.Kind.code g.met.K.Kind.sound (lines_in s) (lines_few s g.K.Kind.means g.K.Kind.code h) (values_few s g.K.Kind.means g.K.Kind.code h) (bench_of c.args.bench.now) _ c.args.room (cut_length _ c.args.room c.min.result c.min.ensures refl)
