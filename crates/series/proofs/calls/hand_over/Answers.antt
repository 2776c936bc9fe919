use Rattle.std.proofs.Common.{refl, ap, ◌∙◌}
use Rattle.checker.specs.Scripts.{lines_in}
use Rattle.record.specs.Benches.{bench_of}
use Rattle.checker.proofs.Sound.{sound}
use Rattle.bench.proofs.First.{lines_few, values_few}
use Rattle.series.specs.Series.{handed}
use Rattle.series.proofs.Replied.{cut_length, room_same}
use Rattle.series.proofs.calls.hand_over.Goals as goal

pub returns-clause-answer : goal.returns-clause-answer
returns-clause-answer g c = λ few.
    let s = c.args.script.now in
    let h = sound s in
    c.hand_over_with.ensures.answer few ∙ ap handed (room_same g.K.Kind.means g.K.Kind.code g.met.K.Kind.sound (lines_in s) (lines_few s g.K.Kind.means g.K.Kind.code h) (values_few s g.K.Kind.means g.K.Kind.code h) (bench_of c.args.bench.now) _ c.args.room (cut_length _ c.args.room c.min.result c.min.ensures refl))
