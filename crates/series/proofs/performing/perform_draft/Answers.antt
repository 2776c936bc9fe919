use Rattle.std.proofs.Common.{ap}
use Rattle.record.specs.Benches.{bench_of}
use Rattle.series.specs.Promise.{check_reply}
use Rattle.series.proofs.Along.{promised}
use Rattle.checker.proofs.Sound.{sound}
use Rattle.series.proofs.performing.perform_draft.Goals as goal

pub returns-in-Ok : goal.returns-in-Ok
returns-in-Ok g c =
    let told = c.in-Ok.ensures in
    record {
      answer = ap check_reply told.answer;
      promise = promised c.in-Ok.script g.K.Kind.means g.K.Kind.code g.met.K.Kind.sound (sound c.in-Ok.script) c.args.draft.text.now c.perform_on.new.steps (bench_of c.perform_on.result) told.script.0 c.perform_on.ensures.performed;
      calls = c.perform_on.ensures.calls;
    }
