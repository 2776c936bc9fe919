use Rattle.checker.specs.Scripts.{lines_in}
use Rattle.handover.proofs.Rounded.{takes}
use Rattle.handover.specs.Takes.{plainly}
use Rattle.bench.proofs.First.{lines_few, values_few}
use Rattle.bench.proofs.Called.{taken_exactly}
use Rattle.checker.proofs.Sound.{sound}
use Rattle.bench.proofs.calls.take_up.Goals as goal

pub returns : goal.returns
returns g c =
    let s = c.args.script.now in
    record {
      answer = c.take_bench.ensures.answer;
      few = c.take_bench.ensures.few;
      exactly = let h = sound c.args.script.now in taken_exactly g.K.Kind.means g.K.Kind.code g.met.K.Kind.sound (lines_in s) (lines_few s g.K.Kind.means g.K.Kind.code h) (values_few s g.K.Kind.means g.K.Kind.code h) c.args.line.now (plainly c.take_bench.result) (c.take_bench.ensures.answer);
      takes = takes g.K.Kind.means g.K.Kind.code g.met.K.Kind.sound c.args.line.now;
    }
