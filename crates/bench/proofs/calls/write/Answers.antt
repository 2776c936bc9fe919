use Rattle.checker.specs.Scripts.{lines_in}
use Rattle.bench.proofs.First.{lines_few, values_few}
use Rattle.bench.proofs.Called.{writes_back}
use Rattle.checker.proofs.Sound.{sound}
use Rattle.bench.proofs.calls.write.Goals as goal

pub returns : goal.returns
returns g c =
    let s = c.args.script.now in
    record {
      answer = c.write_bench.ensures.answer;
      bytes = c.write_bench.ensures.bytes;
      back = let h = sound c.args.script.now in writes_back g.K.Kind.means g.K.Kind.code g.met.K.Kind.sound (lines_in s) (lines_few s g.K.Kind.means g.K.Kind.code h) (values_few s g.K.Kind.means g.K.Kind.code h) c.args.bench.now c.args.buffer.now c.write_bench.result c.write_bench.new.buffer (c.write_bench.ensures.answer) (c.write_bench.ensures.bytes);
    }
