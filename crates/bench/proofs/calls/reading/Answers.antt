use Rattle.checker.specs.Scripts.{lines_in, variable_in}
use Rattle.record.specs.Benches.{bench_of}
use Rattle.motion.specs.Pairs.{numbers_of}
use Rattle.bench.specs.Calls.{fitting}
use Rattle.bench.proofs.Called.{reads}
use Rattle.bench.proofs.calls.reading.Goals as goal

pub returns : goal.returns
returns g c =
    let s = c.args.script.now in
    record {
      answer = c.read_bench.ensures;
      curve = λ T on. reads g.K.Kind.means g.K.Kind.code (lines_in s) T (bench_of c.args.bench.now) on (variable_in s c.args.name.now) (fitting (numbers_of g.K.Kind.means g.K.Kind.code) (lines_in s) c.args.bench.now) c.read_bench.result (c.read_bench.ensures);
    }
