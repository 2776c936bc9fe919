use Rattle.record.specs.Benches.{bench_of}
use Rattle.series.specs.Promise.{script_in}
use Rattle.series.proofs.Replied.{alike_two}
use Rattle.series.proofs.performing.perform_two.Goals as goal

pub returns : goal.returns
returns g c =
    let one = c.in_ok-one.ensures.promise in
    let other = c.in_ok-other.ensures.promise in
    record {
      first = one;
      second = other;
      alike = alike_two g.K.Kind.means g.L.Kind.means g.K.Kind.code g.L.Kind.code (script_in c.args.text.now) one.held other.held (bench_of c.in_ok-one.one) (bench_of c.in_ok-other.other) one.sum other.sum one.moved other.moved one.kept other.kept;
    }
