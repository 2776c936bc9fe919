use Rattle.motion.proofs.Promise.{one_bench_after}
use Rattle.motion.proofs.one_bench.Goals as goal

pub returns : goal.returns
returns c = one_bench_after
