use Rattle.motion.proofs.Fitting.{fitting}
use Rattle.motion.proofs.benches_fit.Goals as goal

pub returns : goal.returns
returns c = fitting
