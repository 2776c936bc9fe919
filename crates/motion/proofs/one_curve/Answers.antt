use Rattle.motion.proofs.Determinism.{one_curve}
use Rattle.motion.proofs.one_curve.Goals as goal

pub returns : goal.returns
returns c = one_curve
