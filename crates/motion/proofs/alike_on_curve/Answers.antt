use Rattle.motion.proofs.OneAdvance.{alike_on_curve}
use Rattle.motion.proofs.alike_on_curve.Goals as goal

pub returns : goal.returns
returns c = alike_on_curve
