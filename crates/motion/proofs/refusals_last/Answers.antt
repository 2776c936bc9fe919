use Rattle.motion.proofs.Lasting.{persist}
use Rattle.motion.proofs.refusals_last.Goals as goal

pub returns : goal.returns
returns g c = persist _
