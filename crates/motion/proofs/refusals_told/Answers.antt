use Rattle.motion.proofs.Refusals.{refusals_told}
use Rattle.motion.proofs.refusals_told.Goals as goal

pub returns : goal.returns
returns g c = refusals_told _
