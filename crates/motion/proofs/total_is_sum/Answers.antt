use Rattle.motion.proofs.Calls.{totals}
use Rattle.motion.proofs.total_is_sum.Goals as goal

pub returns : goal.returns
returns g c = totals _
