use Rattle.motion.proofs.Cuts.{errs_agree}
use Rattle.motion.proofs.failure_stays.Goals as goal

pub returns : goal.returns
returns c = errs_agree
