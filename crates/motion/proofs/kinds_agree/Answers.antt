use Rattle.motion.proofs.Promise.{kinds_agree}
use Rattle.motion.proofs.kinds_agree.Goals as goal

pub returns : goal.returns
returns c = kinds_agree
