use Rattle.motion.proofs.Promise.{flow_law}
use Rattle.motion.proofs.flow_adds.Goals as goal

pub returns : goal.returns
returns c = flow_law
