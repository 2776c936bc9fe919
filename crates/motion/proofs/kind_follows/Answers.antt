use Rattle.motion.proofs.Promise.{kind_follows}
use Rattle.motion.proofs.kind_follows.Goals as goal

pub returns : goal.returns
returns c = kind_follows
