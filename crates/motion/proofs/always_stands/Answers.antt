use Rattle.motion.proofs.OneAdvance.{always_stands}
use Rattle.motion.proofs.always_stands.Goals as goal

pub returns : goal.returns
returns c = always_stands
