use Rattle.motion.proofs.Determinism.{standing_once}
use Rattle.motion.proofs.one_standing.Goals as goal

pub returns : goal.returns
returns c = standing_once
