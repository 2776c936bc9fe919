use Rattle.motion.proofs.Determinism.{rest_once}
use Rattle.motion.proofs.one_outcome.Goals as goal

pub returns : goal.returns
returns c = rest_once
