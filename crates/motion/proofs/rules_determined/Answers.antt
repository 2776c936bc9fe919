use Rattle.motion.proofs.Determinism.{deterministic}
use Rattle.motion.proofs.rules_determined.Goals as goal

pub returns : goal.returns
returns c = deterministic
