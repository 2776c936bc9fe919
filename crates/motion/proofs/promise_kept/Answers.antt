use Rattle.motion.proofs.Promise.{promise_kept}
use Rattle.motion.proofs.promise_kept.Goals as goal

pub returns : goal.returns
returns c = promise_kept
