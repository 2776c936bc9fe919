use Rattle.motion.proofs.Calls.{exact_calls}
use Rattle.motion.proofs.exact_calls.Goals as goal

pub returns : goal.returns
returns c = exact_calls
