use Rattle.motion.proofs.Examples.{examples}
use Rattle.motion.proofs.premises_met.Goals as goal

pub returns : goal.returns
returns c = examples
