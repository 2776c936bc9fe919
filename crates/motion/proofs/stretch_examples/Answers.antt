-- Three stretches worked out.
use Rattle.motion.proofs.Stretches.{stretch_examples}
use Rattle.motion.proofs.stretch_examples.Goals as goal

pub returns : goal.returns
returns c = stretch_examples
