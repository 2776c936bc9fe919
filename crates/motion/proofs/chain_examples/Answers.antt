-- The rule at five stretches.
use Rattle.motion.proofs.NameChains.{chain_examples}
use Rattle.motion.proofs.chain_examples.Goals as goal

pub returns : goal.returns
returns c = chain_examples
