-- The rule on chains of names is the rule of no walk of five names.
use Rattle.motion.proofs.NameChains.{chains_ruled}
use Rattle.motion.proofs.chains_ruled.Goals as goal

pub returns : goal.returns
returns c = chains_ruled
