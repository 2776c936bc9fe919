-- Names that stand twice make no difference to the rule.
use Rattle.motion.proofs.NameChains.{repeats_alike}
use Rattle.motion.proofs.repeats_alike.Goals as goal

pub returns : goal.returns
returns c = repeats_alike
