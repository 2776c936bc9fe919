use Rattle.motion.proofs.Agreement.{follows_rules}
use Rattle.motion.proofs.machine_follows_rules.Goals as goal

pub returns : goal.returns
returns c = follows_rules
