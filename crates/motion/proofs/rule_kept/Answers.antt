-- Shallow rates are those whose chains keep the rule.
use Rattle.motion.proofs.NameChains.{rule_kept}
use Rattle.motion.proofs.rule_kept.Goals as goal

pub returns : goal.returns
returns c = rule_kept
