use Rattle.motion.proofs.OneAdvance.{advance_law}
use Rattle.motion.proofs.advance_law.Goals as goal

pub returns : goal.returns
returns c = advance_law
