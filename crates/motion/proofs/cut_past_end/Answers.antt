use Rattle.motion.proofs.Cuts.{ends_agree}
use Rattle.motion.proofs.cut_past_end.Goals as goal

pub returns : goal.returns
returns c = ends_agree
