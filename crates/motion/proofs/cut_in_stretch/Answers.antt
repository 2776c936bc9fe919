use Rattle.motion.proofs.Cuts.{stops_agree}
use Rattle.motion.proofs.cut_in_stretch.Goals as goal

pub returns : goal.returns
returns c = stops_agree
