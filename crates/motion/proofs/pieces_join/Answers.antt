use Rattle.motion.proofs.Pieces.{pieces_join}
use Rattle.motion.proofs.pieces_join.Goals as goal

pub returns : goal.returns
returns c = pieces_join
