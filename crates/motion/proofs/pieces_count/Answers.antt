use Rattle.motion.proofs.Pieces.{pieces_count}
use Rattle.motion.proofs.pieces_count.Goals as goal

pub returns : goal.returns
returns c = pieces_count
