use Rattle.motion.proofs.Promise.{nothing_in}
use Rattle.motion.proofs.nothing_there.Goals as goal

pub returns : goal.returns
returns c = nothing_in
