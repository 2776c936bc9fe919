use Rattle.motion.proofs.Marked.{marked}
use Rattle.motion.proofs.marked_runs.Goals as goal

pub returns : goal.returns
returns c = marked
