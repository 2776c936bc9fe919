-- The flow has an answer where every part names a variable.
use Rattle.motion.proofs.Answering.{stretch_runs}
use Rattle.motion.proofs.stretch_runs.Goals as goal

pub returns : goal.returns
returns c = stretch_runs
