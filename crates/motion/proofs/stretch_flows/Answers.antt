-- The flow computes the polynomials of a stretch.
use Rattle.motion.proofs.Solution.{stretch_flows}
use Rattle.motion.proofs.stretch_flows.Goals as goal

pub returns : goal.returns
returns c = stretch_flows
