-- The flow computes any polynomials that solve a stretch.
use Rattle.motion.proofs.Solution.{solution_flows}
use Rattle.motion.proofs.solution_flows.Goals as goal

pub returns : goal.returns
returns c = solution_flows
