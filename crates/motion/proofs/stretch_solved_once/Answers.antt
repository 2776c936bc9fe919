-- A stretch has one solution.
use Rattle.motion.proofs.Solution.{stretch_solved_once}
use Rattle.motion.proofs.stretch_solved_once.Goals as goal

pub returns : goal.returns
returns c = stretch_solved_once
