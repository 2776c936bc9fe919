-- The polynomials of a stretch solve it.
use Rattle.motion.proofs.Solution.{stretch_solved}
use Rattle.motion.proofs.stretch_solved.Goals as goal

pub returns : goal.returns
returns c = stretch_solved
