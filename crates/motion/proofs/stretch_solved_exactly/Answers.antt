-- The polynomials of a stretch solve it exactly where D5 is 0.
use Rattle.motion.proofs.Solution.{stretch_solved_exactly}
use Rattle.motion.proofs.stretch_solved_exactly.Goals as goal

pub returns : goal.returns
returns c = stretch_solved_exactly
