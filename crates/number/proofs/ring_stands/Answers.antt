-- The ring of fractions.
use Rattle.number.proofs.Stand.{commutative_ring}
use Rattle.number.proofs.ring_stands.Goals as goal

pub returns : goal.returns
returns c = commutative_ring
