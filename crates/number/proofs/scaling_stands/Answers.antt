-- Scaling.
use Rattle.number.proofs.Stand.{scaling}
use Rattle.number.proofs.scaling_stands.Goals as goal

pub returns : goal.returns
returns c = scaling
