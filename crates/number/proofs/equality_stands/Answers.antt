-- Equality of fractions.
use Rattle.number.proofs.Stand.{equality}
use Rattle.number.proofs.equality_stands.Goals as goal

pub returns : goal.returns
returns c = equality
