-- Division.
use Rattle.number.proofs.Stand.{division}
use Rattle.number.proofs.division_stands.Goals as goal

pub returns : goal.returns
returns c = division
