-- The flow identity.
use Rattle.number.proofs.Stand.{flows}
use Rattle.number.proofs.flow_stands.Goals as goal

pub returns : goal.returns
returns c = flows
