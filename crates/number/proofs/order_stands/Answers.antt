-- The order.
use Rattle.number.proofs.Stand.{order}
use Rattle.number.proofs.order_stands.Goals as goal

pub returns : goal.returns
returns c = order
