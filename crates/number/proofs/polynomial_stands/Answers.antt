-- The Horner form.
use Rattle.number.proofs.Stand.{horners}
use Rattle.number.proofs.polynomial_stands.Goals as goal

pub returns : goal.returns
returns c = horners
