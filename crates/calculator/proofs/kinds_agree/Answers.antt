-- Kinds that reply agree.
use Rattle.calculator.proofs.Stand.{agree}
use Rattle.calculator.proofs.kinds_agree.Goals as goal

pub returns : goal.returns
returns c = agree
