-- The examples.
use Rattle.number.proofs.Stand.{examples}
use Rattle.number.proofs.examples_stand.Goals as goal

pub returns : goal.returns
returns c = examples
