-- The examples.
use Rattle.calculator.proofs.Stand.{examples}
use Rattle.calculator.proofs.examples_stand.Goals as goal

pub returns : goal.returns
returns c = examples
