use Rattle.checker.proofs.Marked.{none_there}
use Rattle.checker.proofs.chains.Level.none.Goals as goal

pub returns : goal.returns
returns c = none_there 256
