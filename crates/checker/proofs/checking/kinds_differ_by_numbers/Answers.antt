use Rattle.checker.proofs.Alike.{kinds_differ_by_numbers}
use Rattle.checker.proofs.checking.kinds_differ_by_numbers.Goals as goal

pub returns : goal.returns
returns c = kinds_differ_by_numbers
