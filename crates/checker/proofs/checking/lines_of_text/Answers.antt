use Rattle.checker.proofs.Lined.{lines_of_text, lines_numbered}
use Rattle.checker.proofs.checking.lines_of_text.Goals as goal

pub returns : goal.returns
returns c = record { lines = lines_of_text; numbered = lines_numbered }
