use Rattle.checker.proofs.Passing.{line_passes, passes_line}
use Rattle.checker.proofs.checking.lines_judged.Goals as goal

pub returns : goal.returns
returns c = λ means code text p w n line q. (line_passes means code text p w n line q, passes_line means code text p w n line q)
