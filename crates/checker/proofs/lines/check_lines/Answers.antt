use Rattle.checker.proofs.Splits.{line_filled}
use Rattle.checker.proofs.lines.check_lines.Goals as goal

pub check_line-requires : goal.check_line-requires
check_line-requires g c = line_filled c.loop-line.line-iterator.0.now _ _ c.in-Some.ensures.steps
