use Rattle.std.proofs.Common.{length, ap, arith}
use Rattle.checker.proofs.Splits.{lines_cut}
use Rattle.checker.proofs.line_ends.LinesIterator.next.Goals as goal

pub returns-clause-steps : goal.returns-clause-steps
returns-clause-steps c = lines_cut _ _ _ _ _ _ c.in_ok-others.ensures.cases.0 c.rest_of_line.ensures.end c.split_at.ensures.front c.split_at.ensures.back

pub returns-clause-goes : goal.returns-clause-goes
returns-clause-goes c =
    let n = ap length (lines_cut _ _ _ _ _ _ c.in_ok-others.ensures.cases.0 c.rest_of_line.ensures.end c.split_at.ensures.front c.split_at.ensures.back) in
    record { on = λ _. (tt, tt, omega (arith, n)); keeps = tt; rests = λ _. tt }
