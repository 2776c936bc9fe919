use Rattle.std.proofs.Common.{arith, inl}
use Rattle.checker.proofs.Splits.{lines_few}
use Rattle.checker.proofs.checking.count_lines.Goals as goal

pub count-requires-clause-fits : goal.count-requires-clause-fits
count-requires-clause-fits c = inl (omega (arith, lines_few c.args.table.now))
