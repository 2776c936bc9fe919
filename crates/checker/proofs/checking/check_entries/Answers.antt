use Rattle.std.proofs.Common.{sym, arith}
use Rattle.entries.specs.Fields.{lines}
use Rattle.checker.specs.Conditions.{at_first}
use Rattle.checker.proofs.Passing.{lines_few_names}
use Rattle.checker.proofs.checking.check_entries.Goals as goal

pub make_plan-requires : goal.make_plan-requires
make_plan-requires g c = (lines_few_names g.K.Kind.means g.K.Kind.code c.args.text.now at_first (lines c.args.table.now) c.in_ok-past.past (omega arith) (sym c.in_ok-past.ensures), c.requires)
