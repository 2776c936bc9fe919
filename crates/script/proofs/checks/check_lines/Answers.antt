use Rattle.std.proofs.Common.{arith}
use Rattle.script.proofs.Ahead.{walk_short}
use Rattle.script.proofs.checks.check_lines.Goals as goal

pub overflow_add-fields : goal.overflow_add-fields
overflow_add-fields c = omega (arith, c.loop-field.invariant.2, walk_short 0 0 0 0 c.args.text.now)
