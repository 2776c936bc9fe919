use Rattle.std.proofs.Common.{arith}
use Rattle.postfix.proofs.Stacking.{stacked_push}
use Rattle.postfix.proofs.stack.Stack.push.Goals as goal

pub returns-clause-waits : goal.returns-clause-waits
returns-clause-waits c = stacked_push c.args.self.now.depth c.args.self.now.slots c.args.answer (omega arith)
