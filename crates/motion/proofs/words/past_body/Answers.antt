use Rattle.std.proofs.Common.{sym, arith}
use Rattle.motion.proofs.LineWords.{past_end}
use Rattle.motion.proofs.words.past_body.Goals as goal

pub returns-then-from-words : goal.returns-then-from-words
returns-then-from-words c = record { within = λ h. absurd (omega arith); next = λ all e. sym (past_end c.args.words.now all 1 c.args.from e (omega arith)) }
