use Rattle.std.proofs.Common.{ap, ◌∙◌, rules}
use Rattle.postfix.proofs.Written.{none_below}
use Rattle.postfix.proofs.values.literal.Goals as goal

pub returns-then-n-eq0 : goal.returns-then-n-eq0
returns-then-n-eq0 g c = (search rules) ∙ ap g.K.Kind.code (none_below c.args.n c.if-n-eq0.true)
