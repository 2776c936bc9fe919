-- The divisor with no loop.
use Rattle.kinds.specs.Reduced.{gcd_whole}
use Rattle.kinds.proofs.fractions.common.Goals as goal

pub returns-then-a-b-eq0 : goal.returns-then-a-b-eq0
returns-then-a-b-eq0 c = gcd_whole c.args.a c.args.b c.if-a-b-eq0.true
