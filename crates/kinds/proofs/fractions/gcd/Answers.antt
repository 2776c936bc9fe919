-- Euclid's loop.
use Rattle.std.proofs.Common.{sym, refl, ap, ◌∙◌}
use Rattle.number.specs.Gcd.{gcd}
use Rattle.kinds.specs.Reduced.{gcd_step, gcd_zero}
use Rattle.kinds.proofs.fractions.gcd.Goals as goal

pub loop-b-init : goal.loop-b-init
loop-b-init c = refl

pub loop-b-preserved : goal.loop-b-preserved
loop-b-preserved c = gcd_step c.loop-b.a c.loop-b.b ∙ c.loop-b.invariant

pub returns : goal.returns
returns c = sym (gcd_zero c.loop-b.a) ∙ ap (gcd c.loop-b.a) (sym c.loop-b-test.false) ∙ c.loop-b.invariant
