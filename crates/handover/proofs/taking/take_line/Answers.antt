-- The laws of what is taken up.
use Rattle.std.proofs.Common.{sym, subst}
use Rattle.handover.specs.Laws.{Takes}
use Rattle.handover.proofs.Rounded.{takes}
use Rattle.handover.proofs.taking.take_line.Goals as goal

pub returns-clause-takes : goal.returns-clause-takes
returns-clause-takes g c =
    subst (Takes g.K.Kind.means g.K.Kind.code c.args.line.now) (sym c.take.ensures.value) (takes g.K.Kind.means g.K.Kind.code g.met.K.Kind.sound c.args.line.now)
