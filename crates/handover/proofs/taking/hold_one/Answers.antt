-- What the kind takes are the terms of the fraction.
use Rattle.std.proofs.Common.{◌∙◌, w64, SFits, rules}
use Rattle.kinds.specs.Lowest.{passed}
use Rattle.handover.proofs.taking.hold_one.Goals as goal

pub returns : goal.returns
returns g c =
    let fa : SFits w64 c.args.fraction.a = search rules in
    let fb : SFits w64 c.args.fraction.b = search rules in
    c.take.ensures ∙ passed g.K.Kind.means g.K.Kind.code c.args.fraction.a c.args.fraction.b fa fb
