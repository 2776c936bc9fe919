-- The lowest terms of a fraction's pair.
use Rattle.kinds.specs.Lowest.{fraction_yes, fraction_no}
use Rattle.kinds.proofs.fractions.FractionsKind.terms.Goals as goal

pub returns-then-not-valid : goal.returns-then-not-valid
returns-then-not-valid c = fraction_no c.args.p c.if-not-valid.ensures

pub returns : goal.returns
returns c = fraction_yes c.args.p c.if-not-valid.ensures
