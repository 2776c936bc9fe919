-- The lowest terms of a count of thousandths.
use Rattle.kinds.proofs.Counted.{terms_no, terms_yes, terms_never}
use Rattle.kinds.proofs.thousandths.ThousandthsKind.terms.Goals as goal

pub returns-then-not-valid : goal.returns-then-not-valid
returns-then-not-valid c = terms_no c.args.p c.if-not-valid.ensures

pub returns : goal.returns
returns c = terms_yes c.args.p c.in_ok-r.r c.if-not-valid.ensures c.in_ok-r.ensures

pub returns-in_err-r : goal.returns-in_err-r
returns-in_err-r c = absurd (terms_never c.args.p _ c.if-not-valid.ensures c.in_err-r.ensures)
