-- Taking a fraction as thousandths.
use Rattle.std.proofs.Common.{◌∙◌}
use Rattle.std.proofs.lemmas.Result.{err_from_is_err_and}
use Rattle.kinds.specs.Fractions.{frac_of, pair_of}
use Rattle.kinds.specs.Thousandths.{thousand_of, count_of}
use Rattle.kinds.specs.Counting.{thousandths_held}
use Rattle.kinds.proofs.Counted.{count_asks, take_counts}
use Rattle.kinds.specs.Lowest.{passed, taken_ok, taken_err}
use Rattle.kinds.proofs.thousandths.ThousandthsKind.take.Goals as goal

pub count-requires : goal.count-requires
count-requires c =
    let n = c.args.n in
    let d = c.args.d in
    let p = c.in_ok-p.p in
    let L = taken_ok n d p (c.in_ok-p.ensures ∙ passed frac_of pair_of n d c.ranges.n c.ranges.d) in
    count_asks n d p L

pub returns : goal.returns
returns c =
    let n = c.args.n in
    let d = c.args.d in
    let p = c.in_ok-p.p in
    let L = taken_ok n d p (c.in_ok-p.ensures ∙ passed frac_of pair_of n d c.ranges.n c.ranges.d) in
    take_counts n d p c.count.result L c.count.ensures

pub returns-in_err-p : goal.returns-in_err-p
returns-in_err-p c =
    let n = c.args.n in
    let d = c.args.d in
    let r = err_from_is_err_and c.from_residual.result c.from_residual.ensures.1 in
    let e = c.in_err-p.ensures ∙ passed frac_of pair_of n d c.ranges.n c.ranges.d in
    rw (r.1, r.2) (taken_err thousand_of count_of thousandths_held n d _ e)
