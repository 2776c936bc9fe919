-- Taking a small whole number.
use Rattle.std.proofs.Common.{◌≡◌, ◌≤◌, pos, nat_abs, ◌∙◌, inl, inr, arith}
use Rattle.std.proofs.lemmas.Int.{ints}
use Rattle.std.proofs.lemmas.Result.{err_from_is_err_and}
use Rattle.kinds.specs.Fractions.{frac_of, pair_of}
use Rattle.kinds.specs.Small.{small_of, small_pair}
use Rattle.kinds.specs.Smalls.{smalls_held, take_no, take_yes, shifted}
use Rattle.kinds.specs.Lowest.{passed, taken_ok, taken_err}
use Rattle.kinds.proofs.small.SmallWholesKind.take.Goals as goal
use Rattle.kinds.proofs.small.SmallWholesKind.take.Goals.{then-p-ne1-via-then-p-ne1, then-p-ne1-via-else-p-ne1+then-p, then-p-ne1-via-else-p-ne1+else-p+then-p-gt-MOST}

pub returns-then-p-ne1 : goal.returns-then-p-ne1
returns-then-p-ne1 c =
    let n = c.args.n in
    let d = c.args.d in
    let p = c.in_ok-p.p in
    let L = taken_ok n d p (c.in_ok-p.ensures ∙ passed frac_of pair_of n d c.ranges.n c.ranges.d) in
    let fa = L.fit_a in
    let fb = L.fit_b in
    take_no n d p L
    (elim c.then-p-ne1.branch [ then-p-ne1-via-then-p-ne1 w ↦ inl (λ e. omega (arith, ints)) | then-p-ne1-via-else-p-ne1+then-p w ↦ inr (omega (arith, ints)) | then-p-ne1-via-else-p-ne1+else-p+then-p-gt-MOST w ↦ inr (omega (arith, ints)) ])

pub returns : goal.returns
returns c =
    let n = c.args.n in
    let d = c.args.d in
    let p = c.in_ok-p.p in
    let L = taken_ok n d p (c.in_ok-p.ensures ∙ passed frac_of pair_of n d c.ranges.n c.ranges.d) in
    let fa = L.fit_a in
    let fb = L.fit_b in
    let one : p.b ≡ pos 1 = omega (arith, ints) in
    let few : nat_abs p.a ≤ 1000 = omega (arith, ints) in
    take_yes n d p L _ one few (shifted p.a fa (omega arith))

pub returns-in_err-p : goal.returns-in_err-p
returns-in_err-p c =
    let n = c.args.n in
    let d = c.args.d in
    let r = err_from_is_err_and c.from_residual.result c.from_residual.ensures.1 in
    let e = c.in_err-p.ensures ∙ passed frac_of pair_of n d c.ranges.n c.ranges.d in
    rw (r.1, r.2) (taken_err small_of small_pair smalls_held n d _ e)
