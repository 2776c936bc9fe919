-- The lowest terms of a small whole number.
use Rattle.std.proofs.Common.{◌≡◌, ◌≤◌, pos, ◌-ℤ◌, nat_abs, inl, inr, arith, w64, SFits, rules}
use Rattle.std.proofs.lemmas.Int.{ints}
use Rattle.kinds.specs.Smalls.{terms_no, terms_yes, shifted}
use Rattle.kinds.proofs.small.SmallWholesKind.terms.Goals as goal
use Rattle.kinds.proofs.small.SmallWholesKind.terms.Goals.{then-p-ne-MARK-via-then-p-ne-MARK, then-p-ne-MARK-via-else-p-ne-MARK+then-p, then-p-ne-MARK-via-else-p-ne-MARK+else-p+then-p-2}

pub returns-then-p-ne-MARK : goal.returns-then-p-ne-MARK
returns-then-p-ne-MARK c =
    let p = c.args.p in
    let fa : SFits w64 p.a = search rules in
    let fb : SFits w64 p.b = search rules in
    terms_no p
    (elim c.then-p-ne-MARK.branch [ then-p-ne-MARK-via-then-p-ne-MARK w ↦ inl (λ e. omega (arith, ints)) | then-p-ne-MARK-via-else-p-ne-MARK+then-p w ↦ inr (omega (arith, ints)) | then-p-ne-MARK-via-else-p-ne-MARK+else-p+then-p-2 w ↦ inr (omega (arith, ints)) ])

pub returns : goal.returns
returns c =
    let p = c.args.p in
    let fa : SFits w64 p.a = search rules in
    let fb : SFits w64 p.b = search rules in
    let mark : p.a ≡ pos 7 = omega (arith, ints) in
    let few : nat_abs (pos 3 -ℤ p.b) ≤ 1000 = omega (arith, ints) in
    terms_yes p _ mark few (shifted p.b fb (omega (arith, ints)))
