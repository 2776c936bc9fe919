-- Which pairs are lowest terms within the limit.
use Rattle.std.proofs.Common.{◌≡◌, ◌≤◌, pos, true, ◌≤ℤ◌, nat_abs, sym, ap, ◌∙◌, ap₂, arith, w64, SFits, rules}
use Rattle.std.proofs.lemmas.Int.{ints, to_z-of_z}
use Rattle.number.specs.Gcd.{gcd}
use Rattle.number.proofs.Tests.{is_false}
use Rattle.kinds.specs.Reduced.{within_facts, within_yes}
use Rattle.std.proofs.lemmas.Bool.{both_ways, leb-true, leb-false}
use Rattle.kinds.proofs.fractions.valid.Goals as goal
use Rattle.kinds.proofs.fractions.valid.Goals.{then-p-ge1, else-p-ge1, then-within_limit, else-within_limit}

pub returns-then-within_limit-2 : goal.returns-then-within_limit-2
returns-then-within_limit-2 c =
    let a = c.args.p.a in
    let b = c.args.p.b in
    let fa : SFits w64 a = search rules in
    let fb : SFits w64 b = search rules in
    let t = c.if-within_limit-2.true in
    let second : (c.if-p-ge1.value ≡ true) × (nat_abs b ≤ 2147483647) = elim c.if-within_limit.branch [ then-within_limit w ↦ let s = leb-true _ _ (sym w.within_limit-then-within_limit.ensures ∙ sym w.value-is ∙ t) in (w.if-within_limit.true, omega (arith, ints)) | else-within_limit w ↦ absurd (both_ways _ (w.value-is ∙ w.if-within_limit.false) t) ] in
    let first : (pos 1 ≤ℤ b) × (nat_abs a ≤ 2147483647) = elim c.if-p-ge1.branch [ then-p-ge1 w ↦ let s = leb-true _ _ (sym w.within_limit.ensures ∙ sym w.value-is ∙ second.0) in (omega (arith, ints), omega (arith, ints)) | else-p-ge1 w ↦ absurd (both_ways _ (w.value-is ∙ w.if-p-ge1.false) second.0) ] in
    within_yes a b c.common.result first.0 second.1 first.1
    (c.common.ensures ∙ ap₂ gcd (c.unsigned_abs.ensures.value ∙ ap nat_abs (to_z-of_z w64 a fa)) (c.unsigned_abs-then-within_limit-2.ensures.value ∙ ap nat_abs (to_z-of_z w64 b fb)))

pub returns-else-within_limit-2 : goal.returns-else-within_limit-2
returns-else-within_limit-2 c =
    let a = c.args.p.a in
    let b = c.args.p.b in
    let fa : SFits w64 a = search rules in
    let fb : SFits w64 b = search rules in
    let n = c.if-within_limit-2.false in
    n ∙ sym (is_false _ (λ t.
    let f = within_facts a b t in
    elim c.if-within_limit.branch [ then-within_limit w ↦ let s = leb-false _ _ (sym w.within_limit-then-within_limit.ensures ∙ sym w.value-is ∙ n) in omega (arith, ints) | else-within_limit w ↦ (elim c.if-p-ge1.branch [ then-p-ge1 u ↦ let s = leb-false _ _ (sym u.within_limit.ensures ∙ sym u.value-is ∙ w.if-within_limit.false) in omega (arith, ints) | else-p-ge1 u ↦ let s = u.if-p-ge1.false in omega (arith, ints) ]) ]))
