-- Bringing a fraction to lowest terms.
use Rattle.std.proofs.Common.{◌≡◌, ℕ, ◌^◌, ◌<◌, ℤ, nat_abs, sym, ap, ◌∙◌, subst, ap₂, inl, inr, arith, w64, SFits, to_z, of_z}
use lib.Signed.{quot_z}
use Rattle.std.proofs.lemmas.Int.{ints, to_z-of_z, to_z_pos}
use Rattle.number.specs.Gcd.{gcd}
use Rattle.kinds.specs.Reduced.{common_small, quot_fits, quot_back, reduced_yes, reduced_no}
use Rattle.std.proofs.lemmas.Bool.{leb-true, leb-false}
use Rattle.kinds.proofs.fractions.reduce.Goals as goal
use Rattle.kinds.proofs.fractions.reduce.Goals.{else-within_limit-via-then-within_limit+else-within_limit-2, else-within_limit-via-else-within_limit}

divisor : (n d : ℤ) (g u v : ℕ) → SFits w64 n → SFits w64 d → u ≡ nat_abs (to_z w64 (of_z w64 n)) → v ≡ nat_abs (to_z w64 (of_z w64 d)) → g ≡ gcd u v → g ≡ gcd (nat_abs n) (nat_abs d)
divisor n d g u v fn fd eu ev e = e ∙ ap₂ gcd (eu ∙ ap nat_abs (to_z-of_z w64 n fn)) (ev ∙ ap nat_abs (to_z-of_z w64 d fd))

fits : (z : ℤ) (g : ℕ) → SFits w64 z → g < 2 ^ 63 → SFits w64 (quot_z (to_z w64 (of_z w64 z)) (to_z w64 g))
fits z g f h = subst (SFits w64) (sym (ap₂ quot_z (to_z-of_z w64 z f) (to_z_pos w64 g h))) (quot_fits z g f)

pub overflow_cast-g : goal.overflow_cast-g
overflow_cast-g c =
    let e = divisor _ _ _ _ _ c.ranges.n c.ranges.d c.unsigned_abs.ensures.value c.unsigned_abs-2.ensures.value c.common-g.ensures in
    let b = common_small c.args.n _ _ c.ranges.d c.requires e in
    omega (arith, ints)

pub nonzero_div-a : goal.nonzero_div-a
nonzero_div-a c =
    let e = divisor _ _ _ _ _ c.ranges.n c.ranges.d c.unsigned_abs.ensures.value c.unsigned_abs-2.ensures.value c.common-g.ensures in
    let b = common_small c.args.n _ _ c.ranges.d c.requires e in
    (b.0, fits c.args.n c.common-g.result c.ranges.n b.1)

pub nonzero_div-b : goal.nonzero_div-b
nonzero_div-b c =
    let e = divisor _ _ _ _ _ c.ranges.n c.ranges.d c.unsigned_abs.ensures.value c.unsigned_abs-2.ensures.value c.common-g.ensures in
    let b = common_small c.args.n _ _ c.ranges.d c.requires e in
    (b.0, fits c.args.d c.common-g.result c.ranges.d b.1)

pub returns-then-within_limit-2 : goal.returns-then-within_limit-2
returns-then-within_limit-2 c =
    let n = c.args.n in
    let d = c.args.d in
    let g = c.common-g.result in
    let e = divisor _ _ _ _ _ c.ranges.n c.ranges.d c.unsigned_abs.ensures.value c.unsigned_abs-2.ensures.value c.common-g.ensures in
    let b = common_small c.args.n _ _ c.ranges.d c.requires e in
    let qa = quot_back n g c.ranges.n b.1 in
    let qb = quot_back d g c.ranges.d b.1 in
    reduced_yes n d g c.requires e _ _ qa qb (leb-true _ _ (sym c.if-within_limit.ensures)) (leb-true _ _ (sym c.if-within_limit-2.ensures))

pub returns-else-within_limit : goal.returns-else-within_limit
returns-else-within_limit c =
    let n = c.args.n in
    let d = c.args.d in
    let g = c.common-g.result in
    let e = divisor _ _ _ _ _ c.ranges.n c.ranges.d c.unsigned_abs.ensures.value c.unsigned_abs-2.ensures.value c.common-g.ensures in
    let b = common_small c.args.n _ _ c.ranges.d c.requires e in
    let qa = quot_back n g c.ranges.n b.1 in
    let qb = quot_back d g c.ranges.d b.1 in
    reduced_no n d g c.requires e _ _ qa qb
    (elim c.else-within_limit.branch [ else-within_limit-via-then-within_limit+else-within_limit-2 w ↦ inr (leb-false _ _ (sym w.if-within_limit-2.ensures)) | else-within_limit-via-else-within_limit w ↦ inl (leb-false _ _ (sym w.if-within_limit.ensures)) ])
