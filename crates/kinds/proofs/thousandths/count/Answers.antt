-- Counting the thousandths of lowest terms.
use Rattle.std.proofs.Common.{◌%◌, nat_abs, Ok, sym, ap, ◌∙◌, inl, inr, arith, w64}
use Rattle.std.proofs.lemmas.Int.{ints, to_z-of_z}
use Rattle.kinds.specs.Thousandths.{count_from}
use Rattle.kinds.proofs.Counted.{count_no, count_yes, made}
use Rattle.std.proofs.lemmas.Bool.{leb-true, leb-false}
use Rattle.kinds.proofs.thousandths.count.Goals as goal

pub returns-then-d-ne0 : goal.returns-then-d-ne0
returns-then-d-ne0 c =
    let D = c.unsigned_abs-d.ensures.value ∙ ap nat_abs (to_z-of_z w64 c.args.b c.ranges.b) in
    count_no c.args.a (nat_abs c.args.b) (inl (λ z. c.if-d-ne0.true (ap (λ x. 1000 % x) D ∙ z)))

pub overflow_mul-c : goal.overflow_mul-c
overflow_mul-c c =
    let D = c.unsigned_abs-d.ensures.value ∙ ap nat_abs (to_z-of_z w64 c.args.b c.ranges.b) in
    let m = made c.args.a c.unsigned_abs-d.result (nat_abs c.args.b) c.ranges.a c.requires.0 D in
    m.fits

pub returns-then-within_limit : goal.returns-then-within_limit
returns-then-within_limit c =
    let D = c.unsigned_abs-d.ensures.value ∙ ap nat_abs (to_z-of_z w64 c.args.b c.ranges.b) in
    let m = made c.args.a c.unsigned_abs-d.result (nat_abs c.args.b) c.ranges.a c.requires.0 D in
    let s = leb-true _ _ (sym c.if-within_limit.ensures) in
    let z = m.size_is in
    let f = m.fits in
    ap (λ x. Ok (count_from x)) (to_z-of_z w64 _ f ∙ m.value) ∙ count_yes c.args.a (nat_abs c.args.b) (ap (λ x. 1000 % x) (sym D) ∙ c.if-d-ne0.false) (omega (arith, ints))

pub returns-else-within_limit : goal.returns-else-within_limit
returns-else-within_limit c =
    let D = c.unsigned_abs-d.ensures.value ∙ ap nat_abs (to_z-of_z w64 c.args.b c.ranges.b) in
    let m = made c.args.a c.unsigned_abs-d.result (nat_abs c.args.b) c.ranges.a c.requires.0 D in
    let s = leb-false _ _ (sym c.if-within_limit.ensures) in
    let z = m.size_is in
    let f = m.fits in
    count_no c.args.a (nat_abs c.args.b) (inr (omega (arith, ints)))
