-- A product of two numbers within the limit.
use Rattle.std.proofs.Common.{◌≤◌, ◌*ℤ◌, nat_abs, sym, subst, ap₂, w64, SFits}
use Rattle.std.proofs.lemmas.Int.{to_z-of_z}
use Rattle.number.proofs.Products.{product_fits, product_back, product_small}
use Rattle.number.proofs.product.Goals as goal

pub overflow_mul-result : goal.overflow_mul-result
overflow_mul-result c =
    let a = c.args.a in
    let b = c.args.b in
    subst (SFits w64) (sym (ap₂ ◌*ℤ◌ (to_z-of_z w64 a c.ranges.a) (to_z-of_z w64 b c.ranges.b))) (product_fits a b c.requires.0 c.requires.1)

pub returns : goal.returns
returns c =
    let a = c.args.a in
    let b = c.args.b in
    let e = product_back a b c.ranges.a c.ranges.b c.requires.0 c.requires.1 in
    record { value = e; bound = subst (λ z. nat_abs z ≤ 4611686014132420609) (sym e) (product_small a b c.requires.0 c.requires.1) }
