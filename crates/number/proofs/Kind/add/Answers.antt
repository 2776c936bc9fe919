-- Adding, for any kind.
use Rattle.std.proofs.Common.{arith}
use Rattle.number.proofs.Ops.{read, sizes, sum_fits, returns_add}
use Rattle.number.proofs.Kind.add.Goals as goal

pub product-requires : goal.product-requires
product-requires g c =
    let p = sizes _ _ g.met.Self.Kind.sound _ _ _ c.in_ok-a.ensures in
    let q = sizes _ _ g.met.Self.Kind.sound _ _ _ c.in_ok-c.ensures in
    (omega arith, omega arith)

pub product-requires-2 : goal.product-requires-2
product-requires-2 g c =
    let p = sizes _ _ g.met.Self.Kind.sound _ _ _ c.in_ok-a.ensures in
    let q = sizes _ _ g.met.Self.Kind.sound _ _ _ c.in_ok-c.ensures in
    (omega arith, omega arith)

pub product-requires-3 : goal.product-requires-3
product-requires-3 g c =
    let p = sizes _ _ g.met.Self.Kind.sound _ _ _ c.in_ok-a.ensures in
    let q = sizes _ _ g.met.Self.Kind.sound _ _ _ c.in_ok-c.ensures in
    (omega arith, omega arith)

pub overflow_add-product : goal.overflow_add-product
overflow_add-product g c = sum_fits c.product.result c.product-2.result c.product.ensures.bound c.product-2.ensures.bound

pub returns : goal.returns
returns g c =
    returns_add _ g.Self.Kind.code _ _ _ _ _ _ (read _ _ g.met.Self.Kind.sound _ _ _ c.in_ok-a.ensures) (read _ _ g.met.Self.Kind.sound _ _ _ c.in_ok-c.ensures) _ _ _ _
    c.product.ensures.bound c.product-2.ensures.bound c.product-3.ensures.bound c.product.ensures.value c.product-2.ensures.value c.product-3.ensures.value c.take.ensures
