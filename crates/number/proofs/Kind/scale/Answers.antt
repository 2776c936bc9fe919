-- Scaling, for any kind.
use Rattle.std.proofs.Common.{arith, w64}
use Rattle.std.proofs.lemmas.Int.{ints, to_z_pos}
use Rattle.number.proofs.Ops.{read, sizes, returns_scale}
use Rattle.number.proofs.Kind.scale.Goals as goal

pub product-requires : goal.product-requires
product-requires g c =
    let p = sizes _ _ g.met.Self.Kind.sound _ _ _ c.in_ok-a.ensures in
    let n = to_z_pos w64 c.args.n (omega arith) in
    let k = to_z_pos w64 c.args.k (omega arith) in
    (omega (arith, ints), omega (arith, ints))

pub product-requires-2 : goal.product-requires-2
product-requires-2 g c =
    let p = sizes _ _ g.met.Self.Kind.sound _ _ _ c.in_ok-a.ensures in
    let n = to_z_pos w64 c.args.n (omega arith) in
    let k = to_z_pos w64 c.args.k (omega arith) in
    (omega (arith, ints), omega (arith, ints))

pub returns : goal.returns
returns g c =
    let P = read g.Self.Kind.means g.Self.Kind.code g.met.Self.Kind.sound c.args.p c.in_ok-a.a c.in_ok-a.b c.in_ok-a.ensures in
    returns_scale g.Self.Kind.means g.Self.Kind.code c.args.p c.args.n c.args.k c.in_ok-a.a c.in_ok-a.b c.product.result c.product-2.result c.take.result P (omega arith) (omega arith) (omega arith) c.product.ensures.bound c.product-2.ensures.bound c.product.ensures.value c.product-2.ensures.value c.take.ensures
