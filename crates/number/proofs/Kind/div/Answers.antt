-- Dividing, for any kind.
use Rattle.std.proofs.Common.{◌≡◌, pos, ◌≤ℤ◌, ◌<ℤ◌, arith}
use Rattle.std.proofs.lemmas.Int.{ints}
use Rattle.number.proofs.Ops.{read, sizes, zero_less_fits, divides_no, returns_div_pos, returns_div_neg}
use Rattle.number.proofs.Kind.div.Goals as goal

pub product-requires : goal.product-requires
product-requires g c =
    let p = sizes _ _ g.met.Self.Kind.sound _ _ _ c.in_ok-a.ensures in
    let q = sizes _ _ g.met.Self.Kind.sound _ _ _ c.in_ok-c.ensures in
    (omega arith, omega arith)

pub product-requires-then-c-gt0 : goal.product-requires-then-c-gt0
product-requires-then-c-gt0 g c =
    let p = sizes _ _ g.met.Self.Kind.sound _ _ _ c.in_ok-a.ensures in
    let q = sizes _ _ g.met.Self.Kind.sound _ _ _ c.in_ok-c.ensures in
    (omega arith, omega arith)

pub product-requires-else-c-gt0 : goal.product-requires-else-c-gt0
product-requires-else-c-gt0 g c =
    let p = sizes _ _ g.met.Self.Kind.sound _ _ _ c.in_ok-a.ensures in
    let q = sizes _ _ g.met.Self.Kind.sound _ _ _ c.in_ok-c.ensures in
    (omega arith, omega arith)

pub product-requires-else-c-gt0-2 : goal.product-requires-else-c-gt0-2
product-requires-else-c-gt0-2 g c =
    let p = sizes _ _ g.met.Self.Kind.sound _ _ _ c.in_ok-a.ensures in
    let q = sizes _ _ g.met.Self.Kind.sound _ _ _ c.in_ok-c.ensures in
    (omega arith, omega arith)

pub overflow_sub-product-else-c-gt0 : goal.overflow_sub-product-else-c-gt0
overflow_sub-product-else-c-gt0 g c = zero_less_fits c.product-else-c-gt0-2.result c.product-else-c-gt0-2.ensures.bound

pub returns-then-c-eq0 : goal.returns-then-c-eq0
returns-then-c-eq0 g c =
    let Q = read _ _ g.met.Self.Kind.sound _ _ _ c.in_ok-c.ensures in
    let e : c.in_ok-c.c ≡ pos 0 = let f = Q.fit_a in omega (arith, ints) in
    divides_no _ g.Self.Kind.code _ _ _ _ _ _ (read _ _ g.met.Self.Kind.sound _ _ _ c.in_ok-a.ensures) Q e

pub returns-then-c-gt0 : goal.returns-then-c-gt0
returns-then-c-gt0 g c =
    let Q = read _ _ g.met.Self.Kind.sound _ _ _ c.in_ok-c.ensures in
    let sign : pos 1 ≤ℤ c.in_ok-c.c = let f = Q.fit_a in omega (arith, ints) in
    returns_div_pos _ g.Self.Kind.code _ _ _ _ _ _ (read _ _ g.met.Self.Kind.sound _ _ _ c.in_ok-a.ensures) Q _ _ _ sign
    c.product.ensures.bound c.product-then-c-gt0.ensures.bound c.product.ensures.value c.product-then-c-gt0.ensures.value c.take.ensures

pub returns-else-c-gt0 : goal.returns-else-c-gt0
returns-else-c-gt0 g c =
    let Q = read _ _ g.met.Self.Kind.sound _ _ _ c.in_ok-c.ensures in
    let sign : c.in_ok-c.c <ℤ pos 0 = let f = Q.fit_a in omega (arith, ints) in
    returns_div_neg _ g.Self.Kind.code _ _ _ _ _ _ (read _ _ g.met.Self.Kind.sound _ _ _ c.in_ok-a.ensures) Q _ _ _ sign
    c.product-else-c-gt0.ensures.bound c.product-else-c-gt0-2.ensures.bound c.product-else-c-gt0.ensures.value c.product-else-c-gt0-2.ensures.value c.take-else-c-gt0.ensures
