use Rattle.std.proofs.Common.{◌≡◌, length, take, refl, arith, length-append, length-take-le}
use Rattle.std.proofs.KnownBytes.{Consumes-nil}
use Rattle.whole_input.proofs.Filled.{read_behind}
use Rattle.whole_input.proofs.fill.Goals as goal

pub loop-n-init : goal.loop-n-init
loop-n-init g c = record { within = omega arith; given = Consumes-nil _ }

pub loop-n-preserved : goal.loop-n-preserved
loop-n-preserved g c =
    let read = c.in_ok-more.ensures in
    let before = c.loop-n.invariant in
    let front : length (take c.loop-n.n c.loop-n.buffer) ≡ c.loop-n.n = length-take-le _ _ before.within in
    record {
      within = simp length-append (omega arith);
      given = read_behind _ _ _ (take c.loop-n.n c.loop-n.buffer) c.read.new.buf _ c.loop-n.n c.in_ok-more.more _ front refl read.bound.0 before.given read.bytes.0;
    }
