-- One value more, behind a text that stays short.
use Rattle.std.proofs.Common.{arith}
use lib.Utf8.{encode}
use Rattle.handover.proofs.Lawful.{text_short}
use Rattle.handover.proofs.writing.line_text.Goals as goal

pub push_value-requires : goal.push_value-requires
push_value-requires g c =
    omega (arith, text_short g.K.Kind.means g.K.Kind.code g.met.K.Kind.sound c.head-text.result.bytes c.loop-value.text.bytes c.in_ok-values.values.now c.loop-value.value-index (omega arith) c.loop-value.invariant.0, c.in_ok-values.ensures.lookup)

pub push-requires : goal.push-requires
unfolding encode
push-requires g c =
    (omega arith, omega (arith, text_short g.K.Kind.means g.K.Kind.code g.met.K.Kind.sound c.head-text.result.bytes c.loop-value.text.bytes c.in_ok-values.values.now c.loop-value.value-index (omega arith) c.loop-value.invariant.0, c.in_ok-values.ensures.lookup))
