-- The line, or nothing.
use Rattle.std.proofs.Common.{sym, ◌∙◌, subst, arith}
use Rattle.handover.specs.Laws.{Writes}
use Rattle.handover.proofs.Lawful.{writes_line, writes_nothing}
use Rattle.handover.proofs.writing.write.Goals as goal

pub returns-in_err-text : goal.returns-in_err-text
returns-in_err-text g c =
    subst (λ r. Writes g.K.Kind.means c.args.bench.now c.args.buffer.now r c.args.buffer.now) (sym c.from_residual.ensures) (writes_nothing g.K.Kind.means c.args.bench.now c.args.buffer.now c.in_err-text.ensures)

pub returns : goal.returns
returns g c =
    let text = c.in_ok-text.ensures in
    writes_line g.K.Kind.means c.args.bench.now c.args.buffer.now c.in_ok-text.text.bytes _ _ text.0 text.1 c.len-size.ensures.value (omega arith) (c.copy_from_slice.ensures.after ∙ c.as_bytes.ensures.value ∙ c.deref.ensures.0)
