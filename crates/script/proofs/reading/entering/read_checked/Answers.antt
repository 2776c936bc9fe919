-- The draft's text passed both checks.
use Rattle.std.proofs.Common.{sym, ◌∙◌}
use Rattle.script.proofs.Verdict.{ordered}
use Rattle.script.proofs.reading.entering.read_checked.Goals as goal

pub invariant_of-result : goal.invariant_of-result
invariant_of-result c = record {
  in_order = ordered c.args.text.now _ _ (sym c.check_text.ensures ∙ c.in_ok-lines.was) (sym c.check_lines.ensures.answer ∙ c.in_ok-fields.was);
}
