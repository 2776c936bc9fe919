use Rattle.std.proofs.Common.{length, unwrap_or, ap, ◌∙◌}
use Rattle.checker.proofs.Splits.{next_line_is}
use Rattle.checker.proofs.line_ends.rest_of_line.Goals as goal

pub returns-clause-end : goal.returns-clause-end
returns-clause-end c = c.unwrap_or.ensures ∙ ap (λ o. unwrap_or o (length c.args.entries.now)) c.next_line.ensures ∙ next_line_is c.args.entries.now
