use Rattle.std.proofs.Common.{◌≡◌}
use Rattle.entries.specs.Fields.{lines}
use Rattle.checker.specs.Conditions.{lines_check, at_first}
use Rattle.checker.proofs.lines.check_lines.Given as goal

abbrev pub invariant-loop-line : goal.invariant-loop-line
invariant-loop-line g l =
    lines_check g.K.Kind.means g.K.Kind.code l.text at_first (lines l.table) ≡ lines_check g.K.Kind.means g.K.Kind.code l.text l.past (lines l.line-iterator.0.now)
