-- Items as they stand on a line. Assumes nothing.
use Rattle.std.specs.Prelude.{◌≤◌, length}
use Rattle.postfix.specs.declared.expression.Expression.{Expression}

-- no more than a line has fields, at a field that a line can have
abbrev pub OnLine : Expression → Type 0
OnLine e = (length e.items.entries.now ≤ 18) × (e.field ≤ 1000)
