use Rattle.std.proofs.Common.{◌≡◌, ◌+◌, map, length}
use Rattle.script.specs.Places.{places}
use Rattle.script.specs.Scan.{cell_at, scan, line_check}
use Rattle.script.proofs.Ahead.{ahead}
use Rattle.script.proofs.checks.check_lines.Given as goal

abbrev pub invariant-loop-field : goal.invariant-loop-field
invariant-loop-field l =
    (l.field-iterator.text.now ≡ l.text) ×
    (line_check l.text ≡ scan l.line l.fields (map (cell_at l.text) (ahead l.text l.field-iterator))) ×
    (l.fields + length (ahead l.text l.field-iterator) ≡ length (places l.text))

abbrev pub decreases-loop-field : goal.decreases-loop-field
decreases-loop-field l = length (ahead l.text l.field-iterator)
