use Rattle.std.proofs.Common.{◌≡◌, ◌+◌, ◌≤◌, ◌++◌, length, take}
use Rattle.entries.specs.Fields.{lines}
use Rattle.entries.specs.Decoding.{rows_from}
use Rattle.checker.proofs.rows.find_rows.Given as goal

abbrev pub invariant-loop-line : goal.invariant-loop-line
invariant-loop-line l =
    (l.count ≤ 256) × (256 ≤ length l.rows) × (l.at + length l.line-iterator.0.now ≡ length l.table) ×
    (take l.count l.rows ++ rows_from l.names.text.now l.names.places.now l.at (lines l.line-iterator.0.now) ≡ rows_from l.names.text.now l.names.places.now 0 (lines l.table)) ×
    (l.count + length (lines l.line-iterator.0.now) ≡ length (lines l.table))
