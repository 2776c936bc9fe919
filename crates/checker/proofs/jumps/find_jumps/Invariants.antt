use Rattle.std.proofs.Common.{◌≡◌, ℕ, ◌<◌, ◌≤◌, List, length, Option}
use Rattle.script.specs.declared.reading.Entry.{Entry}
use Rattle.motion.specs.NextLine.{onward}
use Rattle.entries.specs.Decoding.{rows_lines}
use Rattle.checker.specs.Jumps.{jump_at}
use Rattle.checker.proofs.jumps.find_jumps.Given as goal

abbrev pub invariant-loop-n : goal.invariant-loop-n
invariant-loop-n l =
    (257 ≤ length l.behind) ×
    ((es : List Entry) (xs : List (Option ℕ)) (k : ℕ) → k < l.n → ((jump_at (record { behind = l.behind }) k).next ≡ onward 0 (rows_lines es xs l.rows) k) × ((jump_at (record { behind = l.behind }) k).past ≡ onward 1 (rows_lines es xs l.rows) k))
