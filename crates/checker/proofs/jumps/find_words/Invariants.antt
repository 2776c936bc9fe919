use Rattle.std.proofs.Common.{◌≡◌, ◌≤◌, map, length, take}
use Rattle.entries.specs.declared.rows.Row.{Row}
use Rattle.checker.proofs.jumps.find_words.Given as goal

abbrev pub invariant-loop-i : goal.invariant-loop-i
invariant-loop-i l = (256 ≤ length l.words) × (take l.i l.words ≡ map (λ (x : Row). x.word) (take l.i l.rows))
