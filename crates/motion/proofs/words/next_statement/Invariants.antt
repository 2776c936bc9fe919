use Rattle.std.proofs.Common.{◌≡◌, ◌-◌, ◌≤◌, List, map, length}
use Rattle.motion.specs.Lines.{Line}
use Rattle.motion.specs.NextLine.{onward}
use Rattle.motion.specs.LineWords.{word_of}
use Rattle.motion.proofs.words.next_statement.Given as goal

abbrev pub invariant-loop-i : goal.invariant-loop-i
invariant-loop-i l = (l.from ≤ length l.words → l.i ≤ length l.words) × ((all : List Line) → l.words ≡ map word_of all → onward 0 all l.i ≡ onward 0 all l.from)

abbrev pub decreases-loop-i : goal.decreases-loop-i
decreases-loop-i l = length l.words - l.i
