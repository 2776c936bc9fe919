use Rattle.std.proofs.Common.{◌≡◌, suc, ◌+◌, ◌≤◌, List, map, length}
use Rattle.motion.specs.Lines.{Line}
use Rattle.motion.specs.NextLine.{onward}
use Rattle.motion.specs.LineWords.{word_of}
use Rattle.motion.proofs.words.leave_block.Given as goal

abbrev pub invariant-loop-i : goal.invariant-loop-i
invariant-loop-i l = (l.from + l.opened ≤ l.i) × (l.i ≤ length l.words) × ((all : List Line) → l.words ≡ map word_of all → onward (suc l.opened) all l.i ≡ onward 1 all l.from)
