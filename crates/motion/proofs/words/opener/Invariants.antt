use Rattle.std.proofs.Common.{◌≡◌, ◌+◌, ◌≤◌, List, [], map, drop}
use Rattle.motion.specs.Lines.{Line}
use Rattle.motion.specs.NextLine.{opens}
use Rattle.motion.specs.LineWords.{word_of, back_to}
use Rattle.motion.proofs.words.opener.Given as goal

abbrev pub invariant-loop-j : goal.invariant-loop-j
invariant-loop-j l = (l.j + l.closed ≤ l.i) × ((all : List Line) → l.words ≡ map word_of all → back_to (drop l.closed (opens [] 1 l.j all)) ≡ back_to (opens [] 1 l.i all))
