use Rattle.std.proofs.Common.{◌≡◌, drop}
use Rattle.motion.specs.NextLine.{rates}
use Rattle.motion.specs.Flow as F
use Rattle.entries.specs.Decoding.{lines_over}
use Rattle.stretch.specs.Flows.{rates_in}
use Rattle.stretch.proofs.rates.Rates.parts.Given as goal

abbrev pub invariant-loop-row : goal.invariant-loop-row
invariant-loop-row l = F.parts_of l.x (rates_in l.self) ≡ F.parts_of l.x (rates (lines_over l.self.entries (drop l.row-index l.row-items)))
