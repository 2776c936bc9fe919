use Rattle.entries.proofs.Worked.{items_sorted}
use Rattle.entries.proofs.items_sorted.Goals as goal

pub returns : goal.returns
returns g c = items_sorted _
