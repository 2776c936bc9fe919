use Rattle.std.proofs.Common.{refl}
use Rattle.marked.proofs.Computed.{computed}
use Rattle.marked.proofs.marked_runs.Goals as goal

pub returns : goal.returns
returns c = record { texts = (refl, refl, refl, refl); runs = computed }
