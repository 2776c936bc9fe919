use Rattle.std.proofs.Common.{refl}
use Rattle.script_cases.proofs.examples.Goals as goal

pub returns : goal.returns
returns c = (refl, refl, refl, refl, refl, refl, refl, refl, refl)
