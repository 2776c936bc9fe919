use Rattle.checker.proofs.Sound.{sound, laid_out}
use Rattle.checker.proofs.checking.scripts_laid.Goals as goal

pub returns : goal.returns
returns g c = record { sound = sound c.args.script.now; laid = laid_out c.args.script.now }
