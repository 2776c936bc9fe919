use Rattle.motion.proofs.Promise.{promise_kept, kinds_agree}
use Rattle.motion.proofs.kinds_of_a_program.Goals as goal

pub returns : goal.returns
returns g c = record {
  first = promise_kept _ _ g.met.K.Kind.sound;
  second = promise_kept _ _ g.met.L.Kind.sound;
  agree = kinds_agree _ _ _ _ g.met.K.Kind.sound g.met.L.Kind.sound;
}
