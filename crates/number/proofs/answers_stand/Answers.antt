-- The answers of a kind.
use Rattle.number.proofs.Stand.{answers}
use Rattle.number.proofs.answers_stand.Goals as goal

pub returns : goal.returns
returns g c = answers g.K.Kind.means g.K.Kind.code g.met.K.Kind.sound
