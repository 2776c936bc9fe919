use Rattle.std.proofs.Common.{w64, SFits, rules}
use Rattle.running.proofs.Lookups.{cast_fits, terms_small}
use Rattle.running.proofs.lines.ticks_of.Goals as goal

pub overflow_cast-result : goal.overflow_cast-result
overflow_cast-result g c =
    let f : SFits w64 c.in-Ok.n = search rules in
    cast_fits c.in-Ok.n f (terms_small g.met.K.Kind.sound c.args.q c.in-Ok.n c.in-Ok.d c.in-Ok.ensures) c.if-n-ge0.true
