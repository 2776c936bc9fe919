use Rattle.std.proofs.Common.{◌∙◌, arith, length-set}
use Rattle.motion.specs.Pairs.{numbers_of}
use Rattle.record.specs.Benches.{pairs_of}
use Rattle.stretch.specs.Flows.{rates_in}
use Rattle.stretch.proofs.Flowing.{next_more}
use Rattle.stretch.proofs.sums.Derivatives.next.Goals as goal

pub loop-x-preserved : goal.loop-x-preserved
loop-x-preserved g c = record {
  room = simp length-set c.loop-x.invariant.room;
  rest = c.loop-x.invariant.rest ∙ next_more (numbers_of g.K.Kind.means g.K.Kind.code) c.args.self.now.first (rates_in c.args.rates.now) (pairs_of c.args.self.now.values) c.loop-x.pair-items c.loop-x.x _ _ (omega (arith, c.loop-x-test.true, c.loop-x.invariant.room)) (omega (arith, c.loop-x-test.true, c.loop-x.invariant.room)) c.in_ok-pair.ensures;
}
