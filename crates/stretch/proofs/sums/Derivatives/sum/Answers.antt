use Rattle.std.proofs.Common.{◌∙◌, arith}
use Rattle.motion.specs.Pairs.{numbers_of}
use Rattle.record.specs.Benches.{pairs_of}
use Rattle.stretch.proofs.Flowing.{pairs_more, sum_turn}
use Rattle.stretch.proofs.sums.Derivatives.sum.Goals as goal

pub loop-fields-preserved : goal.loop-fields-preserved
loop-fields-preserved g c =
    let i = c.loop-fields.invariant in
    let t = pairs_more c.loop-fields.fields-iterator c.next.new.self c.next.result (c.in-Some.fields, c.in-Some.places) c.in-Some.is c.next.ensures.steps in
    let m = t.0.0 ∙ i.2 in
    let n = t.1.0 ∙ i.3 in (
      (omega (arith, m), omega (arith, n)),
      tt,
      m,
      n,
      i.4 ∙ sum_turn (numbers_of g.K.Kind.means g.K.Kind.code) c.args.self.now.first (pairs_of c.args.self.now.values) c.loop-fields.acc c.loop-fields.fields-iterator c.next.new.self c.next.result (c.in-Some.fields, c.in-Some.places) _ _ _ _ i.2 i.3 c.in-Some.is c.next.ensures.steps c.in_ok-acc.ensures,
    )
