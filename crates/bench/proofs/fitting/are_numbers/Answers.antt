use Rattle.std.proofs.Common.{sym, ◌∙◌}
use Rattle.motion.specs.Pairs.{numbers_of}
use Rattle.bench.proofs.Numbered.{numbers_turn, numbers_over, and_true, and_false}
use Rattle.bench.proofs.fitting.are_numbers.Goals as goal

pub returns-then-not-is_number : goal.returns-then-not-is_number
returns-then-not-is_number g c =
    let N = numbers_of g.K.Kind.means g.K.Kind.code in
    sym (c.loop-pair.invariant ∙ numbers_turn N c.args.pairs.now c.loop-pair.pair-index _ c.is_number.result c.loop-pair-test.true c.is_number.ensures ∙ and_false _ _ c.if-not-is_number.true)

pub loop-pair-preserved : goal.loop-pair-preserved
loop-pair-preserved g c =
    let N = numbers_of g.K.Kind.means g.K.Kind.code in
    c.loop-pair.invariant ∙ numbers_turn N c.args.pairs.now c.loop-pair.pair-index _ c.is_number.result c.loop-pair-test.true c.is_number.ensures ∙ and_true _ _ c.if-not-is_number.false

pub returns : goal.returns
returns g c = sym (c.loop-pair.invariant ∙ numbers_over (numbers_of g.K.Kind.means g.K.Kind.code) c.args.pairs.now c.loop-pair.pair-index c.loop-pair-test.false)
