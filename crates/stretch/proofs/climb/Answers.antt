use Rattle.std.proofs.Common.{ℕ, subst, ◌≤◌, ◌≡◌, length, sym, ap, ◌∙◌, arith, rules, length-set}
use Rattle.std.proofs.lemmas.Grind.{common_steps}
use Rattle.std.specs.Result.{result_ok}
use Rattle.std.specs.Slice.Iter.{iter_rest}
use Rattle.std.specs.Iterator.Adapters.{zip_first, zip_second, enumerate_source, enumerate_count}
use Rattle.motion.specs.Pairs.{numbers_of}
use Rattle.record.specs.Benches.{pairs_of}
use Rattle.stretch.proofs.Flowing.{counts_more, climb_start, climb_turn}
use Rattle.stretch.proofs.Kept.{ok_stepped}
use Rattle.stretch.proofs.climb.Goals as goal

pub loop-i-init : goal.loop-i-init
loop-i-init g c =
    let none : enumerate_count c.into_iter-i-iterator.result ≡ 0 = grind (arith, common_steps) in
    let first : iter_rest (zip_first (enumerate_source c.into_iter-i-iterator.result)) ≡ pairs_of c.args.d.now = grind (arith, common_steps) in
    let second : iter_rest (zip_second (enumerate_source c.into_iter-i-iterator.result)) ≡ pairs_of c.args.r.now = grind (arith, common_steps) in
    let values : length (pairs_of c.args.d.now) ≡ c.args.d.now.count = sym (ap length c.as_slice-values.ensures.values) ∙ c.as_slice-values.ensures.len c.requires.few in
    let rates : length (pairs_of c.args.r.now) ≡ c.args.r.now.count = sym (ap length c.as_slice-rates.ensures.values) ∙ c.as_slice-rates.ensures.len (subst (λ (n : ℕ). n ≤ 16) (sym c.requires.same) c.requires.few) in (
      grind (arith, common_steps),
      grind (arith, common_steps),
      search rules,
      omega (arith, none, ap length first, values),
      omega (arith, ap length first, ap length second, values, rates, c.requires.same),
      climb_start (numbers_of g.K.Kind.means g.K.Kind.code) c.args.n c.args.k c.into_iter-i-iterator.result (pairs_of c.args.d.now) (pairs_of c.args.r.now) _ none first second,
    )

pub loop-i-preserved : goal.loop-i-preserved
loop-i-preserved g c =
    let i = c.loop-i.invariant in
    let t = counts_more c.loop-i.i-iterator c.next.new.self c.next.result (c.in-Some.i, (c.in-Some.field-0-1-0, c.in-Some.field-0-1-1)) c.in-Some.is c.next.ensures.steps in (
      grind (arith, common_steps),
      grind (arith, common_steps),
      simp length-set i.2,
      omega (arith, i.3, t.2, ap length t.0.0),
      omega (arith, i.4, ap length t.0.0, ap length t.0.1),
      i.5 ∙ climb_turn (numbers_of g.K.Kind.means g.K.Kind.code) c.args.n c.args.k c.loop-i.i-iterator c.next.new.self c.next.result (c.in-Some.i, (c.in-Some.field-0-1-0, c.in-Some.field-0-1-1)) c.loop-i.pairs _ c.in-Some.is c.next.ensures.steps (omega (arith, i.2, i.3, c.requires.few, ap length t.0.0)) (c.in_ok-pairs.ensures.value ∙ ap result_ok c.step.ensures ∙ ok_stepped g.K.Kind.means g.K.Kind.code _ _ c.args.n c.args.k),
    )
