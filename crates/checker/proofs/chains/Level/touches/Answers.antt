use Rattle.std.proofs.Common.{length, sym, ap, ◌∙◌, arith, length-append, rules}
use Rattle.std.specs.Iterator.Adapters.{zip_first, zip_second}
use Rattle.std.specs.Slice.Iter.{chunks_exact_rest}
use Rattle.entries.proofs.Turns.{or_true, or_false}
use Rattle.checker.proofs.Marked.{touch_two}
use Rattle.checker.proofs.chains.Level.touches.Goals as goal

pub returns-then-has : goal.returns-then-has
returns-then-has c = λ level m.
    let s = c.in-Some.ensures.steps in
    let t = c.loop-part.part-iterator in
    let u = c.next.new.self in
    sym (
    c.loop-part.invariant.touch level m
    ∙ touch_two level c.has.result (chunks_exact_rest (zip_first t)) (chunks_exact_rest (zip_first u)) c.in-Some.part.now (chunks_exact_rest (zip_second t)) (chunks_exact_rest (zip_second u)) c.in-Some.place.now _ _ s.0.1.0 s.1.1.0 (s.0.1.1 ∙ c.loop-part.invariant.first_two) (s.1.1.1 ∙ c.loop-part.invariant.second_two) (c.has.ensures level m)
    ∙ or_true _ _ c.if-has.true
    )

pub loop-part-preserved : goal.loop-part-preserved
loop-part-preserved c =
    let s = c.in-Some.ensures.steps in
    let t = c.loop-part.part-iterator in
    let u = c.next.new.self in
    record {
      can = search rules;
      finite = search rules;
      first_two = search rules;
      second_two = search rules;
      alike = omega (
        arith,
        c.loop-part.invariant.alike,
        ap length s.0.1.0,
        ap length s.1.1.0,
        length-append c.in-Some.part.now (chunks_exact_rest (zip_first u)),
        length-append c.in-Some.place.now (chunks_exact_rest (zip_second u)),
        s.0.1.1,
        s.1.1.1,
        c.loop-part.invariant.first_two,
        c.loop-part.invariant.second_two,
      );
      touch = λ level m.
          c.loop-part.invariant.touch level m
          ∙ touch_two level c.has.result (chunks_exact_rest (zip_first t)) (chunks_exact_rest (zip_first u)) c.in-Some.part.now (chunks_exact_rest (zip_second t)) (chunks_exact_rest (zip_second u)) c.in-Some.place.now _ _ s.0.1.0 s.1.1.0 (s.0.1.1 ∙ c.loop-part.invariant.first_two) (s.1.1.1 ∙ c.loop-part.invariant.second_two) (c.has.ensures level m)
          ∙ or_false _ _ c.if-has.false;
    }
