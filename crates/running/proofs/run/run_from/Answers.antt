use Rattle.std.proofs.Common.{◌≡◌, ℕ, ◌+◌, ◌-◌, IfOk, Ok, sym, ap, ◌∙◌, subst, arith}
use Rattle.std.proofs.lemmas.Result.{err_from_is_err_and}
use Rattle.motion.specs.Pairs.{numbers_of}
use Rattle.motion.specs.Machine as M
use Rattle.checker.specs.Scripts.{lines_in}
use Rattle.record.specs.Refusals.{number_of}
use Rattle.record.specs.Benches.{pairs_of}
use Rattle.running.specs.declared.steps.Outcome.{Outcome}
use Rattle.running.specs.Steps.{seen_place, seen_step, Keeps}
use Rattle.running.proofs.Looped.{loop_ended, loop_done, loop_go, loop_stop, loop_fail}
use Rattle.running.proofs.run.run_from.Goals as goal

pub returns-then-is_ended : goal.returns-then-is_ended
returns-then-is_ended g c =
    let N = numbers_of g.K.Kind.means g.K.Kind.code in
    let s = c.args.start.now.script.now in
    record {
      answer = c.finish.ensures.answer ∙ sym (c.loop-i.invariant.1 ∙ loop_ended N (lines_in s) c.args.total (c.args.allowance - c.loop-i.i) c.loop-i.i (pairs_of c.loop-i.values) c.loop-i.ticks (seen_place c.loop-i.standing) c.if-is_ended.ensures);
      count = subst (λ (k : ℕ). IfOk c.finish.result (λ p. p.1.values.count ≡ k)) c.loop-i.invariant.0 c.finish.ensures.count;
    }

pub returns-in_err-line : goal.returns-in_err-line
returns-in_err-line g c =
    let N = numbers_of g.K.Kind.means g.K.Kind.code in
    let s = c.args.start.now.script.now in
    let p = err_from_is_err_and c.from_residual.result c.from_residual.ensures.1 in
    let x = c.in_err-line.field-0.0 in
    rw (p.1, p.2) (record {
      answer = sym (c.loop-i.invariant.1 ∙ loop_fail N (lines_in s) c.args.total c.args.allowance c.loop-i.i (pairs_of c.loop-i.values) c.loop-i.ticks (seen_place c.loop-i.standing) c.loop-i-test.true c.if-is_ended.ensures (number_of x.reason) x.line x.field (c.in_err-line.ensures.step));
      count = tt;
    })

pub returns-in-Stop : goal.returns-in-Stop
returns-in-Stop g c =
    let N = numbers_of g.K.Kind.means g.K.Kind.code in
    let s = c.args.start.now.script.now in
    record {
      answer =
          let q = ap (λ (o : Outcome). seen_step (Ok o)) (sym c.in-Stop.is) ∙ c.in_ok-line.ensures.step in
          sym (c.loop-i.invariant.1 ∙ loop_stop N (lines_in s) c.args.total c.args.allowance c.loop-i.i (pairs_of c.loop-i.values) c.loop-i.ticks (seen_place c.loop-i.standing) c.loop-i-test.true c.if-is_ended.ensures c.in-Stop.line c.in-Stop.left (pairs_of c.in-Stop.values) q);
      count = subst (Keeps c.loop-i.values.count) c.in-Stop.is c.in_ok-line.ensures.kept ∙ c.loop-i.invariant.0;
    }

pub loop-i-preserved : goal.loop-i-preserved
loop-i-preserved g c =
    let N = numbers_of g.K.Kind.means g.K.Kind.code in
    let s = c.args.start.now.script.now in (
      subst (Keeps c.loop-i.values.count) c.in-Go.is c.in_ok-line.ensures.kept ∙ c.loop-i.invariant.0,
      let q = ap (λ (o : Outcome). seen_step (Ok o)) (sym c.in-Go.is) ∙ c.in_ok-line.ensures.step in
          c.loop-i.invariant.1
          ∙ loop_go N (lines_in s) c.args.total c.args.allowance c.loop-i.i (pairs_of c.loop-i.values) c.loop-i.ticks (seen_place c.loop-i.standing) c.loop-i-test.true c.if-is_ended.ensures c.in-Go.line (pairs_of c.in-Go.after) c.in-Go.rest q
          ∙ ap (λ (p : M.Place). M.loop N (lines_in s) c.args.total (c.args.allowance - (c.loop-i.i + 1)) (c.loop-i.i + 1) (pairs_of c.in-Go.after) c.in-Go.rest p) (sym (c.standing_at-standing.ensures)),
    )

pub returns : goal.returns
returns g c =
    let N = numbers_of g.K.Kind.means g.K.Kind.code in
    let s = c.args.start.now.script.now in
    record {
      answer = c.finish-2.ensures.answer ∙ sym (c.loop-i.invariant.1 ∙ loop_done N (lines_in s) c.args.total c.args.allowance c.loop-i.i (pairs_of c.loop-i.values) c.loop-i.ticks (seen_place c.loop-i.standing) (omega arith));
      count = subst (λ (k : ℕ). IfOk c.finish-2.result (λ p. p.1.values.count ≡ k)) c.loop-i.invariant.0 c.finish-2.ensures.count;
    }
