use Rattle.std.proofs.Common.{ℕ, List, refl, ap, ◌∙◌}
use Rattle.std.proofs.lemmas.Result.{err_from_is_err_and}
use Rattle.motion.specs.Pairs.{numbers_of}
use Rattle.checker.specs.Scripts.{lines_in}
use Rattle.record.specs.Benches.{bench_of}
use Rattle.handover.specs.Takes.{taken_up}
use Rattle.bench.specs.Calls.{settled}
use Rattle.running.proofs.Lookups.{from_first}
use Rattle.series.specs.Series.{handed}
use Rattle.series.proofs.Replied.{write_same, hand_same, hand_never}
use Rattle.checker.proofs.Sound.{sound}
use Rattle.series.proofs.calls.hand_over_with.Goals as goal

pub returns-in_err-next : goal.returns-in_err-next
returns-in_err-next g c =
    let p = err_from_is_err_and c.from_residual-in_err-next.result c.from_residual-in_err-next.ensures.1 in
    let s = c.args.script.now in
    rw (p.1, p.2) (record {
      answer = λ few. absurd (
          hand_never (bench_of c.args.bench.now) c.in_err-next.field-0.0 _ (c.in_err-next.ensures.answer)
          (ap (λ (l : List ℕ). settled (numbers_of g.K.Kind.means g.K.Kind.code) (lines_in s) (taken_up g.K.Kind.means g.K.Kind.code l)) (c.between.ensures ∙ from_first c.in_ok-size.size c.write.new.buffer) ∙ (c.in_ok-size.ensures.back).1));
      same = let h = sound c.args.script.now in refl;
      few = λ few. few;
    })

pub returns : goal.returns
returns g c =
    let s = c.args.script.now in
    record {
      answer = λ few. ap handed (c.in_ok-size.ensures.answer ∙ write_same g.K.Kind.means g.K.Kind.code (lines_in s) c.args.bench.now few c.args.buffer.now);
      same = let h = sound c.args.script.now in hand_same (bench_of c.args.bench.now) (bench_of c.in_ok-next.next) _ (c.in_ok-next.ensures.answer)
          (ap (λ (l : List ℕ). settled (numbers_of g.K.Kind.means g.K.Kind.code) (lines_in s) (taken_up g.K.Kind.means g.K.Kind.code l)) (c.between.ensures ∙ from_first c.in_ok-size.size c.write.new.buffer) ∙ (c.in_ok-size.ensures.back).1);
      few = λ few. c.in_ok-next.ensures.few;
    }
