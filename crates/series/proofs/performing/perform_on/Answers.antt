use Rattle.std.proofs.Common.{◌<◌, List, length, take, sym, refl, ◌∙◌, subst, arith}
use Rattle.std.proofs.lemmas.List.{take_more_set, take_all}
use Rattle.checker.specs.Scripts.{lines_in, variable_in}
use Rattle.record.specs.Benches.{bench_of}
use Rattle.bench.proofs.First.{values_held}
use Rattle.series.specs.declared.calls.Step.{Step}
use Rattle.series.specs.Series.{Performed}
use Rattle.series.proofs.Along.{calls_same, performed_none, sound_more}
use Rattle.checker.proofs.Sound.{sound}
use Rattle.series.proofs.performing.perform_on.Goals as goal

pub loop-i-init : goal.loop-i-init
loop-i-init g c = (
  c.build-bench.ensures.few,
  refl,
  let h = sound c.args.script.now in performed_none g.K.Kind.means g.K.Kind.code (lines_in c.args.script.now) (variable_in c.args.script.now) (values_held c.args.script.now g.K.Kind.means g.K.Kind.code h g.met.K.Kind.sound) (bench_of c.build-bench.result) (c.build-bench.ensures.new),
)

pub loop-i-preserved : goal.loop-i-preserved
loop-i-preserved g c =
    let s = c.args.script.now in
    let steps = c.loop-i.steps in
    let at = c.loop-i.i in
    let within : at < length steps = omega (arith, c.loop-i-test.true, c.loop-i.auto.steps) in (
      c.perform_call-reply.ensures.few c.loop-i.invariant.0,
      calls_same steps at _ _ refl within ∙ c.loop-i.invariant.1,
      let h = sound c.args.script.now in subst (λ (us : List Step). Performed g.K.Kind.means g.K.Kind.code (lines_in s) (variable_in s) us (bench_of c.perform_call-reply.new.bench)) (sym (take_more_set steps at _ within))
          (sound_more s g.K.Kind.means g.K.Kind.code g.met.K.Kind.sound h (take at steps) (bench_of c.loop-i.bench) (bench_of c.perform_call-reply.new.bench) _ c.perform_call-reply.result (c.loop-i.invariant.2) (c.perform_call-reply.ensures.replies c.loop-i.invariant.0)),
    )

pub returns : goal.returns
returns g c =
    let s = c.args.script.now in
    record {
      performed = let h = sound c.args.script.now in subst (λ (us : List Step). Performed g.K.Kind.means g.K.Kind.code (lines_in s) (variable_in s) us (bench_of c.loop-i.bench)) (take_all c.loop-i.i c.loop-i.steps (omega (arith, c.loop-i-test.false, c.loop-i.auto.steps))) (c.loop-i.invariant.2);
      calls = c.loop-i.invariant.1;
    }
