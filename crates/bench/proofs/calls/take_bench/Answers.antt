use Rattle.std.proofs.Common.{Bool, cond, Ok, Err, sym, ap, ◌∙◌}
use Rattle.handover.specs.Takes.{taken_up}
use Rattle.checker.specs.Scripts.{lines_in}
use Rattle.record.specs.Benches.{bench_of}
use Rattle.bench.specs.Calls.{unfit}
use Rattle.bench.proofs.First.{lines_few, values_few}
use Rattle.bench.proofs.Called.{settles}
use Rattle.checker.proofs.Sound.{sound}
use Rattle.bench.proofs.calls.take_bench.Goals as goal

pub returns-then-fits : goal.returns-then-fits
returns-then-fits g c = record {
  few = c.in_ok-bench.ensures.few;
  answer = let h = sound c.args.script.now in
      let s = c.args.script.now in
      let b = c.in_ok-bench.bench in
      sym (ap (λ (x : Bool). cond x (Ok (bench_of b)) unfit) c.if-fits.true)
      ∙ settles g.K.Kind.means g.K.Kind.code g.met.K.Kind.sound (lines_in s) (lines_few s g.K.Kind.means g.K.Kind.code h) (values_few s g.K.Kind.means g.K.Kind.code h) b (taken_up g.K.Kind.means g.K.Kind.code c.args.line.now) c.fits.result c.in_ok-bench.ensures.value c.in_ok-bench.ensures.few (c.fits.ensures.answer);
}

pub returns-else-fits : goal.returns-else-fits
returns-else-fits g c = record {
  few = tt;
  answer = let h = sound c.args.script.now in
      let s = c.args.script.now in
      let b = c.in_ok-bench.bench in
      ap Err c.refuse.ensures
      ∙ sym (ap (λ (x : Bool). cond x (Ok (bench_of b)) unfit) c.if-fits.false)
      ∙ settles g.K.Kind.means g.K.Kind.code g.met.K.Kind.sound (lines_in s) (lines_few s g.K.Kind.means g.K.Kind.code h) (values_few s g.K.Kind.means g.K.Kind.code h) b (taken_up g.K.Kind.means g.K.Kind.code c.args.line.now) c.fits.result c.in_ok-bench.ensures.value c.in_ok-bench.ensures.few (c.fits.ensures.answer);
}
