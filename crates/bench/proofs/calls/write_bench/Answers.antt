use Rattle.std.proofs.Common.{Err, sym, ap, ◌∙◌}
use Rattle.motion.specs.Pairs.{numbers_of}
use Rattle.checker.specs.Scripts.{lines_in}
use Rattle.record.specs.Benches.{bench_of}
use Rattle.handover.specs.Lines.{line_of, copied}
use Rattle.bench.specs.Calls.{fitting, written, unfit}
use Rattle.bench.proofs.First.{lines_few, values_few}
use Rattle.bench.proofs.Fitted.{fits_written}
use Rattle.bench.proofs.Called.{on_fit, wrote, wrote_none}
use Rattle.checker.proofs.Sound.{sound}
use Rattle.bench.proofs.calls.write_bench.Goals as goal

pub returns-in-Some : goal.returns-in-Some
returns-in-Some g c =
    let s = c.args.script.now in
    let b = c.args.bench.now in
    let old = c.args.buffer.now in
    let l = line_of g.K.Kind.means (bench_of b) in
    let f = fitting (numbers_of g.K.Kind.means g.K.Kind.code) (lines_in s) b in
    record {
      answer = let h = sound c.args.script.now in
          let can = (fits_written g.K.Kind.means g.K.Kind.code (lines_in s) (lines_few s g.K.Kind.means g.K.Kind.code h) (values_few s g.K.Kind.means g.K.Kind.code h) b (sym (c.fits.ensures.answer) ∙ c.if-not-fits.false)).0 in
          (wrote g.K.Kind.means b old can c.in-Some.size _ c.in-Some.ensures.writes).0 ∙ on_fit c.fits.result f (written l old) unfit (c.fits.ensures.answer) c.if-not-fits.false;
      bytes = let h = sound c.args.script.now in
          let can = (fits_written g.K.Kind.means g.K.Kind.code (lines_in s) (lines_few s g.K.Kind.means g.K.Kind.code h) (values_few s g.K.Kind.means g.K.Kind.code h) b (sym (c.fits.ensures.answer) ∙ c.if-not-fits.false)).0 in
          (wrote g.K.Kind.means b old can c.in-Some.size _ c.in-Some.ensures.writes).1 ∙ on_fit c.fits.result f (copied l old) old (c.fits.ensures.answer) c.if-not-fits.false;
    }

pub returns-in-None : goal.returns-in-None
returns-in-None g c =
    let s = c.args.script.now in
    let b = c.args.bench.now in
    let old = c.args.buffer.now in
    let l = line_of g.K.Kind.means (bench_of b) in
    let f = fitting (numbers_of g.K.Kind.means g.K.Kind.code) (lines_in s) b in
    record {
      answer = let h = sound c.args.script.now in
          let can = (fits_written g.K.Kind.means g.K.Kind.code (lines_in s) (lines_few s g.K.Kind.means g.K.Kind.code h) (values_few s g.K.Kind.means g.K.Kind.code h) b (sym (c.fits.ensures.answer) ∙ c.if-not-fits.false)).0 in
          ap Err c.refuse-in-None.ensures ∙ (wrote_none g.K.Kind.means b old can _ c.in-None.ensures.writes).0 ∙ on_fit c.fits.result f (written l old) unfit (c.fits.ensures.answer) c.if-not-fits.false;
      bytes = let h = sound c.args.script.now in
          let can = (fits_written g.K.Kind.means g.K.Kind.code (lines_in s) (lines_few s g.K.Kind.means g.K.Kind.code h) (values_few s g.K.Kind.means g.K.Kind.code h) b (sym (c.fits.ensures.answer) ∙ c.if-not-fits.false)).0 in
          (wrote_none g.K.Kind.means b old can _ c.in-None.ensures.writes).1 ∙ on_fit c.fits.result f (copied l old) old (c.fits.ensures.answer) c.if-not-fits.false;
    }
