use Rattle.std.proofs.Common.{refl, ◌∙◌}
use Rattle.std.proofs.lemmas.Result.{err_from_is_err_and}
use Rattle.motion.specs.Pairs.{numbers_of}
use Rattle.checker.specs.Scripts.{lines_in}
use Rattle.bench.proofs.Numbered.{advance_fits}
use Rattle.bench.proofs.calls.advance_by.Goals as goal

pub returns-in_err-steps : goal.returns-in_err-steps
returns-in_err-steps g c =
    let p = err_from_is_err_and c.from_residual.result c.from_residual.ensures.1 in
    let few = c.fits.ensures.few c.if-not-fits.false in
    rw (p.1, p.2) (record {
      answer = c.in_err-steps.ensures.answer few.0 few.1
          ∙ advance_fits (numbers_of g.K.Kind.means g.K.Kind.code) (lines_in c.args.script.now) c.args.bench.now c.args.ticks c.args.allowance c.fits.result (c.fits.ensures.answer) c.if-not-fits.false;
      kept = refl;
      count = refl;
    })

pub returns : goal.returns
returns g c =
    let few = c.fits.ensures.few c.if-not-fits.false in
    record {
      answer = c.in_ok-steps.ensures.answer few.0 few.1
          ∙ advance_fits (numbers_of g.K.Kind.means g.K.Kind.code) (lines_in c.args.script.now) c.args.bench.now c.args.ticks c.args.allowance c.fits.result (c.fits.ensures.answer) c.if-not-fits.false;
      kept = tt;
      count = c.in_ok-steps.ensures.count;
    }
