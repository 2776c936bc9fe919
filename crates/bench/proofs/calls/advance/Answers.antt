use Rattle.std.proofs.Common.{sym, subst}
use Rattle.checker.specs.Scripts.{lines_in}
use Rattle.bench.specs.Laws.{AdvancesOnCurve, AdvanceTold, Lasts}
use Rattle.bench.proofs.Promised.{sound_curve, advance_told, lasts}
use Rattle.checker.proofs.Sound.{sound}
use Rattle.bench.proofs.calls.advance.Goals as goal

pub returns : goal.returns
returns g c =
    let s = c.args.script.now in
    let b = c.args.bench.now in
    let t = c.args.ticks in
    let a = c.args.allowance in
    record {
      answer = c.advance_by.ensures.answer;
      kept = c.advance_by.ensures.kept;
      count = c.advance_by.ensures.count;
      curve = let h = sound c.args.script.now in subst (AdvancesOnCurve g.K.Kind.means g.K.Kind.code (lines_in s) b t a) (sym (c.advance_by.ensures.answer)) (sound_curve s g.K.Kind.means g.K.Kind.code g.met.K.Kind.sound h b t a);
      reasons = subst (AdvanceTold g.K.Kind.means g.K.Kind.code (lines_in s) b t a) (sym (c.advance_by.ensures.answer)) (advance_told g.K.Kind.means g.K.Kind.code g.met.K.Kind.sound (lines_in s) b t a);
      lasting = subst (Lasts g.K.Kind.means g.K.Kind.code (lines_in s) b t a) (sym (c.advance_by.ensures.answer)) (lasts g.K.Kind.means g.K.Kind.code g.met.K.Kind.sound (lines_in s) b t a);
    }
