-- The law of an advance, as it is called. Assumes nothing.
use Rattle.std.proofs.Common.{◌≡◌, ℕ, Bool, true, false, cond, List, Option, sym, refl, subst, arith}
use Rattle.number.specs.declared.Kind.{Ghosts}
use Rattle.number.specs.declared.Pair.{Pair}
use Rattle.number.specs.Frac.{Frac}
use Rattle.number.specs.Kind.{Holds}
use Rattle.motion.specs.Lines.{Line}
use Rattle.motion.specs.NextLine.{declared}
use Rattle.motion.specs.Program.{Prog}
use Rattle.motion.specs.Rules.{ProgramOf}
use Rattle.motion.specs.Chains.{Shallows}
use Rattle.motion.specs.Carriers.{Each}
use Rattle.motion.specs.Pairs.{numbers_of, Meant}
use Rattle.motion.specs.Machine.{Answer, accepted, refused}
use Rattle.motion.specs.Machine as M
use Rattle.motion.specs.OneAdvance.{Lawful}
use Rattle.motion.specs.Agreement.{Err}
use Rattle.motion.proofs.OneAdvance.{advance_law}
use Rattle.motion.proofs.Lasting.{persist, numbers_agree}
use Rattle.motion.proofs.Refusals.{refusals_told}
use Rattle.record.specs.declared.Bench.{Bench}
use Rattle.record.specs.Benches.{bench_of}
use Rattle.checker.specs.declared.scripts.Checked.{Checked}
use Rattle.checker.specs.Scripts.{lines_in, Sound}
use Rattle.bench.specs.Built.{first_values}
use Rattle.bench.specs.Calls.{fitting, advanced}
use Rattle.bench.specs.Laws.{AdvancesOnCurve, AdvanceTold, not_fitting, fits, Lasts}
use Rattle.bench.proofs.First.{values_held}

taken_not : {k o : ℕ} {c : M.Bench Pair} → ◌≡◌ {A = Answer Pair} (refused 18 0 0) (accepted k o c) → ⊥
taken_not e = let z : ◌≡◌ {A = ℕ} 0 1 = cc in omega arith

-- a refusal by 18 says nothing of the rules
unsaid : {R : Frac → Pair → Type 0} {means : Pair → Option Frac} {code : Frac → Option Pair} {script : List Line} {vs : List Pair} {b : M.Bench Pair} {t a : ℕ} {answer : Answer Pair} →
    Lawful R (numbers_of means code) script vs b t a answer → Lawful R (numbers_of means code) script vs b t a (refused 18 0 0)
unsaid h = record {
  from = h.from;
  resumes = h.resumes;
  only = h.only;
  counted = λ k o c e. absurd (taken_not e);
  stands = λ k o c e. absurd (taken_not e);
  again = λ k o c e. absurd (taken_not e);
  steps = λ k o c e. absurd (taken_not e);
  fails = λ k l f w e. absurd (other k l f w e);
  nothing = λ k l f w e. absurd (other k l f w e);
  short = λ l f e. absurd (short_of l f e);
  not_failing = λ _ k o c e. taken_not e;
  not_short = λ _ k o c e. taken_not e;
}
  where
    other : (k l f : ℕ) → Err k → ◌≡◌ {A = Answer Pair} (refused 18 0 0) (refused k l f) → ⊥
    other k l f w e = let n : 18 ≡ k = numbers_agree e in omega (arith, w, n)

    short_of : (l f : ℕ) → ◌≡◌ {A = Answer Pair} (refused 18 0 0) (refused 20 l f) → ⊥
    short_of l f e = let n : 18 ≡ 20 = numbers_agree e in omega (arith, n)

module _ (means : Pair → Option Frac) (code : Frac → Option Pair) (laws : Holds means code) (script : List Line) (b : Bench) (t a : ℕ) where
  -- on the curve
  pub on_curve : (p : Prog) → ProgramOf script p → Shallows p → Each (Meant means) (declared script) (first_values code script) → AdvancesOnCurve means code script b t a (advanced (numbers_of means code) script b t a)
  on_curve p spelled shallow each stood =
      let h = advance_law means code laws script p spelled shallow (first_values code script) each (bench_of b) stood t a in
      by (fitting (numbers_of means code) script b) h
    where
      by : (x : Bool) → Lawful (Meant means) (numbers_of means code) script (first_values code script) (bench_of b) t a (M.advance (numbers_of means code) script (bench_of b) t a) →
          Lawful (Meant means) (numbers_of means code) script (first_values code script) (bench_of b) t a (cond x (M.advance (numbers_of means code) script (bench_of b) t a) (refused 18 0 0))
      by true h = h
      by false h = unsaid h

  -- for a reason
  pub advance_told : AdvanceTold means code script b t a (advanced (numbers_of means code) script b t a)
  advance_told = by (fitting (numbers_of means code) script b) refl
    where
      by : (x : Bool) → fitting (numbers_of means code) script b ≡ x → AdvanceTold means code script b t a (cond x (M.advance (numbers_of means code) script (bench_of b) t a) (refused 18 0 0))
      by true e = fits e (((refusals_told Pair).exactly (numbers_of means code) script (bench_of b) t a (M.advance (numbers_of means code) script (bench_of b) t a)).0 refl)
      by false e = not_fitting e

  -- and for good
  pub lasts : Lasts means code script b t a (advanced (numbers_of means code) script b t a)
  lasts k l f t' a' e low high more steps within = by (fitting (numbers_of means code) script b) e
    where
      by : (x : Bool) → cond x (M.advance (numbers_of means code) script (bench_of b) t a) (refused 18 0 0) ≡ refused k l f → cond x (M.advance (numbers_of means code) script (bench_of b) t' a') (refused 18 0 0) ≡ refused k l f
      by true h = (persist Pair).faults (numbers_of means code) script (bench_of b) t t' a a' k l f low high more steps within h
      by false h = let n : 18 ≡ k = numbers_agree h in absurd (omega (arith, n, low))

-- of a script that passed
module _ {X : Type 0} {K : Ghosts X} (s : Checked X K) (means : Pair → Option Frac) (code : Frac → Option Pair) (laws : Holds means code) (h : Sound s means code) where
  pub spelled : ProgramOf (lines_in s) h.good.program
  spelled = subst (λ (ls : List Line). ProgramOf ls h.good.program) (sym h.good.rows) h.good.spelled

  pub sound_curve : (b : Bench) (t a : ℕ) → AdvancesOnCurve means code (lines_in s) b t a (advanced (numbers_of means code) (lines_in s) b t a)
  sound_curve b t a = on_curve means code laws (lines_in s) b t a h.good.program spelled h.good.smooth (values_held s means code h laws)
