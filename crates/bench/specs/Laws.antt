-- The promises of the bench, call by call. Assumes nothing.
use Rattle.std.specs.Prelude.{◌≡◌, ℕ, ◌+◌, ◌<◌, ◌≤◌, true, false, ◌↔◌, List, take, ℤ, pos, Some, None, Ok, Err, Option, Result}
use Rattle.number.specs.declared.Pair.{Pair}
use Rattle.number.specs.Frac.{Frac}
use Rattle.motion.specs.Lines.{Line}
use Rattle.motion.specs.Items.{nth}
use Rattle.motion.specs.Machine.{Answer, accepted, refused}
use Rattle.motion.specs.Machine as M
use Rattle.motion.specs.Rules.{Standing, Curve}
use Rattle.motion.specs.Pairs.{numbers_of, Meant}
use Rattle.motion.specs.Calls.{StandsAt}
use Rattle.motion.specs.OneAdvance.{Stands, Lawful}
use Rattle.motion.specs.Refusals.{Answers}
use Rattle.motion.specs.Fitting as F
use Rattle.record.specs.declared.Bench.{Bench}
use Rattle.record.specs.Refusals.{Refusal}
use Rattle.record.specs.Benches.{bench_of}
use Rattle.handover.specs.Lines.{line_of}
use Rattle.handover.specs.Takes.{taken_up}
use Rattle.bench.specs.Built.{first_values}
use Rattle.bench.specs.Calls.{fitting, advanced, settled}

module _ (means : Pair → Option Frac) (code : Frac → Option Pair) (script : List Line) where
  -- the bench is as it was built on the script, or on the script's curve at its total
  abbrev pub Stood : M.Bench Pair → Type 0
  Stood b = Stands (Meant means) (numbers_of means code) script (first_values code script) b

  -- the bench shows what the script's curve has at tick T
  abbrev pub OnCurve : ℕ → M.Bench Pair → Type 0
  OnCurve T b = StandsAt (Meant means) (numbers_of means code) script T b

  -- An advance of a bench that stands, by its answer: accepted, it is on the curve at its total and the ticks, in the steps of the rules;
  -- refused by 21 or 22, the rules fail and the curve has nothing there or later; refused by 20, the rules need one step more.
  abbrev pub AdvancesOnCurve : Bench → (ticks allowance : ℕ) → Answer Pair → Type 0
  AdvancesOnCurve b t a answer = Stood (bench_of b) → Lawful (Meant means) (numbers_of means code) script (first_values code script) (bench_of b) t a answer

  -- When an advance gives an answer.
  pub data AdvanceTold (b : Bench) (t a : ℕ) : Answer Pair → Type 0 where
    -- 18: the bench does not fit the script
    not_fitting : fitting (numbers_of means code) script b ≡ false → AdvanceTold b t a (refused 18 0 0)
    -- it fits: 19 to 24 and acceptance, each by its condition
    fits : {answer : Answer Pair} → fitting (numbers_of means code) script b ≡ true → Answers (numbers_of means code) script (bench_of b) t a answer → AdvanceTold b t a answer

  -- A refusal by 21, 22 or 23 lasts: for no fewer ticks within the limit and no fewer steps the answer is the same.
  abbrev pub Lasts : Bench → (ticks allowance : ℕ) → Answer Pair → Type 0
  Lasts b t a answer =
      (k l f t' a' : ℕ) → answer ≡ refused k l f → 21 ≤ k → k ≤ 23 → t ≤ t' → a ≤ a' → b.total + t' ≤ 2147483647 → advanced (numbers_of means code) script b t' a' ≡ refused k l f

  -- A reading of a bench on the curve at T answers the curve's value of its variable there, in lowest terms.
  abbrev pub ReadsCurve : ℕ → Option ℕ → Result (ℤ × ℤ) Refusal → Type 0
  ReadsCurve T x (Ok p) = (i : ℕ) × (s : Standing) × (q : Frac) × (x ≡ Some i) × Curve script T s × (nth s.values i ≡ Some q) × (p ≡ (q.num, pos q.den))
  ReadsCurve T x (Err e) = Unit {0}

  -- What is written of a bench has at most 411 bytes, and is taken up as that bench.
  abbrev pub WrittenBack : Bench → Result ℕ Refusal → List ℕ → Type 0
  WrittenBack b (Ok n) buffer = (n ≤ 411) × (settled (numbers_of means code) script (taken_up means code (take n buffer)) ≡ Ok (bench_of b))
  WrittenBack b (Err e) buffer = Unit {0}

  -- Taken up are exactly the lines that are written of benches that fit.
  abbrev pub TakenExactly : List ℕ → Result (M.Bench Pair) Refusal → Type 0
  TakenExactly line answer = (b : M.Bench Pair) → (answer ≡ Ok b) ↔ ((F.fits (numbers_of means code) script b ≡ true) × (line_of means b ≡ line))

-- The next joint of a bench on the curve at T: the ticks that the curve has left in its stretch, or none where it is in none.
abbrev pub JointOnCurve : Option ℕ → ℕ → Type 0
JointOnCurve (Some d) left = (d ≡ left) × (0 < d)
JointOnCurve None left = left ≡ 0
