-- The line machine and the rules, side by side.
use Rattle.std.proofs.Common.{◌≡◌, ℕ, ◌+◌, ◌≤◌, List, refl, ap, ◌∙◌, subst, ap₂, arith}
use Rattle.number.specs.Frac.{Frac}
use Rattle.motion.specs.Lines.{Line}
use Rattle.motion.specs.Numbers.{exact}
use Rattle.motion.specs.NextLine.{declared}
use Rattle.motion.specs.Machine.{Bench, Answer, accepted, refused, advance, place_of, new, Stepped}
use Rattle.motion.specs.Program.{Prog}
use Rattle.motion.specs.Rules.{Env, run, err, failed, Steps, Standing, Curve}
use Rattle.motion.specs.Remaining.{Left}
use Rattle.motion.specs.Agreement.{Err, standing, Unfinished, Says, StepAgrees, RefusedBy, FailsWithin, FollowsRules}
use Rattle.motion.proofs.Outcomes.{Outcome, Told}
use Rattle.motion.proofs.Determinism.{shown_resting, rest_once}
use Rattle.motion.proofs.ReadOff.{one_program, complete, sound}
use Rattle.motion.proofs.OneStep.{step_at, step_inside}
use Rattle.motion.proofs.Advance.{Overs, advance_over, new_left, advance_told, on_the_curve}
use Rattle.motion.proofs.Conversely.{advance_says, short_says, curve_answer}

from_outcome : (all : List Line) (p : Prog) (σ : Env) (t : ℕ) (s : Stepped Frac) → Outcome all p σ t s → StepAgrees all p σ t s
from_outcome all p σ t s o = record {
  goes = λ m e u i. subst (Outcome all p σ t) i o;
  stops = λ n d e i. subst (Outcome all p σ t) i o;
  fails = λ i n f e. (subst (Outcome all p σ t) e o).1;
  only_fails = λ i n f e. (subst (Outcome all p σ t) e o).2;
  faults = λ i n f e. (subst (Outcome all p σ t) e o).0;
}

module _ (all : List Line) (b : Bench Frac) (p : Prog) (T a : ℕ) (l : Left all (place_of all b) p) where
  pub failed_told : RefusedBy Err (advance exact all b T a) → FailsWithin a (run p b.values (b.over + T))
  failed_told (i, n, f, h, e) = (subst (Told all p b.values (b.over + T) 0 a) e (advance_told all b p l T a)).1 h

  short_told : RefusedBy (λ i. i ≡ 20) (advance exact all b T a) → Unfinished a (run p b.values (b.over + T))
  short_told (i, n, f, h, e) = (subst (Told all p b.values (b.over + T) 0 a) e (advance_told all b p l T a)).2 h

says_failed : (all : List Line) (w : Answer Frac) → Says all err w → RefusedBy Err w
says_failed all (accepted k o b) h = elim h [ ]
says_failed all (refused i n f) (e, h) = (i, n, f, h, refl)

-- a bench on the curve comes there in the steps of the rules
in_so_many_steps : (all : List Line) (T a : ℕ) (s : Standing) (on : Curve all T s) → T ≤ 2147483647 → on.steps ≤ a
    → (b : Bench Frac) × (advance exact all (new all (declared all)) T a ≡ accepted on.steps s.over b) × (standing b ≡ s)
in_so_many_steps all T a s on l m =
    let start = new all (declared all) in
    let (k, over, b, e, q) = curve_answer all T a s on l m in
    let (j, c, i, n, r, h, g) = subst (Told all on.program (declared all) (0 + T) 0 a) e (advance_told all start on.program (new_left all on.program on.spelled) T a) in
    let z : 0 + T ≡ T = omega arith in
    let u = subst (λ (t : ℕ). Steps j (run on.program (declared all) t) c) z r in
    let one = rest_once (run on.program (declared all) T) on.end c on.steps j on.runs (shown_resting on.shows) u (shown_resting h) in
    let count : k ≡ on.steps = omega (arith, one.1) in
    let same : over ≡ s.over = subst Overs e (advance_over exact all start T a) ∙ ap (λ (x : Standing). x.over) q in
    (b, e ∙ ap₂ (λ (x y : ℕ). accepted x y b) count same, q)

pub follows_rules : FollowsRules
follows_rules = record {
  one_program = λ i ls p q s t. one_program s t;
  read_off = λ i ls p. (complete, sound);
  starts = new_left;
  one_step = λ all n p σ t l. from_outcome all p σ t _ (step_at σ t l);
  one_stretch = λ all n d p σ t l. from_outcome all p σ t _ (step_inside σ t l);
  any_bench = λ all b p T a l k o b' e.
      let (j, c, i, n, r, h, g) = subst (Told all p b.values (b.over + T) 0 a) e (advance_told all b p l T a) in
      let m : j ≡ k = omega arith in
      (c, omega arith, rw m at r, h, g);
  fails_exactly = λ all b p T a l m. (failed_told all b p T a l, λ (j, k, s). says_failed all _ (advance_says all b p T a l m j err s failed k));
  short_exactly = λ all b p T a l m. (short_told all b p T a l, λ (q, σ, t, s, h). short_says all b p T a l m q σ t s h);
  on_the_curve = λ all p s T a k o b e. on_the_curve all p s T a k o b e;
  answers = λ all b p T a l m j c s e k. advance_says all b p T a l m j c s e k;
  off_the_curve = in_so_many_steps;
}
