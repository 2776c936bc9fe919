-- Where the rules come to rest within the allowance, the answer says where.
use Rattle.std.proofs.Common.{◌≡◌, ℕ, zero, suc, ◌+◌, ◌≤◌, Bool, true, false, ltb, List, length, refl, subst, arith, ltb-true}
use Rattle.number.specs.Frac.{Frac}
use Rattle.motion.specs.Numbers.{exact}
use Rattle.motion.specs.Lines.{Line}
use Rattle.motion.specs.Machine as M
use Rattle.motion.specs.Machine.{Place, at, inside, ended, Answer, accepted, refused, Stepped, go, fail, after, over_at_end, loop, new, advance, advanced, place_at, place_of, Bench}
use Rattle.motion.specs.NextLine.{declared}
use Rattle.motion.specs.Program.{Prog, skip}
use Rattle.motion.specs.Rules.{Env, Config, run, stop, err, Resting, ◌⟶◌, Steps, done, more, Shows, at_stop, at_end, Standing, Curve}
use Rattle.motion.specs.Remaining.{Left}
use Rattle.motion.proofs.Outcomes.{Outcome}
use Rattle.motion.specs.Agreement.{standing, Says, RefusedBy}
use Rattle.motion.proofs.OneStep.{step_at, step_inside, left_at, left_inside}
use Rattle.motion.proofs.Advance.{new_left}
use Rattle.motion.proofs.Determinism.{determined, one_show, rests_at, shown_resting}

no_step : {p : Prog} {σ : Env} {t : ℕ} {d : Config} → p ≡ skip → run p σ t ⟶ d → ⊥
no_step {σ} {t} {d} e r = go' (subst (λ (q : Prog). run q σ t ⟶ d) e r)
  where
    go' : run skip σ t ⟶ d → ⊥
    go' q = elim q [ ]

from_stop : {j : ℕ} {p : Prog} {σ : Env} {c : Config} → Steps j (stop p σ) c → stop p σ ≡ c
from_stop done = refl
from_stop (more r s) = elim r [ ]

from_err : {j : ℕ} {c : Config} → Steps j err c → c ≡ err
from_err done = refl
from_err (more r s) = elim r [ ]

module _ (all : List Line) where
  at_the_end : {j : ℕ} (total steps : ℕ) (p : Prog) (σ : Env) (t : ℕ) {c : Config} → p ≡ skip → Steps j (run p σ t) c → Says all c (over_at_end all total steps σ t)
  at_the_end total steps p σ t e done = rw e at_end
  at_the_end total steps p σ t e (more r s) = absurd (no_step e r)

  not_yet : {j : ℕ} {p : Prog} {σ : Env} {t : ℕ} {c : Config} {X : Type 0} → (p ≡ skip → ⊥) → Steps j (run p σ t) c → Resting c → j ≤ 0 → X
  not_yet f done e l = absurd (f (rests_at e))
  not_yet f (more r s) e l = let no : ⊥ = omega arith in absurd no

  after_step : {j : ℕ} (p : Prog) (σ : Env) (t total steps a : ℕ) {c : Config} (k : ℕ → Env → ℕ → Place → Answer Frac)
      → ((i : ℕ) (p' : Prog) (τ : Env) (u : ℕ) (place : Place) (d : Config) → Left all place p' → Steps i (run p' τ u) d → Resting d → i ≤ a → Says all d (k (suc steps) τ u place))
      → (s : Stepped Frac) → Outcome all p σ t s → (p ≡ skip → ⊥) → Steps j (run p σ t) c → Resting c → j ≤ suc a → Says all c (after k all steps total s)
  after_step p σ t total steps a k f (go m τ u) o n done e l = absurd (n (rests_at e))
  after_step p σ t total steps a k f (M.stop m d τ) o n done e l = absurd (n (rests_at e))
  after_step p σ t total steps a k f (fail i m g) o n done e l = absurd (n (rests_at e))
  after_step p σ t total steps a k f (go m τ u) o n (more r s) e l = let i = determined r o.1 in f _ o.0 τ u (place_at all m) _ o.2 (rw i at s) e (omega arith)
  after_step p σ t total steps a k f (M.stop m d τ) o n (more r s) e l =
      let i = determined r o.1 in
      subst (λ (x : Config). Says all x (after k all steps total (M.stop m d τ))) (from_stop (rw i at s)) (at_stop o.2)
  after_step p σ t total steps a k f (fail i m g) o n (more r s) e l = let w = determined r (o.1 (o.2 _ r)) in (from_err (rw w at s), o.2 _ r)

  loop_says : (total a steps j : ℕ) (p : Prog) (σ : Env) (t : ℕ) (place : Place) (c : Config) → Left all place p → Steps j (run p σ t) c → Resting c → j ≤ a → Says all c (loop exact all total a steps σ t place)
  loop_says total zero steps j p σ t ended c h s e l = at_the_end total steps p σ t h s
  loop_says total (suc a) steps j p σ t ended c h s e l = at_the_end total steps p σ t h s
  loop_says total zero steps j p σ t (at n) c h s e l = not_yet (left_at h) s e l
  loop_says total zero steps j p σ t (inside n d) c h s e l = not_yet (left_inside h) s e l
  loop_says total (suc a) steps j p σ t (at n) c h s e l = after_step p σ t total steps a (loop exact all total a) (loop_says total a (suc steps)) _ (step_at σ t h) (left_at h) s e l
  loop_says total (suc a) steps j p σ t (inside n d) c h s e l = after_step p σ t total steps a (loop exact all total a) (loop_says total a (suc steps)) _ (step_inside σ t h) (left_inside h) s e l

  module _ (b : Bench Frac) (p : Prog) (T a : ℕ) (h : Left all (place_of all b) p) (small : b.total + T ≤ 2147483647) (j : ℕ) (c : Config) (s : Steps j (run p b.values (b.over + T)) c) (e : Resting c) (l : j ≤ a) where
    advance_by : (x : Bool) → ltb 2147483647 (b.total + T) ≡ x → Says all c (advanced exact all b T a x)
    advance_by true i = let k = ltb-true 2147483647 (b.total + T) i in let no : ⊥ = omega arith in absurd no
    advance_by false i = loop_says (b.total + T) a 0 j p b.values (b.over + T) (place_of all b) c h s e l

    pub advance_says : Says all c (advance exact all b T a)
    advance_says = advance_by (ltb 2147483647 (b.total + T)) refl

  -- and where a statement is still to be done after all the steps allowed, the answer is 20
  abbrev Short : Answer Frac → Type 0
  Short = RefusedBy (λ i. i ≡ 20)

  short_end : {j : ℕ} (p : Prog) (σ : Env) (t : ℕ) {q : Prog} {τ : Env} {u : ℕ} {X : Type 0} → p ≡ skip → Steps j (run p σ t) (run q τ u) → (q ≡ skip → ⊥) → X
  short_end p σ t e done h = absurd (h e)
  short_end p σ t e (more r s) h = absurd (no_step e r)

  stop_short : {j : ℕ} {p q : Prog} {σ τ : Env} {u : ℕ} {X : Type 0} → Steps j (stop p σ) (run q τ u) → X
  stop_short s = let e = from_stop s in let z : ◌≡◌ {A = ℕ} 0 1 = cc in let no : ⊥ = omega arith in absurd no

  err_short : {j : ℕ} {q : Prog} {τ : Env} {u : ℕ} {X : Type 0} → Steps j err (run q τ u) → X
  err_short s = let e = from_err s in let z : ◌≡◌ {A = ℕ} 0 1 = cc in let no : ⊥ = omega arith in absurd no

  short_step : (p : Prog) (σ : Env) (t total steps a : ℕ) (q : Prog) (ρ : Env) (v : ℕ) (k : ℕ → Env → ℕ → Place → Answer Frac)
      → ((p' : Prog) (τ : Env) (u : ℕ) (place : Place) → Left all place p' → Steps a (run p' τ u) (run q ρ v) → Short (k (suc steps) τ u place))
      → (s : Stepped Frac) → Outcome all p σ t s → Steps (suc a) (run p σ t) (run q ρ v) → Short (after k all steps total s)
  short_step p σ t total steps a q ρ v k f (go m τ u) o (more r s) = let i = determined r o.1 in f o.0 τ u (place_at all m) o.2 (rw i at s)
  short_step p σ t total steps a q ρ v k f (M.stop m d τ) o (more r s) = let i = determined r o.1 in stop_short (rw i at s)
  short_step p σ t total steps a q ρ v k f (fail i m g) o (more r s) = let w = determined r (o.1 (o.2 _ r)) in err_short (rw w at s)

  loop_short : (total a steps : ℕ) (p : Prog) (σ : Env) (t : ℕ) (place : Place) (q : Prog) (ρ : Env) (v : ℕ) → Left all place p → Steps a (run p σ t) (run q ρ v) → (q ≡ skip → ⊥) → Short (loop exact all total a steps σ t place)
  loop_short total zero steps p σ t ended q ρ v h s n = short_end p σ t h s n
  loop_short total (suc a) steps p σ t ended q ρ v h s n = short_end p σ t h s n
  loop_short total zero steps p σ t (at m) q ρ v h s n = (20, m, 0, refl, refl)
  loop_short total zero steps p σ t (inside m d) q ρ v h s n = (20, m, 0, refl, refl)
  loop_short total (suc a) steps p σ t (at m) q ρ v h s n = short_step p σ t total steps a q ρ v (loop exact all total a) (λ p' τ u place l r. loop_short total a (suc steps) p' τ u place q ρ v l r n) _ (step_at σ t h) s
  loop_short total (suc a) steps p σ t (inside m d) q ρ v h s n = short_step p σ t total steps a q ρ v (loop exact all total a) (λ p' τ u place l r. loop_short total a (suc steps) p' τ u place q ρ v l r n) _ (step_inside σ t h) s

  module _ (b : Bench Frac) (p : Prog) (T a : ℕ) (h : Left all (place_of all b) p) (small : b.total + T ≤ 2147483647) (q : Prog) (ρ : Env) (v : ℕ) (s : Steps a (run p b.values (b.over + T)) (run q ρ v)) (n : q ≡ skip → ⊥) where
    short_by : (x : Bool) → ltb 2147483647 (b.total + T) ≡ x → Short (advanced exact all b T a x)
    short_by true i = let k = ltb-true 2147483647 (b.total + T) i in let no : ⊥ = omega arith in absurd no
    short_by false i = loop_short (b.total + T) a 0 p b.values (b.over + T) (place_of all b) q ρ v h s n

    pub short_says : Short (advance exact all b T a)
    short_says = short_by (ltb 2147483647 (b.total + T)) refl

  not_err : {last : ℕ} {c : Config} {s : Standing} {X : Type 0} → Shows last c s → c ≡ err → X
  not_err (at_stop h) e = let z : ◌≡◌ {A = ℕ} 0 1 = cc in let no : ⊥ = omega arith in absurd no
  not_err at_end e = let z : ◌≡◌ {A = ℕ} 0 1 = cc in let no : ⊥ = omega arith in absurd no

  pub read_answer : {c : Config} {s : Standing} (w : Answer Frac) → Shows (suc (length all)) c s → Says all c w → (k : ℕ) × (over : ℕ) × (b : Bench Frac) × (w ≡ accepted k over b) × (standing b ≡ s)
  read_answer (accepted k o b) h g = (k, o, b, refl, one_show g h)
  read_answer (refused i n f) h (e, g) = not_err h e

  pub curve_answer : (T a : ℕ) (s : Standing) (on : Curve all T s) → T ≤ 2147483647 → on.steps ≤ a
      → (k : ℕ) × (over : ℕ) × (b : Bench Frac) × (advance exact all (new all (declared all)) T a ≡ accepted k over b) × (standing b ≡ s)
  curve_answer T a s on l m =
      let z : T ≡ 0 + T = omega arith in
      let r = subst (λ (t : ℕ). Steps on.steps (run on.program (declared all) t) on.end) z on.runs in
      read_answer _ on.shows (advance_says (new all (declared all)) on.program T a (new_left all on.program on.spelled) (omega arith) on.steps on.end r (shown_resting on.shows) m)
