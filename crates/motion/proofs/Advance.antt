-- A whole advance.
use Rattle.std.proofs.Common.{◌≡◌, ℕ, zero, suc, ◌+◌, ◌<◌, Bool, true, false, cond, ltb, List, [], ◌∷◌, ◌++◌, length, drop, sym, refl, ◌∙◌, subst, append-nil, zero-add, arith, ltb-false}
use lib.Seq.{drop-length}
use Rattle.number.specs.Frac.{Frac}
use Rattle.motion.specs.Numbers.{Numbers, exact}
use Rattle.motion.specs.Lines.{Line, var_line, set_line, run_line, rate_line, if_line, else_line, while_line, end_line}
use Rattle.motion.specs.Machine as M
use Rattle.motion.specs.NextLine.{opens, first_line, declared, next_from, line_at}
use Rattle.motion.specs.Machine.{Place, at, inside, ended, Answer, accepted, refused, Stepped, go, fail, after, over_at_end, loop, new, advance, advanced, place_at, place_of, Bench, step, stretch}
use Rattle.motion.specs.Program.{Prog, skip}
use Rattle.motion.specs.Rules.{Env, run, stop, ◌⟶◌, done, more, at_stop, at_end, Curve, ProgramOf}
use Rattle.motion.specs.Remaining.{Here, nothing, Stands, stands, Left}
use Rattle.motion.proofs.Outcomes.{Outcome, Told}
use Rattle.motion.specs.Agreement.{standing, from_stop, from_end}
use Rattle.motion.proofs.OneStep.{no_err, placed, step_at, step_inside, left_at, left_inside}
use Rattle.motion.proofs.NextLine.{next_ready}

-- the ticks over that an accepted advance answers are those of its bench
abbrev pub Overs : {V : Type 0} → Answer V → Type 0
Overs (accepted steps over c) = over ≡ c.over
Overs (refused k l f) = Unit {0}

module _ {V : Type 0} (N : Numbers V) (all : List Line) where
  after_over : (f : ℕ → List V → ℕ → Place → Answer V) → ((steps : ℕ) (e : List V) (t : ℕ) (p : Place) → Overs (f steps e t p)) → (steps total : ℕ) (s : Stepped V) → Overs (after f all steps total s)
  after_over f h steps total (go n e t) = h (suc steps) e t (place_at all n)
  after_over f h steps total (M.stop n d e) = refl
  after_over f h steps total (fail k n g) = tt

  loop_over : (total a steps : ℕ) (e : List V) (t : ℕ) (p : Place) → Overs (loop N all total a steps e t p)
  loop_over total zero steps e t ended = refl
  loop_over total (suc a) steps e t ended = refl
  loop_over total zero steps e t (at n) = tt
  loop_over total zero steps e t (inside n d) = tt
  loop_over total (suc a) steps e t (at n) = after_over (loop N all total a) (loop_over total a) steps total (step N all e t n (line_at all n))
  loop_over total (suc a) steps e t (inside n d) = after_over (loop N all total a) (loop_over total a) steps total (stretch N all e t n d)

  advanced_over : (b : Bench V) (t a : ℕ) (o : Bool) → Overs (advanced N all b t a o)
  advanced_over b t a true = tt
  advanced_over b t a false = loop_over (b.total + t) a 0 b.values (b.over + t) (place_of all b)

  pub advance_over : (b : Bench V) (t a : ℕ) → Overs (advance N all b t a)
  advance_over b t a = advanced_over b t a (ltb 2147483647 (b.total + t))

module _ (all : List Line) where
  -- the bench of an answer goes on where the run has come to rest
  ended_by : (n : ℕ) {p : Prog} → length all < n → p ≡ skip → (c : Bool) → ltb (length all) n ≡ c → Left all (cond c ended (at n)) p
  ended_by n l e true i = e
  ended_by n l e false i = let k = ltb-false (length all) n i in let no : ⊥ = omega arith in absurd no

  ended_left : {p : Prog} → p ≡ skip → Left all (place_at all (next_from all (suc (length all)))) p
  ended_left {p} e =
      let f : next_from all (suc (length all)) ≡ suc (length all) = rw drop-length in
      subst (λ (n : ℕ). Left all (place_at all n) p) (sym f) (ended_by (suc (length all)) (omega arith) e (ltb (length all) (suc (length all))) refl)

  inside_by : (n d : ℕ) {p : Prog} → 0 < d → Left all (inside n d) p → (c : Bool) → ltb 0 d ≡ c → Left all (cond c (inside n d) (place_at all (next_from all n))) p
  inside_by n d h l true i = l
  inside_by n d h l false i = let k = ltb-false 0 d i in let no : ⊥ = omega arith in absurd no

  at_the_end : (total steps a : ℕ) (σ : Env) (t : ℕ) (p : Prog) → p ≡ skip → Told all p σ t steps a (over_at_end all total steps σ t)
  at_the_end total steps a σ t p e = (0, run p σ t, omega arith, omega arith, done, rw e at_end, from_end (ended_left e) refl)

  -- no step is allowed where one is needed
  short : (steps n : ℕ) (p : Prog) (σ : Env) (t : ℕ) → (p ≡ skip → ⊥) → Told all p σ t steps 0 (refused 20 n 0)
  short steps n p σ t h = (omega arith, no_err 20 (omega arith) (omega arith), λ e. (p, σ, t, done, h))

  one_more : {p p' : Prog} {σ τ : Env} {t u : ℕ} (steps a : ℕ) → run p σ t ⟶ run p' τ u → (w : Answer Frac) → Told all p' τ u (suc steps) a w → Told all p σ t steps (suc a) w
  one_more steps a r (accepted k o b) (j, c, e, l, s, h, g) = (suc j, c, omega arith, omega arith, more r s, h, g)
  one_more steps a r (refused i n f) (z, h, u) = (z, (λ e. let (j, l, s) = h e in (suc j, omega arith, more r s)), λ e. let (p, σ, t, s, y) = u e in (p, σ, t, more r s, y))

  after_step : (p : Prog) (σ : Env) (t total steps a : ℕ) (k : ℕ → Env → ℕ → Place → Answer Frac)
      → ((p' : Prog) (τ : Env) (u : ℕ) (place : Place) → Left all place p' → Told all p' τ u (suc steps) a (k (suc steps) τ u place))
      → (s : Stepped Frac) → Outcome all p σ t s → Told all p σ t steps (suc a) (after k all steps total s)
  after_step p σ t total steps a k f (go n τ u) (p', r, l) = one_more steps a r (k (suc steps) τ u (place_at all n)) (f p' τ u (place_at all n) l)
  after_step p σ t total steps a k f (M.stop n d τ) (p', r, h, l, z) = (1, stop p' τ, omega arith, omega arith, more r done, at_stop h, from_stop (inside_by n d z l (ltb 0 d) refl) refl z)
  after_step p σ t total steps a k f (fail i n g) ((z, w), r, v) = (z, (λ e. (1, omega arith, more (r e) done)), λ e. absurd (w e))

  pub loop_told : (total a steps : ℕ) (p : Prog) (σ : Env) (t : ℕ) (place : Place) → Left all place p → Told all p σ t steps a (loop exact all total a steps σ t place)
  loop_told total zero steps p σ t ended l = at_the_end total steps 0 σ t p l
  loop_told total (suc a) steps p σ t ended l = at_the_end total steps (suc a) σ t p l
  loop_told total zero steps p σ t (at n) l = short steps n p σ t (left_at l)
  loop_told total zero steps p σ t (inside n d) l = short steps n p σ t (left_inside l)
  loop_told total (suc a) steps p σ t (at n) l = after_step p σ t total steps a (loop exact all total a) (loop_told total a (suc steps)) _ (step_at σ t l)
  loop_told total (suc a) steps p σ t (inside n d) l = after_step p σ t total steps a (loop exact all total a) (loop_told total a (suc steps)) _ (step_inside σ t l)

-- the new bench stands before the first line behind the var lines
pub first_number : (n : ℕ) (ls : List Line) → first_line n ls ≡ n + length (declared ls)
first_number n [] = omega arith
first_number n (var_line x ∷ ls) = first_number (suc n) ls ∙ omega arith
first_number n (set_line x y ∷ ls) = omega arith
first_number n (run_line x ∷ ls) = omega arith
first_number n (rate_line x ∷ ls) = omega arith
first_number n (if_line x ∷ ls) = omega arith
first_number n (else_line ∷ ls) = omega arith
first_number n (while_line x ∷ ls) = omega arith
first_number n (end_line ∷ ls) = omega arith

-- no block is open behind the var lines
none_open : (k : ℕ) (ls : List Line) → opens [] k (length (declared ls)) ls ≡ []
none_open k [] = refl
none_open k (var_line x ∷ ls) = none_open (suc k) ls
none_open k (set_line x y ∷ ls) = refl
none_open k (run_line x ∷ ls) = refl
none_open k (rate_line x ∷ ls) = refl
none_open k (if_line x ∷ ls) = refl
none_open k (else_line ∷ ls) = refl
none_open k (while_line x ∷ ls) = refl
none_open k (end_line ∷ ls) = refl

module _ (all : List Line) (p : Prog) (spelled : ProgramOf all p) where
  pub new_stands : Stands all (first_line 1 all) p
  new_stands =
      let h : Here all (suc (length (declared all))) [] (drop (length (declared all)) all ++ []) = record {
        before = length (declared all);
        number = refl;
        blocks = none_open 1 all;
        lines = sym (append-nil (drop (length (declared all)) all));
      } in
      let f : first_line 1 all ≡ suc (length (declared all)) = first_number 1 all ∙ omega arith in
      rw f (stands h spelled refl nothing)

  pub new_left : Left all (place_of all (new all (declared all))) p
  new_left = placed (next_ready new_stands)

-- an advance of any bench whose place has p left
module _ (all : List Line) (b : Bench Frac) (p : Prog) (l : Left all (place_of all b) p) (T a : ℕ) where
  advance_by : (c : Bool) → Told all p b.values (b.over + T) 0 a (advanced exact all b T a c)
  advance_by true = (omega arith, no_err 19 (omega arith) (omega arith), λ e. absurd (omega arith))
  advance_by false = loop_told all (b.total + T) a 0 p b.values (b.over + T) (place_of all b) l

  pub advance_told : Told all p b.values (b.over + T) 0 a (advance exact all b T a)
  advance_told = advance_by (ltb 2147483647 (b.total + T))

module _ (all : List Line) (p : Prog) (spelled : ProgramOf all p) (T a : ℕ) where
  new_told : Told all p (declared all) T 0 a (advance exact all (new all (declared all)) T a)
  new_told = subst (λ (t : ℕ). Told all p (declared all) t 0 a (advance exact all (new all (declared all)) T a)) (zero-add T) (advance_told all (new all (declared all)) p (new_left all p spelled) T a)

  pub on_the_curve : (k o : ℕ) (b : Bench Frac) → advance exact all (new all (declared all)) T a ≡ accepted k o b → Curve all T (standing b)
  on_the_curve k o b e =
      let (j, c, i, l, r, h, g) = subst (Told all p (declared all) T 0 a) e new_told in
      record { program = p; spelled = spelled; steps = j; end = c; runs = r; shows = h }
