-- One advance of a bench that stands: the machine in unlimited fractions is found at the same standing, and goes on as the rules do.
use Rattle.std.proofs.Common.{◌≡◌, ℕ, suc, ◌+◌, ◌<◌, ◌≤◌, Bool, true, false, ltb, List, [], length, drop, Option, sym, refl, ap, ◌∙◌, subst, subst₂, inl, inr, zero-add, arith, ltb-false}
use lib.Seq.{drop-length}
use Rattle.number.specs.declared.Pair.{Pair}
use Rattle.number.specs.Frac.{Frac}
use Rattle.motion.specs.Numbers.{Numbers, exact}
use Rattle.motion.specs.Lines.{Line}
use Rattle.motion.specs.Program.{Prog, skip, Spells, none}
use Rattle.motion.specs.Machine.{Bench, accepted, refused, advance, advanced, place_of, new}
use Rattle.motion.specs.NextLine.{declared, first_line}
use Rattle.motion.specs.Rules.{Env, Config, run, stop, err, ◌⟶◌, evolve_stop, rest_stop, seq_stop, Steps, done, more, Resting, stopped, finished, failed, Heads, here, in_seq, Shows, at_stop, at_end, Standing, Curve, ProgramOf}
use Rattle.motion.specs.Remaining.{Left}
use Rattle.motion.specs.Agreement.{Err, standing, GoesOn, from_stop, from_end, Unfinished, FailsWithin}
use Rattle.motion.specs.Carriers.{Each, Carries, Related}
use Rattle.motion.specs.Cuts.{Smooth}
use Rattle.motion.specs.Pairs.{numbers_of, Meant}
use Rattle.motion.specs.Calls.{Call, after_calls, some_accepted, StandsAt, ComesTo}
use Rattle.motion.specs.Promise.{Alike}
use Rattle.motion.specs.OneAdvance.{Stands, as_built, on_curve, Resumes, starts, goes_on, waits, ShowsBench, Lawful, AdvanceLaw, AlwaysStands, SameWay, AlikeOnCurve}
use Rattle.motion.proofs.Determinism.{resting, rest_once}
use Rattle.motion.proofs.ReadOff.{one_program}
use Rattle.motion.proofs.Advance.{Overs, advance_over, first_number}
use Rattle.motion.proofs.Agreement.{failed_told, follows_rules}
use Rattle.motion.proofs.Lasting.{numbers_agree}
use Rattle.motion.proofs.Simulation.{simulation, never}
use Rattle.motion.proofs.FlowLaw.{shallow_smooth}
use Rattle.motion.proofs.Pairs.{pairs_carry}
use Rattle.motion.proofs.Calls.{Totals, advance_total, never_over, fail_on, none_later, first_stood, On, accepted_on, first_on, low_err, begun_curve}
use Rattle.motion.proofs.Promise.{promise_kept, curve_alike, new_alike}

-- a run that stops has ticks left in its stretch
step_leaves : {p q : Prog} {σ τ : Env} {t l d : ℕ} → run p σ t ⟶ stop q τ → Heads q l d → 0 < d
step_leaves (evolve_stop a b f) here = omega arith
step_leaves (rest_stop b f) here = omega arith
step_leaves (seq_stop r) (in_seq h) = step_leaves r h

stop_leaves : {n : ℕ} {p q : Prog} {σ τ : Env} {t l d : ℕ} → Steps n (run p σ t) (stop q τ) → Heads q l d → 0 < d
stop_leaves (more {d = run x ρ v} r s) h = stop_leaves s h
stop_leaves (more {d = stop x ρ} r done) h = step_leaves r h
stop_leaves (more {d = stop x ρ} r (more k s)) h = absurd (resting stopped k)
stop_leaves (more {d = err} r (more k s)) h = absurd (resting failed k)

-- what is at its end stays there
stays : {n : ℕ} {σ τ : Env} {u v : ℕ} → Steps n (run skip σ u) (run skip τ v) → σ ≡ τ
stays done = refl
stays (more r s) = absurd (resting finished r)

-- what a configuration at rest shows, read off
headed : {last : ℕ} {q : Prog} {σ : Env} {s : Standing} → Shows last (stop q σ) s → Heads q s.line s.left
headed (at_stop h) = h

at_last : {last : ℕ} {q : Prog} {σ : Env} {u : ℕ} {s : Standing} → Shows last (run q σ u) s → (q ≡ skip) × (s.line ≡ last)
at_last at_end = (refl, refl)

module _ (script : List Line) where
  -- the program of a script comes to one rest
  one_rest : {p q : Prog} {T m n : ℕ} {c d : Config} → ProgramOf script p → ProgramOf script q →
      Steps m (run p (declared script) T) c → Resting c → Steps n (run q (declared script) T) d → Resting d → c ≡ d
  one_rest {p} {q} {T} {m} {n} {c} {d} x y ss r us u =
      (rest_once (run p (declared script) T) c d m n ss r (subst (λ (z : Prog). Steps n (run z (declared script) T) d) (one_program y x) us) u).0

  -- a script of var lines only has nothing to do
  nothing_to_do : (n : ℕ) {q : Prog} → n ≡ length script → Spells (suc n) (drop n script) q → q ≡ skip
  nothing_to_do n {q} e s =
      let f : drop n script ≡ [] = ap (λ (m : ℕ). drop m script) e ∙ drop-length script in
      one_program (subst (λ (ls : List Line). Spells (suc n) ls q) f s) none

  module _ {V : Type 0} (vs : List V) (b : Bench V) (t : ℕ) where
    new_stop : {p q : Prog} {σ : Env} {n : ℕ} → b ≡ new script vs → Steps n (run p (declared script) b.total) (stop q σ) → Heads q b.line b.left → ⊥
    new_stop e s h = let z : b.left ≡ 0 = ap (λ (x : Bench V). x.left) e in omega (arith, stop_leaves s h)

    new_end : {p q : Prog} {σ : Env} {n : ℕ} → b ≡ new script vs → ProgramOf script p → ProgramOf script q →
        Steps n (run q (declared script) b.total) (run skip σ b.over) → b.line ≡ suc (length script) → run p (declared script) t ≡ run skip σ (b.over + t)
    new_end {p} {q} {σ} {n} e x y s h =
        let i : b.line ≡ first_line 1 script = ap (λ (x : Bench V). x.line) e in
        let k : length (declared script) ≡ length script = omega (arith, first_number 1 script) in
        let z : b.over ≡ 0 = ap (λ (x : Bench V). x.over) e in
        let u : b.over + t ≡ t = omega arith in
        let v = nothing_to_do (length (declared script)) k x in
        let w = stays (subst (λ (z : Prog). Steps n (run z (declared script) b.total) (run skip σ b.over)) (nothing_to_do (length (declared script)) k y) s) in
        cc

    -- with one configuration only the rules go on
    one_way : {c d : Config} → Resumes script vs b t c → Resumes script vs b t d → c ≡ d
    one_way (starts e x) (starts f y) = ap (λ (p : Prog). run p (declared script) t) (one_program x y)
    one_way (starts e x) (goes_on y s h z) = absurd (new_stop e s h)
    one_way (starts e x) (waits y s h) = new_end e x y s h
    one_way (goes_on y s h z) (starts e x) = absurd (new_stop e s h)
    one_way (goes_on x s h z) (goes_on y u k w) = let e = one_rest x y s stopped u stopped in cc
    one_way (goes_on x s h z) (waits y u k) = let e = one_rest x y s stopped u finished in cc
    one_way (waits y s h) (starts e x) = sym (new_end e x y s h)
    one_way (waits x s h) (goes_on y u k w) = let e = one_rest x y s finished u stopped in cc
    one_way (waits x s h) (waits y u k) = let e = one_rest x y s finished u finished in cc

    -- from a standing on the curve
    shown_way : {p : Prog} {n : ℕ} {c : Config} {s : Standing} → ProgramOf script p → Steps n (run p (declared script) b.total) c → Shows (suc (length script)) c s →
        s.line ≡ b.line → s.left ≡ b.left → s.over ≡ b.over → (d : Config) × Resumes script vs b t d
    shown_way x ss (at_stop {p = q} {σ = σ} h) i j k = (run q σ t, goes_on x ss (subst₂ (Heads q) i j h) (sym k))
    shown_way {p} {n} x ss (at_end {σ = σ} {t = u}) i j k =
        (run skip σ (b.over + t), waits x (subst (λ (o : ℕ). Steps n (run p (declared script) b.total) (run skip σ o)) k ss) (sym i))

-- a refusal other than 19 is within the limit
in_limit : {V : Type 0} (N : Numbers V) (all : List Line) (b : Bench V) (t a k l f : ℕ) → (k ≡ 19 → ⊥) → advance N all b t a ≡ refused k l f → b.total + t ≤ 2147483647
in_limit N all b t a k l f other = by (ltb 2147483647 (b.total + t)) refl
  where
    by : (x : Bool) → ltb 2147483647 (b.total + t) ≡ x → advanced N all b t a x ≡ refused k l f → b.total + t ≤ 2147483647
    by true i e = absurd (other (sym (numbers_agree e)))
    by false i e = ltb-false 2147483647 (b.total + t) i

module _ (script : List Line) (p : Prog) (spelled : ProgramOf script p) (smooth : Smooth (length (declared script)) p)
    {V : Type 0} (N : Numbers V) (R : Frac → V → Type 0) (C : Carries exact N R) (vs : List V) (each : Each R (declared script) vs) where
  -- a bench in unlimited fractions that stands for b, with the program left there, with which the rules go on
  record Ready (b : Bench V) (t : ℕ) : Type 0 where
    pub twin : Bench Frac
    pub alike : Related R twin b
    pub program : Prog
    pub left : Left script (place_of script twin) program
    pub resumes : Resumes script vs b t (run program twin.values (twin.over + t))

  shows_same : {last : ℕ} {c : Config} (d : Bench Frac) (b : Bench V) → Related R d b → Shows last c (standing d) → Shows last c (record { values = d.values; line = b.line; left = b.left; over = b.over })
  shows_same d b x h = rw (← x.line, ← x.left, ← x.over) h

  -- the machine comes to every standing on the curve
  on_from : (b : Bench V) → b.total ≤ 2147483647 → StandsAt R N script b.total b → On script p spelled smooth N R C b
  on_from b small s =
      let on = s.curve in
      let (twin, e, q) = follows_rules.off_the_curve script b.total on.steps _ on small (omega arith) in
      let w = subst (Totals (0 + b.total)) e (advance_total exact script (new script (declared script)) b.total on.steps) in
      record {
        twin = twin;
        alike = record {
          line = ap (λ (x : Standing). x.line) q;
          left = ap (λ (x : Standing). x.left) q;
          total = w ∙ zero-add b.total;
          over = ap (λ (x : Standing). x.over) q;
          values = subst (λ (σ : Env). Each R σ b.values) (sym (ap (λ (x : Standing). x.values) q)) s.meant;
        };
        stood = first_stood script p spelled smooth twin b.total on.steps on.steps b.over e;
      }

  ready_on : (b : Bench V) (t : ℕ) (twin : Bench Frac) → Related R twin b → {n : ℕ} {c : Config} → Steps n (run p (declared script) b.total) c →
      Shows (suc (length script)) c (standing twin) → GoesOn script twin c → Ready b t
  ready_on b t twin alike runs shows (from_stop {p = q} l z y) =
      let i : t ≡ twin.over + t = omega arith in
      let h = subst₂ (Heads q) alike.line alike.left (headed shows) in
      record {
        twin = twin;
        alike = alike;
        program = q;
        left = l;
        resumes = subst (λ (u : ℕ). Resumes script vs b t (run q twin.values u)) i (goes_on spelled runs h (sym alike.over ∙ z));
      }
  ready_on b t twin alike {n} runs shows (from_end {p = q} l y) =
      let (i, h) = at_last shows in
      let ss = subst₂ (λ (x : Prog) (o : ℕ). Steps n (run p (declared script) b.total) (run x twin.values o)) i alike.over runs in
      record {
        twin = twin;
        alike = alike;
        program = q;
        left = l;
        resumes = subst₂ (λ (x : Prog) (o : ℕ). Resumes script vs b t (run x twin.values (o + t))) (sym i) (sym alike.over) (waits spelled ss (sym alike.line ∙ h));
      }

  begin_alike : Related R (new script (declared script)) (new script vs)
  begin_alike = record { line = refl; left = refl; total = refl; over = refl; values = each }

  ready : (b : Bench V) (t : ℕ) → b.total ≤ 2147483647 → Stands R N script vs b → Ready b t
  ready b t small (as_built e) = record {
    twin = new script (declared script);
    alike = subst (Related R (new script (declared script))) (sym e) begin_alike;
    program = p;
    left = follows_rules.starts script p spelled;
    resumes = subst (λ (u : ℕ). Resumes script vs b t (run p (declared script) u)) (sym (zero-add t)) (starts e spelled);
  }
  ready b t small (on_curve s) = let o = on_from b small s in ready_on b t o.twin o.alike o.stood.runs o.stood.shows o.stood.goes

  resumed : (b : Bench V) (t : ℕ) → Stands R N script vs b → (c : Config) × Resumes script vs b t c
  resumed b t (as_built e) = (run p (declared script) t, starts e spelled)
  resumed b t (on_curve s) = shown_way script vs b t s.curve.spelled s.curve.runs s.curve.shows refl refl refl

  module _ (b : Bench V) (st : Stands R N script vs b) (t a : ℕ) where
    abbrev from : Config
    from = (resumed b t st).0

    -- what holds of the configuration with which the machine goes on, holds of that of the rules
    carried : (P : Config → Type 0) (r : Ready b t) → P (run r.program r.twin.values (r.twin.over + t)) → P from
    carried P r = subst P (one_way script vs b t r.resumes (resumed b t st).1)

    back : (P : Config → Type 0) (r : Ready b t) → P from → P (run r.program r.twin.values (r.twin.over + t))
    back P r = subst P (one_way script vs b t (resumed b t st).1 r.resumes)

    module _ (k o : ℕ) (c : Bench V) (e : advance N script b t a ≡ accepted k o c) where
      small : b.total + t ≤ 2147483647
      small = never_over N script b t a k o c e

      here_ready : Ready b t
      here_ready = ready b t (let h = small in omega arith) st

      exactly : (d : Bench Frac) × (advance exact script here_ready.twin t a ≡ accepted k o d) × Related R d c
      exactly = (simulation exact N R C script here_ready.twin b t a here_ready.alike).0 k o c e

      total : c.total ≡ b.total + t
      total = subst (Totals (b.total + t)) e (advance_total N script b t a)

      ruled : (k ≤ a) × ((end : Config) × Steps k from end × ShowsBench R script end c)
      ruled =
          let r = here_ready in
          let (d, f, x) = exactly in
          let (end, m, ss, shows, _) = follows_rules.any_bench script r.twin r.program t a r.left k o d f in
          (m, (end, carried (λ (y : Config). Steps k y end) r ss, (d.values, x.values, shows_same d c x shows)))

      not_refused : (i l f : ℕ) → advance exact script here_ready.twin t a ≡ refused i l f → ⊥
      not_refused i l f h = never (sym h ∙ exactly.1)

      twin_small : here_ready.twin.total + t ≤ 2147483647
      twin_small = let h = small in omega (arith, here_ready.alike.total)

      not_failing : FailsWithin a from → ⊥
      not_failing h =
          let r = here_ready in
          let (i, l, f, _, z) = (follows_rules.fails_exactly script r.twin r.program t a r.left twin_small).1 (back (FailsWithin a) r h) in
          not_refused i l f z

      not_short : Unfinished a from → ⊥
      not_short h =
          let r = here_ready in
          let (i, l, f, _, z) = (follows_rules.short_exactly script r.twin r.program t a r.left twin_small).1 (back (Unfinished a) r h) in
          not_refused i l f z

    -- on the curve
    on_after : (k o : ℕ) (c : Bench V) → advance N script b t a ≡ accepted k o c → Stands R N script vs b → On script p spelled smooth N R C c
    on_after k o c e (as_built i) = first_on script p spelled smooth N R C vs each t a k o c (subst (λ (x : Bench V). advance N script x t a ≡ accepted k o c) i e)
    on_after k o c e (on_curve s) = accepted_on script p spelled smooth N R C b t a k o c e (on_from b (let h = small k o c e in omega arith) s)

    module _ (k l f : ℕ) (h : Err k) (e : advance N script b t a ≡ refused k l f) where
      fault_small : b.total + t ≤ 2147483647
      fault_small = in_limit N script b t a k l f (not_19 h) e
        where
          not_19 : Err k → k ≡ 19 → ⊥
          not_19 (inl i) j = omega arith
          not_19 (inr i) j = omega arith

      fails : FailsWithin a from
      fails =
          let r = ready b t (let y = fault_small in omega arith) st in
          let w = low_err k h in
          let s = (simulation exact N R C script r.twin b t a r.alike).1 k l f w.0 w.1 e in
          carried (FailsWithin a) r (failed_told script r.twin r.program t a r.left (k, l, f, h, s))

      fails_at : Stands R N script vs b → (j : ℕ) × Steps j (run p (declared script) (b.total + t)) err
      fails_at (as_built i) =
          let z : b.total ≡ 0 = ap (λ (x : Bench V). x.total) i in
          let w = low_err k h in
          let s = (simulation exact N R C script (new script (declared script)) b t a (subst (Related R (new script (declared script))) (sym i) begin_alike)).1 k l f w.0 w.1 e in
          let (j, _, ss) = failed_told script (new script (declared script)) p t a (follows_rules.starts script p spelled) (k, l, f, h, s) in
          let n : 0 + t ≡ b.total + t = omega arith in
          (j, subst (λ (u : ℕ). Steps j (run p (declared script) u) err) n ss)
      fails_at (on_curve s) =
          let x = on_from b (let y = fault_small in omega arith) s in
          let w = low_err k h in
          let u = (simulation exact N R C script x.twin b t a x.alike).1 k l f w.0 w.1 e in
          fail_on script p spelled smooth b.total x.stood.count x.twin t a k l f h x.stood.runs x.stood.goes u

      nothing : (T : ℕ) (s : Standing) → b.total + t ≤ T → Curve script T s → ⊥
      nothing T s = let (j, ss) = fails_at st in none_later script p spelled smooth (b.total + t) j T s ss

    short : (l f : ℕ) → advance N script b t a ≡ refused 20 l f → Unfinished a from
    short l f e =
        let w = in_limit N script b t a 20 l f (λ i. omega arith) e in
        let r = ready b t (omega arith) st in
        let s = (simulation exact N R C script r.twin b t a r.alike).1 20 l f (omega arith) (omega arith) e in
        carried (Unfinished a) r ((follows_rules.short_exactly script r.twin r.program t a r.left (omega (arith, r.alike.total))).0 (20, l, f, refl, s))

    stands_after : (k o : ℕ) (c : Bench V) → advance N script b t a ≡ accepted k o c → (T : ℕ) → c.total ≡ T → StandsAt R N script T c
    stands_after k o c e T i = begun_curve script p spelled smooth N R C vs each c T i (on_after k o c e st)

    lawful : Lawful R N script vs b t a (advance N script b t a)
    lawful = record {
      from = from;
      resumes = (resumed b t st).1;
      only = λ c r. one_way script vs b t r (resumed b t st).1;
      counted = λ k o c e. (total k o c e, subst Overs e (advance_over N script b t a), (ruled k o c e).0);
      stands = λ k o c e. stands_after k o c e (b.total + t) (total k o c e);
      again = λ k o c e. on_curve (stands_after k o c e c.total refl);
      steps = λ k o c e. (ruled k o c e).1;
      fails = fails;
      nothing = nothing;
      short = short;
      not_failing = λ h k o c e. not_failing k o c e h;
      not_short = λ h k o c e. not_short k o c e h;
    }

pub advance_law : AdvanceLaw
advance_law means code laws script p spelled shallow vs each b st t a =
    lawful script p spelled (shallow_smooth (length (declared script)) p shallow) (numbers_of means code) (Meant means) (pairs_carry means code laws) vs each b st t a

-- After any calls.
calls_stand : {V : Type 0} (R : Frac → V → Type 0) (N : Numbers V) (script : List Line) (vs : List V) (cs : List Call) → ComesTo R N script vs cs →
    (x : Bool) → some_accepted N script (new script vs) cs ≡ x → Stands R N script vs (after_calls N script (new script vs) cs)
calls_stand R N script vs cs h true i = on_curve (subst (λ (T : ℕ). StandsAt R N script T (after_calls N script (new script vs) cs)) (sym h.total) (h.on_curve i))
calls_stand R N script vs cs h false i = as_built (h.unmoved i)

pub always_stands : AlwaysStands
always_stands means code laws script p spelled shallow vs each cs =
    calls_stand (Meant means) (numbers_of means code) script vs cs (promise_kept means code laws script p spelled shallow vs each cs) _ refl

-- Two benches on one curve.
module _ (means means' : Pair → Option Frac) (code code' : Frac → Option Pair) (script : List Line) where
  on_one_curve : (T : ℕ) (b c : Bench Pair) → StandsAt (Meant means) (numbers_of means code) script T b → StandsAt (Meant means') (numbers_of means' code') script T c →
      b.total ≡ c.total → Alike means means' b c
  on_one_curve T b c s s' e = curve_alike means means' script T b c s.values s'.values s.meant s'.meant e s.curve s'.curve

  module _ (vs vs' : List Pair) (each : Each (Meant means) (declared script) vs) (each' : Each (Meant means') (declared script) vs') (b c : Bench Pair) where
    in_one_way : (s : Stands (Meant means) (numbers_of means code) script vs b) (s' : Stands (Meant means') (numbers_of means' code') script vs' c) → SameWay s s' →
        b.total ≡ c.total → Alike means means' b c
    in_one_way (as_built e) (as_built f) w i = subst₂ (Alike means means') (sym e) (sym f) (new_alike means means' script vs vs' each each')
    in_one_way (as_built e) (on_curve u) w i = absurd w
    in_one_way (on_curve s) (as_built f) w i = absurd w
    in_one_way (on_curve s) (on_curve u) w i =
        on_one_curve b.total b c s (subst (λ (T : ℕ). StandsAt (Meant means') (numbers_of means' code') script T c) (sym i) u) i

pub alike_on_curve : AlikeOnCurve
alike_on_curve = record { curve = on_one_curve; standing = in_one_way }
