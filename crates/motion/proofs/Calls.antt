-- Many calls on one bench.
use Rattle.std.proofs.Common.{◌≡◌, ℕ, zero, suc, ◌+◌, ◌-◌, ◌≤◌, Bool, true, false, ◌||◌, ltb, List, [], ◌∷◌, length, sym, refl, ap, ◌∙◌, subst, inl, inr, zero-add, arith, ltb-false}
use borrow.Author.Tests.{clash}
use Rattle.number.specs.Frac.{Frac}
use Rattle.motion.specs.Numbers.{Numbers, exact}
use Rattle.motion.specs.Lines.{Line}
use Rattle.motion.specs.Program.{Prog}
use Rattle.motion.specs.Machine.{Bench, Answer, accepted, refused, advance, advanced, Place, at, inside, ended, Stepped, go, stop, fail, stretch, step, after, loop, place_at, place_of, new}
use Rattle.motion.specs.NextLine.{line_at, declared}
use Rattle.motion.specs.Rules.{Config, run, err, failed, Steps, done, more, Standing, Shows, Curve, ProgramOf}
use Rattle.motion.specs.Agreement.{Err, standing, GoesOn, from_stop, from_end}
use Rattle.motion.specs.Items.{nth}
use Rattle.motion.specs.Flow.{then}
use Rattle.motion.specs.Carriers.{Each, nil, cons, Carries, Related}
use Rattle.motion.specs.Cuts.{Smooth}
use Rattle.motion.specs.Calls.{Call, advances, reads, asks_joint, writes, hands_over, bench_after, ticks_taken, was_accepted, called, call_ticks, after_calls, ticks_accepted, some_accepted, StandsAt, ComesTo, TotalIsSum, ExactCalls}
use Rattle.motion.proofs.Determinism.{shown_resting, standing_once, rest_once}
use Rattle.motion.proofs.Cuts.{stops_agree, errs_agree, more_ticks}
use Rattle.motion.proofs.Simulation.{simulation, exact_carries, each_same}
use Rattle.motion.proofs.Agreement.{failed_told, follows_rules}

-- the total of an accepted answer
abbrev pub Totals : {V : Type 0} → ℕ → Answer V → Type 0
Totals n (accepted steps over c) = c.total ≡ n
Totals n (refused k l f) = Unit {0}

module _ {V : Type 0} (N : Numbers V) (all : List Line) where
  after_total : (f : ℕ → List V → ℕ → Place → Answer V) (total : ℕ) → ((steps : ℕ) (e : List V) (t : ℕ) (p : Place) → Totals total (f steps e t p)) →
      (steps : ℕ) (s : Stepped V) → Totals total (after f all steps total s)
  after_total f total h steps (go n e t) = h (suc steps) e t (place_at all n)
  after_total f total h steps (stop n d e) = refl
  after_total f total h steps (fail k n g) = tt

  loop_total : (total a steps : ℕ) (e : List V) (t : ℕ) (p : Place) → Totals total (loop N all total a steps e t p)
  loop_total total zero steps e t ended = refl
  loop_total total (suc a) steps e t ended = refl
  loop_total total zero steps e t (at n) = tt
  loop_total total zero steps e t (inside n d) = tt
  loop_total total (suc a) steps e t (at n) = after_total (loop N all total a) total (loop_total total a) steps (step N all e t n (line_at all n))
  loop_total total (suc a) steps e t (inside n d) = after_total (loop N all total a) total (loop_total total a) steps (stretch N all e t n d)

  advanced_total : (b : Bench V) (t a : ℕ) (o : Bool) → Totals (b.total + t) (advanced N all b t a o)
  advanced_total b t a true = tt
  advanced_total b t a false = loop_total (b.total + t) a 0 b.values (b.over + t) (place_of all b)

  pub advance_total : (b : Bench V) (t a : ℕ) → Totals (b.total + t) (advance N all b t a)
  advance_total b t a = advanced_total b t a (ltb 2147483647 (b.total + t))

  -- an advance that is accepted is within the limit
  pub never_over : (b : Bench V) (t a n o : ℕ) (c : Bench V) → advance N all b t a ≡ accepted n o c → b.total + t ≤ 2147483647
  never_over b t a n o c = by (ltb 2147483647 (b.total + t)) refl
    where
      by : (x : Bool) → ltb 2147483647 (b.total + t) ≡ x → advanced N all b t a x ≡ accepted n o c → b.total + t ≤ 2147483647
      by true i e = let z : ◌≡◌ {A = ℕ} 0 1 = cc in omega arith
      by false i e = ltb-false 2147483647 (b.total + t) i

  taken_total : (b : Bench V) (t : ℕ) (x : Answer V) → Totals (b.total + t) x → (bench_after b x).total ≡ b.total + ticks_taken t x
  taken_total b t (accepted steps over c) h = h
  taken_total b t (refused k l f) h = omega arith

  called_total : (b : Bench V) (c : Call) → (called N all b c).total ≡ b.total + call_ticks N all b c
  called_total b (advances t a) = taken_total b t (advance N all b t a) (advance_total b t a)
  called_total b (reads x) = omega arith
  called_total b asks_joint = omega arith
  called_total b (writes n) = omega arith
  called_total b (hands_over n) = omega arith

  calls_total : (b : Bench V) (cs : List Call) → (after_calls N all b cs).total ≡ b.total + ticks_accepted N all b cs
  calls_total b [] = omega arith
  calls_total b (c ∷ cs) = omega (arith, called_total b c, calls_total (called N all b c) cs)

  -- where nothing was accepted, nothing has changed
  answered_still : (b : Bench V) (x : Answer V) (cs : List Call) → (some_accepted N all b cs ≡ false → after_calls N all b cs ≡ b) →
      (was_accepted x || some_accepted N all (bench_after b x) cs) ≡ false → after_calls N all (bench_after b x) cs ≡ b
  answered_still b (accepted steps over c) cs ih h = absurd (clash (sym h))
  answered_still b (refused k l f) cs ih h = ih h

  pub calls_still : (b : Bench V) (cs : List Call) → some_accepted N all b cs ≡ false → after_calls N all b cs ≡ b
  calls_still b [] h = refl
  calls_still b (advances t a ∷ cs) h = answered_still b (advance N all b t a) cs (calls_still b cs) h
  calls_still b (reads x ∷ cs) h = calls_still b cs h
  calls_still b (asks_joint ∷ cs) h = calls_still b cs h
  calls_still b (writes n ∷ cs) h = calls_still b cs h
  calls_still b (hands_over n ∷ cs) h = calls_still b cs h

pub totals : (V : Type 0) → TotalIsSum V
totals V N all b cs = calls_total N all b cs

pub low_err : (k : ℕ) → Err k → (19 ≤ k) × (k ≤ 22)
low_err k (inl e) = omega arith
low_err k (inr e) = omega arith

no_show : {last : ℕ} {s : Standing} → Shows last err s → ⊥
no_show h = elim h [ ]

append : {j k : ℕ} {c d e : Config} → Steps j c d → Steps k d e → (i : ℕ) × Steps i c e
append {k = k} done s = (k, s)
append (more r s) u = let w = append s u in (suc w.0, more r w.1)

module _ (script : List Line) (p : Prog) where
  abbrev last : ℕ
  last = suc (length script)

  -- the rules come in T ticks to where the bench stands, and go on from there as the bench does
  pub record Stood (T : ℕ) (b : Bench Frac) : Type 0 where
    pub count : ℕ
    pub end : Config
    pub runs : Steps count (run p (declared script) T) end
    pub shows : Shows last end (standing b)
    pub goes : GoesOn script b end

  one_bench : (T : ℕ) (b c : Bench Frac) → Stood T b → Stood T c → standing b ≡ standing c
  one_bench T b c s u = standing_once last (run p (declared script) T) s.end u.end s.count u.count (standing b) (standing c) s.runs s.shows u.runs u.shows

  module _ (spelled : ProgramOf script p) (smooth : Smooth (length (declared script)) p) where
    go_on : (T n : ℕ) {d : Config} (b c : Bench Frac) (t a steps over : ℕ) → Steps n (run p (declared script) T) d → GoesOn script b d → advance exact script b t a ≡ accepted steps over c → Stood (T + t) c
    go_on T n b c t a steps over ss (from_stop {p = q} l z y) e =
        let (d, _, s, h, g) = follows_rules.any_bench script b q t a l steps over c e in
        let i : b.over + t ≡ t = omega arith in
        let r = stops_agree p q (declared script) b.values T t n steps d smooth ss (rw i at s) (shown_resting h) in
        record { count = r.0; end = d; runs = r.2; shows = h; goes = g }
    go_on T n b c t a steps over ss (from_end {p = q} l y) e =
        let (d, _, s, h, g) = follows_rules.any_bench script b q t a l steps over c e in
        let r = append (more_ticks t ss) s in
        record { count = r.0; end = d; runs = r.1; shows = h; goes = g }

    -- and where the advance fails, the rules fail
    pub fail_on : (T n : ℕ) {d : Config} (b : Bench Frac) (t a k l f : ℕ) → Err k → Steps n (run p (declared script) T) d → GoesOn script b d → advance exact script b t a ≡ refused k l f →
        (j : ℕ) × Steps j (run p (declared script) (T + t)) err
    fail_on T n b t a k l f h ss (from_stop {p = q} left z y) e =
        let (j, _, s) = failed_told script b q t a left (k, l, f, h, e) in
        let i : b.over + t ≡ t = omega arith in
        let r = stops_agree p q (declared script) b.values T t n j err smooth ss (rw i at s) failed in
        (r.0, r.2)
    fail_on T n b t a k l f h ss (from_end {p = q} left y) e =
        let (j, _, s) = failed_told script b q t a left (k, l, f, h, e) in
        append (more_ticks t ss) s

    -- where the rules fail in n ticks, the curve has nothing then and later
    pub none_later : (n j T : ℕ) (s : Standing) → Steps j (run p (declared script) n) err → n ≤ T → Curve script T s → ⊥
    none_later n j T s r le c =
        let i : n + (T - n) ≡ T = omega arith in
        let u = subst (λ (m : ℕ). Steps j (run p (declared script) m) err) i (errs_agree p (declared script) n (T - n) j r) in
        let q = subst (λ (p : Prog). Steps c.steps (run p (declared script) T) c.end) (follows_rules.one_program _ _ c.program p c.spelled spelled) c.runs in
        let one = rest_once _ _ _ c.steps j q (shown_resting c.shows) u failed in
        no_show (subst (λ (x : Config). Shows last x s) one.0 c.shows)

    abbrev begin : Bench Frac
    begin = new script (declared script)

    pub first_stood : (c : Bench Frac) (t a steps over : ℕ) → advance exact script begin t a ≡ accepted steps over c → Stood t c
    first_stood c t a steps over e =
        let (d, _, s, h, g) = follows_rules.any_bench script begin p t a (follows_rules.starts script p spelled) steps over c e in
        record { count = steps; end = d; runs = rw zero-add at s; shows = h; goes = g }

    -- the same of a bench in other numbers
    module _ {V : Type 0} (N : Numbers V) (R : Frac → V → Type 0) (C : Carries exact N R) where
      pub record On (b : Bench V) : Type 0 where
        pub twin : Bench Frac
        pub alike : Related R twin b
        pub stood : Stood b.total twin

      -- a reading is the value that the number stands for
      read_each : {σ : List Frac} {vs : List V} → Each R σ vs → (x : ℕ) → then (nth vs x) N.terms ≡ nth σ x
      read_each nil x = refl
      read_each (cons r rs) zero = sym (C.terms r)
      read_each (cons r rs) (suc x) = read_each rs x

      pub accepted_on : (b : Bench V) (t a steps over : ℕ) (c : Bench V) → advance N script b t a ≡ accepted steps over c → On b → On c
      accepted_on b t a steps over c e o =
          let f = (simulation exact N R C script o.twin b t a o.alike).0 steps over c e in
          let w : c.total ≡ b.total + t = subst (Totals (b.total + t)) e (advance_total N script b t a) in
          record {
            twin = f.0;
            alike = f.2;
            stood = subst (λ (T : ℕ). Stood T f.0) (sym w) (go_on b.total o.stood.count o.twin f.0 t a steps over o.stood.runs o.stood.goes f.1);
          }

      answered_on : (b : Bench V) (t a : ℕ) (x : Answer V) → advance N script b t a ≡ x → On b → On (bench_after b x)
      answered_on b t a (accepted steps over c) e o = accepted_on b t a steps over c e o
      answered_on b t a (refused k l f) e o = o

      called_on : (b : Bench V) (c : Call) → On b → On (called N script b c)
      called_on b (advances t a) o = answered_on b t a (advance N script b t a) refl o
      called_on b (reads x) o = o
      called_on b asks_joint o = o
      called_on b (writes n) o = o
      called_on b (hands_over n) o = o

      calls_on : (b : Bench V) (cs : List Call) → On b → On (after_calls N script b cs)
      calls_on b [] o = o
      calls_on b (c ∷ cs) o = calls_on (called N script b c) cs (called_on b c o)

      module _ (vs : List V) (each : Each R (declared script) vs) where
        abbrev start : Bench V
        start = new script vs

        pub first_on : (t a steps over : ℕ) (c : Bench V) → advance N script start t a ≡ accepted steps over c → On c
        first_on t a steps over c e =
            let f = (simulation exact N R C script begin start t a (record { line = refl; left = refl; total = refl; over = refl; values = each })).0 steps over c e in
            let w : c.total ≡ 0 + t = subst (Totals (0 + t)) e (advance_total N script start t a) in
            let v : c.total ≡ t = omega arith in
            record { twin = f.0; alike = f.2; stood = subst (λ (T : ℕ). Stood T f.0) (sym v) (first_stood f.0 t a steps over f.1) }

        begun : (t a : ℕ) (cs : List Call) (x : Answer V) → advance N script start t a ≡ x →
            (some_accepted N script start cs ≡ true → On (after_calls N script start cs)) →
            (was_accepted x || some_accepted N script (bench_after start x) cs) ≡ true → On (after_calls N script (bench_after start x) cs)
        begun t a cs (accepted steps over c) e ih h = calls_on c cs (first_on t a steps over c e)
        begun t a cs (refused k l f) e ih h = ih h

        pub calls_begun : (cs : List Call) → some_accepted N script start cs ≡ true → On (after_calls N script start cs)
        calls_begun [] h = absurd (clash h)
        calls_begun (advances t a ∷ cs) h = begun t a cs (advance N script start t a) refl (calls_begun cs) h
        calls_begun (reads x ∷ cs) h = calls_begun cs h
        calls_begun (asks_joint ∷ cs) h = calls_begun cs h
        calls_begun (writes n ∷ cs) h = calls_begun cs h
        calls_begun (hands_over n ∷ cs) h = calls_begun cs h

        begun_total : (cs : List Call) → (after_calls N script start cs).total ≡ ticks_accepted N script start cs
        begun_total cs = calls_total N script start cs ∙ zero-add _

        -- an advance that is refused by 21 or 22, after any calls
        fails_at : (cs : List Call) (x : Bool) (t a k l f : ℕ) → some_accepted N script start cs ≡ x → Err k → advance N script (after_calls N script start cs) t a ≡ refused k l f →
            (j : ℕ) × Steps j (run p (declared script) ((after_calls N script start cs).total + t)) err
        fails_at cs true t a k l f i h e =
            let b = after_calls N script start cs in
            let o = calls_begun cs i in
            let w = low_err k h in
            let s = (simulation exact N R C script o.twin b t a o.alike).1 k l f w.0 w.1 e in
            fail_on b.total o.stood.count o.twin t a k l f h o.stood.runs o.stood.goes s
        fails_at cs false t a k l f i h e =
            let still = calls_still N script start cs i in
            let w = low_err k h in
            let s = (simulation exact N R C script begin start t a (record { line = refl; left = refl; total = refl; over = refl; values = each })).1 k l f w.0 w.1
            (subst (λ (b : Bench V). advance N script b t a ≡ refused k l f) still e) in
            let (j, _, r) = failed_told script begin p t a (follows_rules.starts script p spelled) (k, l, f, h, s) in
            let z : (after_calls N script start cs).total ≡ 0 = ap (λ (b : Bench V). b.total) still in
            (j, rw z r)

        pub nothing_there : (cs : List Call) (t a k l f T : ℕ) (s : Standing) → Err k → advance N script (after_calls N script start cs) t a ≡ refused k l f →
            (after_calls N script start cs).total + t ≤ T → Curve script T s → ⊥
        nothing_there cs t a k l f T s h e le c =
            let b = after_calls N script start cs in
            let (j, r) = fails_at cs (some_accepted N script start cs) t a k l f refl h e in
            none_later (b.total + t) j T s r le c

        pub begun_curve : (b : Bench V) (T : ℕ) → b.total ≡ T → On b → StandsAt R N script T b
        begun_curve b T e o =
            let s = o.stood in
            let q = o.twin in
            let a = o.alike in
            record {
              values = q.values;
              meant = a.values;
              read = read_each a.values;
              curve = record {
                program = p;
                spelled = spelled;
                steps = s.count;
                end = s.end;
                runs = rw e at s.runs;
                shows = rw (← a.line, ← a.left, ← a.over) s.shows;
              };
            }

        pub comes_to : (cs : List Call) → ComesTo R N script vs cs
        comes_to cs = record {
          total = begun_total cs;
          unmoved = calls_still N script start cs;
          on_curve = λ h. begun_curve (after_calls N script start cs) _ (begun_total cs) (calls_begun cs h);
        }

-- In unlimited fractions.
pub exact_calls : ExactCalls
exact_calls script p spelled smooth cs = comes_to script p spelled smooth exact (◌≡◌ {A = Frac}) exact_carries (declared script) (each_same (declared script)) cs
