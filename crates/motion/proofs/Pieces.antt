-- Two pieces and the whole: the same bench, and the steps.
use Rattle.std.proofs.Common.{◌≡◌, ℕ, suc, ◌+◌, ◌<◌, ◌≤◌, Bool, true, false, cond, ltb, List, length, sym, refl, ap, ◌∙◌, subst, zero-add, arith, ltb-false, ltb-true}
use Rattle.number.specs.Frac.{Frac}
use Rattle.motion.specs.Numbers.{Numbers, exact}
use Rattle.motion.specs.Lines.{Line}
use Rattle.motion.specs.Program.{Prog}
use Rattle.motion.specs.Machine.{Bench, accepted, advance, place_of, new}
use Rattle.motion.specs.NextLine.{declared}
use Rattle.motion.specs.Rules.{Config, run, Steps, done, more, Shows, ProgramOf}
use Rattle.motion.specs.Remaining.{Left}
use Rattle.motion.specs.Agreement.{standing, GoesOn, from_stop, from_end}
use Rattle.motion.specs.Cuts.{Smooth}
use Rattle.motion.specs.Carriers.{Each, Carries, Related}
use Rattle.motion.specs.Pairs.{numbers_of, Meant}
use Rattle.motion.specs.Calls.{Call, after_calls, some_accepted}
use Rattle.motion.specs.Pieces.{resumed, PiecesJoin, PiecesCount}
use Rattle.motion.proofs.Determinism.{shown_resting, rest_once}
use Rattle.motion.proofs.Cuts.{stops_agree, more_ticks, Kept, steps_kept}
use Rattle.motion.proofs.Advance.{Overs, advance_over}
use Rattle.motion.proofs.Conversely.{advance_says, read_answer}
use Rattle.motion.proofs.Agreement.{follows_rules}
use Rattle.motion.proofs.Calls.{advance_total, Totals, never_over, calls_begun, calls_still}
use Rattle.motion.proofs.Simulation.{simulation}
use Rattle.motion.proofs.FlowLaw.{shallow_smooth}
use Rattle.motion.proofs.Pairs.{pairs_carry}

join : {j k : ℕ} {c d e : Config} → Steps j c d → Steps k d e → Steps (j + k) c e
join {k = k} {c = c} {e = e} done s = subst (λ (n : ℕ). Steps n c e) (sym (zero-add k)) s
join {k = k} {c = c} {e = e} (more {n = j} r s) u = let i : suc (j + k) ≡ suc j + k = omega arith in subst (λ (n : ℕ). Steps n c e) i (more r (join s u))

-- two benches that stand alike with one total are one
one_bench : (b c : Bench Frac) → standing b ≡ standing c → b.total ≡ c.total → b ≡ c
one_bench b c q t = λ i. record { line = (q i).line; left = (q i).left; total = t i; over = (q i).over; values = (q i).values }

in_stretch : {V : Type 0} (c : Bench V) → 0 < c.left → resumed c ≡ 1
in_stretch c h = by (ltb 0 c.left) refl
  where
    by : (x : Bool) → ltb 0 c.left ≡ x → ◌≡◌ {A = ℕ} (cond x 1 0) 1
    by true i = refl
    by false i = let k = ltb-false 0 c.left i in absurd (omega arith)

in_none : {V : Type 0} (c : Bench V) → c.left ≡ 0 → resumed c ≡ 0
in_none c h = by (ltb 0 c.left) refl
  where
    by : (x : Bool) → ltb 0 c.left ≡ x → ◌≡◌ {A = ℕ} (cond x 1 0) 0
    by true i = let k = ltb-true 0 c.left i in absurd (omega arith)
    by false i = refl

module _ (script : List Line) (p : Prog) (b c d : Bench Frac) (s t a a' m n o o' : ℕ) (left : Left script (place_of script b) p) (smooth : Smooth (length b.values) p)
    (first : advance exact script b s a ≡ accepted m o c) (second : advance exact script c t a' ≡ accepted n o' d) where
  -- the rules make the whole run in k steps
  whole_run : (g : Config) → Steps m (run p b.values (b.over + s)) g → GoesOn script c g →
      (k : ℕ) × (k + resumed c ≡ m + n) × (h : Config) × Steps k (run p b.values (b.over + (s + t))) h × Shows (suc (length script)) h (standing d)
  whole_run g ss (from_stop {p = q} l z y) =
      let (h, _, us, shows, _) = follows_rules.any_bench script c q t a' l n o' d second in
      let i : c.over + t ≡ t = omega arith in
      let r = stops_agree p q b.values c.values (b.over + s) t m n h smooth ss (rw i at us) (shown_resting shows) in
      let e : b.over + s + t ≡ b.over + (s + t) = omega arith in
      let w = in_stretch c y in
      (r.0, omega arith, h, subst (λ (x : ℕ). Steps r.0 (run p b.values x) h) e r.2, shows)
  whole_run g ss (from_end {p = q} l y) =
      let (h, _, us, shows, _) = follows_rules.any_bench script c q t a' l n o' d second in
      let e : b.over + s + t ≡ b.over + (s + t) = omega arith in
      let w = in_none c y in
      (m + n, omega arith, h, subst (λ (x : ℕ). Steps (m + n) (run p b.values x) h) e (join (more_ticks t ss) us), shows)

  module _ (k : ℕ) (h : Config) (runs : Steps k (run p b.values (b.over + (s + t))) h) (shows : Shows (suc (length script)) h (standing d)) (a'' : ℕ) (enough : k ≤ a'') where
    in_limit : b.total + (s + t) ≤ 2147483647
    in_limit =
        let u = subst (Totals (b.total + s)) first (advance_total exact script b s a) in
        let v = never_over exact script c t a' n o' d second in
        omega arith

    one_piece : advance exact script b (s + t) a'' ≡ accepted k o' d
    one_piece =
        let (k', w, d', e, q) = read_answer script _ shows (advance_says script b p (s + t) a'' left in_limit k h runs (shown_resting shows) enough) in
        let (h', _, us, shows', _) = follows_rules.any_bench script b p (s + t) a'' left k' w d' e in
        let one = rest_once _ _ _ k k' runs (shown_resting shows) us (shown_resting shows') in
        let u = subst (Totals (b.total + s)) first (advance_total exact script b s a) in
        let v = subst (Totals (c.total + t)) second (advance_total exact script c t a') in
        let x = subst (Totals (b.total + (s + t))) e (advance_total exact script b (s + t) a'') in
        let y : d' ≡ d = one_bench d' d q (omega arith) in
        let z = subst Overs e (advance_over exact script b (s + t) a'') in
        let z' = subst Overs second (advance_over exact script c t a') in
        let f : w ≡ o' = z ∙ ap (λ (x : Bench Frac). x.over) y ∙ sym z' in
        let g : k' ≡ k = sym one.1 in
        e ∙ cc

pub pieces_join : PiecesJoin
pieces_join script p b c d s t a a' m n o o' left smooth first second =
    let (g, _, ss, _, on) = follows_rules.any_bench script b p s a left m o c first in
    let (k, count, h, runs, shows) = whole_run script p b c d s t a a' m n o o' left smooth first second g ss on in
    (k, count, one_piece script p b c d s t a a' m n o o' left smooth first second k h runs shows)

-- In other numbers.
module _ (script : List Line) (p : Prog) (spelled : ProgramOf script p) (smooth : Smooth (length (declared script)) p) {V : Type 0} (N : Numbers V) (R : Frac → V → Type 0) (C : Carries exact N R) where
  -- a bench in unlimited fractions that stands for b, and the program left there
  record Ready (b : Bench V) : Type 0 where
    pub twin : Bench Frac
    pub alike : Related R twin b
    pub program : Prog
    pub left : Left script (place_of script twin) program
    pub law : Smooth (length twin.values) program

  from_on : (b : Bench V) (twin : Bench Frac) → Related R twin b → {c : Config} → GoesOn script twin c → Kept (length (declared script)) c → Ready b
  from_on b twin alike (from_stop {p = q} h z y) (l, x) = record { twin = twin; alike = alike; program = q; left = h; law = rw l x }
  from_on b twin alike (from_end {p = q} h y) (l, x) = record { twin = twin; alike = alike; program = q; left = h; law = rw l x }

  module _ (vs : List V) (each : Each R (declared script) vs) where
    at_start : Ready (new script vs)
    at_start = record {
      twin = new script (declared script);
      alike = record { line = refl; left = refl; total = refl; over = refl; values = each };
      program = p;
      left = follows_rules.starts script p spelled;
      law = smooth;
    }

    ready_after : (cs : List Call) (x : Bool) → some_accepted N script (new script vs) cs ≡ x → Ready (after_calls N script (new script vs) cs)
    ready_after cs true i =
        let o = calls_begun script p spelled smooth N R C vs each cs i in
        from_on _ o.twin o.alike o.stood.goes (steps_kept (length (declared script)) o.stood.runs (refl, smooth))
    ready_after cs false i = subst Ready (sym (calls_still N script (new script vs) cs i)) at_start

  module _ (b c d e : Bench V) (s t a a' a'' m n k o o' o'' : ℕ) (r : Ready b)
      (first : advance N script b s a ≡ accepted m o c) (second : advance N script c t a' ≡ accepted n o' d) (both : advance N script b (s + t) a'' ≡ accepted k o'' e) where
    count : k + resumed c ≡ m + n
    count =
        let f = (simulation exact N R C script r.twin b s a r.alike).0 m o c first in
        let g = (simulation exact N R C script f.0 c t a' f.2).0 n o' d second in
        let h = (simulation exact N R C script r.twin b (s + t) a'' r.alike).0 k o'' e both in
        let (k', sum, whole) = pieces_join script r.program r.twin f.0 g.0 s t a a' m n o o' r.left r.law f.1 g.1 in
        let (u, _, us, shows, _) = follows_rules.any_bench script r.twin r.program (s + t) a'' r.left k o'' h.0 h.1 in
        let (v, _, vs, shown, _) = follows_rules.any_bench script r.twin r.program (s + t) k' r.left k' o' g.0 (whole k' (omega arith)) in
        let one = rest_once (run r.program r.twin.values (r.twin.over + (s + t))) u v k k' us (shown_resting {c = u} shows) vs (shown_resting {c = v} shown) in
        let same : resumed f.0 ≡ resumed c = ap (λ (x : ℕ). cond (ltb 0 x) 1 0) f.2.left in
        omega (arith, one.1)

pub pieces_count : PiecesCount
pieces_count means code laws script p spelled shallow vs each cs c d e s t a a' a'' m n k o o' o'' =
    let smooth = shallow_smooth (length (declared script)) p shallow in
    let carries = pairs_carry means code laws in
    count script p spelled smooth (numbers_of means code) (Meant means) carries _ c d e s t a a' a'' m n k o o' o''
    (ready_after script p spelled smooth (numbers_of means code) (Meant means) carries vs each cs _ refl)
