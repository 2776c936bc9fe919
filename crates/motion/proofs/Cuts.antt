-- A run does not depend on where it was cut.
use Rattle.std.proofs.Common.{◌≡◌, ℕ, suc, ◌+◌, ◌-◌, ◌<◌, ◌≤◌, List, length, Some, sym, refl, ◌∙◌, subst, arith, length-set}
use Rattle.motion.specs.Numbers.{exact}
use Rattle.motion.specs.Lines.{Rate}
use Rattle.motion.specs.Flow.{flow}
use Rattle.motion.specs.Program.{Prog, skip, assign, evolve, rest, branch, repeat, seq, ◌⨟◌}
use Rattle.motion.specs.Rules.{Env, Config, run, stop, err, ◌⟶◌, set_to, set_fails, evolve_stop, evolve_through, evolve_fails, rest_stop, rest_through, if_true, if_false, if_fails, while_true, while_false, while_fails, seq_stop, seq_run, seq_fails, Steps, done, more, Resting, stopped, failed}
use Rattle.motion.proofs.Determinism.{resting, rests_at}
use Rattle.motion.proofs.Lengths.{flow_length}
use Rattle.motion.specs.Cuts.{Flows, Smooth, CutStop, CutEnd, CutErr}

moved : (s d t : ℕ) → d ≤ s → s - d + t ≡ s + t - d
moved s d t h = omega arith

run_more : {p p' : Prog} {σ τ : Env} {s u : ℕ} → run p σ s ⟶ run p' τ u → (t : ℕ) → run p σ (s + t) ⟶ run p' τ (u + t)
run_more (set_to h) t = set_to h
run_more (evolve_through {t = s} {d = d} a b f) t = let h : d ≤ s + t = omega arith in rw (moved s d t b) (evolve_through a h f)
run_more (rest_through {t = s} {d = d} b f) t = let h : d ≤ s + t = omega arith in rw (moved s d t b) (rest_through h f)
run_more (if_true h) t = if_true h
run_more (if_false h) t = if_false h
run_more (while_true h) t = while_true h
run_more (while_false h) t = while_false h
run_more (seq_run h) t = seq_run (run_more h t)

err_more : {p : Prog} {σ : Env} {s : ℕ} → run p σ s ⟶ err → (t : ℕ) → run p σ (s + t) ⟶ err
err_more (set_fails h) t = set_fails h
err_more (evolve_fails h) t = evolve_fails h
err_more (if_fails h) t = if_fails h
err_more (while_fails h) t = while_fails h
err_more (seq_fails h) t = seq_fails (err_more h t)

smooth_then : (w : ℕ) (p q : Prog) → Smooth w p → Smooth w q → Smooth w (p ⨟ q)
smooth_then w skip q x y = y
smooth_then w (assign l v e) q x y = (x, y)
smooth_then w (evolve l e r) q x y = (x, y)
smooth_then w (rest l d r) q x y = (x, y)
smooth_then w (branch l e a b) q x y = (x, y)
smooth_then w (repeat l e a) q x y = (x, y)
smooth_then w (seq a b) q x y = (x, y)

pub smooth_run : (w : ℕ) {p p' : Prog} {σ τ : Env} {s u : ℕ} → run p σ s ⟶ run p' τ u → Smooth w p → Smooth w p'
smooth_run w (set_to h) x = tt
smooth_run w (evolve_through a b f) x = tt
smooth_run w (rest_through b f) x = tt
smooth_run w (if_true h) x = x.0
smooth_run w (if_false h) x = x.1
smooth_run w (while_true {l = l} {e = e} {a = a} h) x = smooth_then w a (repeat l e a) x x
smooth_run w (while_false h) x = tt
smooth_run w (seq_run {p' = p'} {q = q} h) x = smooth_then w p' q (smooth_run w h x.0) x.1

pub length_run : {p p' : Prog} {σ τ : Env} {s u : ℕ} → run p σ s ⟶ run p' τ u → length τ ≡ length σ
length_run (set_to {x = x} {σ = σ} {v = v} h) = length-set σ x v
length_run (evolve_through {d = d} {r = r} {σ = σ} {τ = τ} a b f) = flow_length exact r σ d τ f
length_run (rest_through {d = d} {r = r} {σ = σ} {τ = τ} b f) = flow_length exact r σ d τ f
length_run (if_true h) = refl
length_run (if_false h) = refl
length_run (while_true h) = refl
length_run (while_false h) = refl
length_run (seq_run h) = length_run h

smooth_stop : (w : ℕ) {p p' : Prog} {σ τ : Env} {s : ℕ} → run p σ s ⟶ stop p' τ → Smooth w p → Smooth w p'
smooth_stop w (evolve_stop a b f) x = x
smooth_stop w (rest_stop b f) x = x
smooth_stop w (seq_stop h) x = (smooth_stop w h x.0, x.1)

length_stop : {p p' : Prog} {σ τ : Env} {s : ℕ} → run p σ s ⟶ stop p' τ → length τ ≡ length σ
length_stop (evolve_stop {t = t} {r = r} {σ = σ} {τ = τ} a b f) = flow_length exact r σ t τ f
length_stop (rest_stop {t = t} {r = r} {σ = σ} {τ = τ} b f) = flow_length exact r σ t τ f
length_stop (seq_stop h) = length_stop h

-- w values, and a program left whose stretches have the flow law: a run keeps both
abbrev pub Kept : ℕ → Config → Type 0
Kept w (run p σ t) = (length σ ≡ w) × Smooth w p
Kept w (stop p σ) = (length σ ≡ w) × Smooth w p
Kept w err = Unit {0}

step_kept : (w : ℕ) {c d : Config} → c ⟶ d → Kept w c → Kept w d
step_kept w {c = run p σ t} {d = run q τ u} r (l, x) = (length_run r ∙ l, smooth_run w r x)
step_kept w {c = run p σ t} {d = stop q τ} r (l, x) = (length_stop r ∙ l, smooth_stop w r x)
step_kept w {c = run p σ t} {d = err} r k = tt
step_kept w {c = stop p σ} r k = elim r [ ]
step_kept w {c = err} r k = elim r [ ]

pub steps_kept : (w : ℕ) {n : ℕ} {c d : Config} → Steps n c d → Kept w c → Kept w d
steps_kept w done k = k
steps_kept w (more r s) k = steps_kept w s (step_kept w r k)

-- the rest of a stretch, after s of its d ticks and then t more
module _ (r : List Rate) (σ τ υ : Env) (s t d : ℕ) (law : Flows (length σ) r) (first : flow exact r σ s ≡ Some τ) (b : s < d) where
  still : t < d - s → (d - s - t ≡ d - (s + t)) × (s + t < d)
  still h = omega arith

  past_it : d - s ≤ t → (t - (d - s) ≡ s + t - d) × (d ≤ s + t) × (s + (d - s) ≡ d)
  past_it h = omega arith

  part_way : flow exact r τ t ≡ Some υ → flow exact r σ (s + t) ≡ Some υ
  part_way h = law σ τ υ s t refl first h

  to_the_end : flow exact r τ (d - s) ≡ Some υ → flow exact r σ d ≡ Some υ
  to_the_end h = let e : s + (d - s) ≡ d = omega arith in rw e at (law σ τ υ s (d - s) refl first h)

go_on : (t : ℕ) {p p' : Prog} {σ τ : Env} {s : ℕ} {c : Config} → run p σ s ⟶ stop p' τ → Smooth (length σ) p → run p' τ t ⟶ c → run p σ (s + t) ⟶ c
go_on t (evolve_stop {t = s} {d = d} {r = r} {σ = σ} {τ = τ} a b f) x (rest_stop {τ = υ} g h) =
    let k = still r σ τ υ s t d x f b g in rw k.0 (evolve_stop a k.1 (part_way r σ τ υ s t d x f b h))
go_on t (evolve_stop {t = s} {d = d} {r = r} {σ = σ} {τ = τ} a b f) x (rest_through {τ = υ} g h) =
    let k = past_it r σ τ υ s t d x f b g in rw k.0 (evolve_through a k.1 (to_the_end r σ τ υ s t d x f b h))
go_on t (rest_stop {t = s} {d = d} {r = r} {σ = σ} {τ = τ} b f) x (rest_stop {τ = υ} g h) =
    let k = still r σ τ υ s t d x f b g in rw k.0 (rest_stop k.1 (part_way r σ τ υ s t d x f b h))
go_on t (rest_stop {t = s} {d = d} {r = r} {σ = σ} {τ = τ} b f) x (rest_through {τ = υ} g h) =
    let k = past_it r σ τ υ s t d x f b g in rw k.0 (rest_through k.1 (to_the_end r σ τ υ s t d x f b h))
go_on t (seq_stop k) x (seq_stop h) = seq_stop (go_on t k x.0 h)
go_on t (seq_stop k) x (seq_run h) = seq_run (go_on t k x.0 h)
go_on t (seq_stop k) x (seq_fails h) = seq_fails (go_on t k x.0 h)

-- a stopped program has something left to do
stop_goes_on : {s : ℕ} {p p' : Prog} {σ τ : Env} → run p σ s ⟶ stop p' τ → p' ≡ skip → ⊥
stop_goes_on (evolve_stop a b f) e = let z : ◌≡◌ {A = ℕ} 0 1 = cc in omega arith
stop_goes_on (rest_stop b f) e = let z : ◌≡◌ {A = ℕ} 0 1 = cc in omega arith
stop_goes_on (seq_stop h) e = let z : ◌≡◌ {A = ℕ} 0 1 = cc in omega arith

cut_stop : (t : ℕ) {p p' : Prog} {σ τ : Env} {s m n : ℕ} {c : Config} → Steps m (run p σ s) (stop p' τ) → Steps n (run p' τ t) c → Resting c → Smooth (length σ) p → (k : ℕ) × (suc k ≡ m + n) × Steps k (run p σ (s + t)) c
cut_stop t {σ = σ} (more {d = run q ρ v} h hs) ss r x =
    let k = cut_stop t hs ss r (subst (λ w. Smooth w q) (sym (length_run h)) (smooth_run (length σ) h x)) in
    (suc k.0, omega arith, more (run_more h t) k.2)
cut_stop t (more {d = stop q ρ} h done) done r x = absurd (stop_goes_on h (rests_at r))
cut_stop t (more {d = stop q ρ} h done) (more {n = n} k ks) r x = (suc n, omega arith, more (go_on t h x k) ks)
cut_stop t (more {d = stop q ρ} h (more k ks)) ss r x = absurd (resting stopped k)
cut_stop t (more {d = err} h (more k ks)) ss r x = absurd (resting failed k)

-- what does not stop does the same with t ticks more
pub more_ticks : (t : ℕ) {p p' : Prog} {σ τ : Env} {s u m : ℕ} → Steps m (run p σ s) (run p' τ u) → Steps m (run p σ (s + t)) (run p' τ (u + t))
more_ticks t done = done
more_ticks t (more {d = run q ρ v} h hs) = more (run_more h t) (more_ticks t hs)
more_ticks t (more {d = stop q ρ} h (more k ks)) = absurd (resting stopped k)
more_ticks t (more {d = err} h (more k ks)) = absurd (resting failed k)

cut_err : (t : ℕ) {p : Prog} {σ : Env} {s m : ℕ} → Steps m (run p σ s) err → Steps m (run p σ (s + t)) err
cut_err t (more {d = run q ρ v} h hs) = more (run_more h t) (cut_err t hs)
cut_err t (more {d = stop q ρ} h (more k ks)) = absurd (resting stopped k)
cut_err t (more {d = err} h done) = more (err_more h t) done
cut_err t (more {d = err} h (more k ks)) = absurd (resting failed k)

pub stops_agree : CutStop
stops_agree p p' σ τ s t m n c x ss ss' r = cut_stop t ss ss' r x

pub ends_agree : CutEnd
ends_agree p σ τ s t u m ss = more_ticks t ss

pub errs_agree : CutErr
errs_agree p σ s t m ss = cut_err t ss
