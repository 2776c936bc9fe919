-- The rules leave no choice.
use Rattle.std.proofs.Common.{◌≡◌, ℕ, suc, ◌⊎◌, length, pos, sym, refl, ap, ◌∙◌, subst, inl, inr, arith}
use Rattle.number.specs.Frac.{Frac, whole}
use Rattle.number.proofs.Fracs.{whole_is}
use Rattle.motion.specs.NextLine.{declared}
use Rattle.motion.specs.Items.{Got, good}
use Rattle.motion.specs.Program.{skip, Prog}
use Rattle.motion.specs.Rules.{Env, Config, run, Undefined, ◌⟶◌, set_to, set_fails, evolve_stop, evolve_through, evolve_fails, rest_stop, rest_through, if_true, if_false, if_fails, while_true, while_false, while_fails, seq_stop, seq_run, seq_fails, Steps, done, more, Resting, stopped, finished, failed, Standing, Heads, here, in_seq, Shows, at_stop, at_end}
use Rattle.motion.specs.Determinism.{Deterministic, OneRest, OneStanding, OneCurve}
use Rattle.motion.proofs.ReadOff.{one_program}

pub same_duration : (g : Got Frac) (d d' : ℕ) → g ≡ good (whole (pos d)) → g ≡ good (whole (pos d')) → d ≡ d'
same_duration g d d' p q =
    let h : whole (pos d) ≡ whole (pos d') = cc in
    let k : pos d ≡ pos d' = sym (whole_is (pos d)).0 ∙ ap (λ (x : Frac). x.num) h ∙ (whole_is (pos d')).0 in
    cc

lasting : (g : Got Frac) (d : ℕ) → g ≡ good (whole (pos d)) → Undefined g ⊎ ((q : Frac) × (g ≡ good q) × ((d : ℕ) → q ≡ whole (pos d) → ⊥)) → ⊥
lasting g d p (inl q) = let z : ◌≡◌ {A = ℕ} 0 1 = cc in omega arith
lasting g d p (inr q) = q.2 d (cc)

pub determined : {c d e : Config} → c ⟶ d → c ⟶ e → d ≡ e
determined (set_to p) (set_to q) = cc
determined (set_to p) (set_fails q) = cc
determined (set_fails p) (set_to q) = cc
determined (set_fails p) (set_fails q) = refl
determined (evolve_stop a b c) (evolve_stop x y z) = let h = same_duration _ _ _ a x in cc
determined (evolve_stop a b c) (evolve_through x y z) = absurd (omega (arith, same_duration _ _ _ a x))
determined (evolve_stop a b c) (evolve_fails x) = absurd (lasting _ _ a x)
determined (evolve_through a b c) (evolve_stop x y z) = absurd (omega (arith, same_duration _ _ _ a x))
determined (evolve_through a b c) (evolve_through x y z) = let h = same_duration _ _ _ a x in cc
determined (evolve_through a b c) (evolve_fails x) = absurd (lasting _ _ a x)
determined (evolve_fails a) (evolve_stop x y z) = absurd (lasting _ _ x a)
determined (evolve_fails a) (evolve_through x y z) = absurd (lasting _ _ x a)
determined (evolve_fails a) (evolve_fails x) = refl
determined (rest_stop a b) (rest_stop x y) = cc
determined (rest_stop a b) (rest_through x y) = absurd (omega arith)
determined (rest_through a b) (rest_stop x y) = absurd (omega arith)
determined (rest_through a b) (rest_through x y) = cc
determined (if_true p) (if_true q) = refl
determined (if_true p) (if_false q) = cc
determined (if_true p) (if_fails q) = cc
determined (if_false p) (if_true q) = cc
determined (if_false p) (if_false q) = refl
determined (if_false p) (if_fails q) = cc
determined (if_fails p) (if_true q) = cc
determined (if_fails p) (if_false q) = cc
determined (if_fails p) (if_fails q) = refl
determined (while_true p) (while_true q) = refl
determined (while_true p) (while_false q) = cc
determined (while_true p) (while_fails q) = cc
determined (while_false p) (while_true q) = cc
determined (while_false p) (while_false q) = refl
determined (while_false p) (while_fails q) = cc
determined (while_fails p) (while_true q) = cc
determined (while_fails p) (while_false q) = cc
determined (while_fails p) (while_fails q) = refl
determined (seq_stop p) (seq_stop q) = let h = determined p q in cc
determined (seq_stop p) (seq_run q) = let h = determined p q in cc
determined (seq_stop p) (seq_fails q) = let h = determined p q in cc
determined (seq_run p) (seq_stop q) = let h = determined p q in cc
determined (seq_run p) (seq_run q) = let h = determined p q in cc
determined (seq_run p) (seq_fails q) = let h = determined p q in cc
determined (seq_fails p) (seq_stop q) = let h = determined p q in cc
determined (seq_fails p) (seq_run q) = let h = determined p q in cc
determined (seq_fails p) (seq_fails q) = refl

pub resting : {c d : Config} → Resting c → c ⟶ d → ⊥
resting stopped s = elim s [ ]
resting finished s = elim s [ ]
resting failed s = elim s [ ]

one_rest : {c d e : Config} {m n : ℕ} → Steps m c d → Resting d → Steps n c e → Resting e → (d ≡ e) × (m ≡ n)
one_rest done r done q = (refl, refl)
one_rest done r (more s ss) q = absurd (resting r s)
one_rest (more s ss) r done q = absurd (resting q s)
one_rest (more s ss) r (more s' ss') q = let k = one_rest ss r (rw (determined s' s) at ss') q in (k.0, ap suc k.1)

-- what a run that has come to rest has left
pub rests_at : {p : Prog} {σ : Env} {t : ℕ} → Resting (run p σ t) → p ≡ skip
rests_at finished = refl

pub shown_resting : {last : ℕ} {c : Config} {s : Standing} → Shows last c s → Resting c
shown_resting (at_stop h) = stopped
shown_resting at_end = finished

one_head : {p : Prog} {l d l' d' : ℕ} → Heads p l d → Heads p l' d' → (l ≡ l') × (d ≡ d')
one_head here here = (refl, refl)
one_head (in_seq h) (in_seq k) = one_head h k

pub one_show : {last : ℕ} {c : Config} {s s' : Standing} → Shows last c s → Shows last c s' → s ≡ s'
one_show (at_stop h) (at_stop k) = let e = one_head h k in rw (e.0, e.1)
one_show at_end at_end = refl

pub deterministic : Deterministic
deterministic c d e s s' = determined s s'

pub rest_once : OneRest
rest_once c d e m n ss r ss' q = one_rest ss r ss' q

pub standing_once : OneStanding
standing_once last c d e m n s s' ss h ss' k =
    let p = (one_rest ss (shown_resting h) ss' (shown_resting k)).0 in
    one_show h (rw (← p) at k)

pub one_curve : OneCurve
one_curve script T s s' c d =
    let p = one_program d.spelled c.spelled in
    standing_once (suc (length script)) (run c.program (declared script) T) c.end d.end c.steps d.steps s s' c.runs c.shows
    (subst (λ (q : Prog). Steps d.steps (run q (declared script) T) d.end) p d.runs) d.shows
