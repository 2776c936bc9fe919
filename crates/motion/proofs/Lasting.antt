-- Refusals that last: 21, 22 and 23 for more ticks and more steps, 20 for more ticks.
use Rattle.std.proofs.Common.{◌≡◌, ℕ, zero, suc, ◌+◌, ◌-◌, ◌≤◌, Bool, true, false, ltb, List, drop, Some, None, Option, sym, refl, arith, ltb-false, ltb-true}
use Rattle.motion.specs.Numbers.{Numbers}
use Rattle.motion.specs.Lines.{Line, var_line, set_line, run_line, rate_line, if_line, else_line, while_line, end_line}
use Rattle.motion.specs.Items.{Got, good, bad, number_of, truth_of}
use Rattle.motion.specs.Flow.{flow}
use Rattle.motion.specs.Machine.{Bench, Answer, refused, advanced, Place, at, inside, ended, Stepped, go, stop, fail, stretch, lapse, cut, whole_run, assigned, timed, started, chosen, step, after, loop, place_at, whole_ticks}
use Rattle.motion.specs.NextLine.{rates, line_at}
use Rattle.motion.specs.Lasting.{RefusalsLast}

module _ {V : Type 0} where
  -- what a step comes to with more ticks to go
  data Later : Stepped V → Stepped V → Type 0 where
    goes : {n t t' : ℕ} {e : List V} → t ≤ t' → Later (go n e t) (go n e t')
    stops : {n d : ℕ} {e : List V} {s : Stepped V} → Later (stop n d e) s
    fails : {k n f : ℕ} → Later (fail k n f) (fail k n f)
    cut_off : {n f : ℕ} {s : Stepped V} → Later (fail 24 n f) s

  pub numbers_agree : {k l f k' l' f' : ℕ} → ◌≡◌ {A = Answer V} (refused k l f) (refused k' l' f') → k ≡ k'
  numbers_agree {k} {l} {f} {k'} {l'} {f'} p = cc

module _ {V : Type 0} (N : Numbers V) (all : List Line) where
  cut_later : (n d : ℕ) (o : Option (List V)) (s : Stepped V) → Later (cut n d o) s
  cut_later n d (Some e) s = stops
  cut_later n d None s = cut_off

  whole_later : (n t t' : ℕ) (o : Option (List V)) → t ≤ t' → Later (whole_run all n t o) (whole_run all n t' o)
  whole_later n t t' (Some e) h = goes h
  whole_later n t t' None h = fails

  lapse_later : (env : List V) (t t' n d : ℕ) (b b' : Bool) → ltb t d ≡ b → ltb t' d ≡ b' → t ≤ t' →
      Later (lapse N all (rates (drop n all)) env t n d b) (lapse N all (rates (drop n all)) env t' n d b')
  lapse_later env t t' n d true b' p q h = cut_later n (d - t) (flow N (rates (drop n all)) env t) _
  lapse_later env t t' n d false true p q h = absurd (omega (arith, ltb-true t' d q, ltb-false t d p))
  lapse_later env t t' n d false false p q h = whole_later n (t - d) (t' - d) (flow N (rates (drop n all)) env d) (omega arith)

  stretch_later : (env : List V) (t t' n d : ℕ) → t ≤ t' → Later (stretch N all env t n d) (stretch N all env t' n d)
  stretch_later env t t' n d h = lapse_later env t t' n d (ltb t d) (ltb t' d) refl refl h

  assigned_later : (env : List V) (t t' n x : ℕ) (g : Got V) → t ≤ t' → Later (assigned all env t n x g) (assigned all env t' n x g)
  assigned_later env t t' n x (good q) h = goes h
  assigned_later env t t' n x (bad k f) h = fails

  timed_later : (env : List V) (t t' n : ℕ) (o : Option ℕ) → t ≤ t' → Later (timed N all env t n o) (timed N all env t' n o)
  timed_later env t t' n None h = fails
  timed_later env t t' n (Some d) h = stretch_later env t t' n d h

  started_later : (env : List V) (t t' n : ℕ) (g : Got V) → t ≤ t' → Later (started N all env t n g) (started N all env t' n g)
  started_later env t t' n (bad k f) h = fails
  started_later env t t' n (good q) h = timed_later env t t' n (whole_ticks (N.terms q)) h

  chosen_later : (env : List V) (t t' n : ℕ) (g : Got Bool) → t ≤ t' → Later (chosen all env t n g) (chosen all env t' n g)
  chosen_later env t t' n (bad k f) h = fails
  chosen_later env t t' n (good true) h = goes h
  chosen_later env t t' n (good false) h = goes h

  step_later : (env : List V) (t t' n : ℕ) (l : Line) → t ≤ t' → Later (step N all env t n l) (step N all env t' n l)
  step_later env t t' n (set_line x is) h = assigned_later env t t' n x (number_of N env 3 is) h
  step_later env t t' n (run_line is) h = started_later env t t' n (number_of N env 2 is) h
  step_later env t t' n (if_line is) h = chosen_later env t t' n (truth_of N env 2 is) h
  step_later env t t' n (while_line is) h = chosen_later env t t' n (truth_of N env 2 is) h
  step_later env t t' n (var_line x) h = fails
  step_later env t t' n (rate_line x) h = fails
  step_later env t t' n else_line h = fails
  step_later env t t' n end_line h = fails

  module _ (k l f : ℕ) (low : 20 ≤ k) (high : k ≤ 23) where
    -- the same refusal from every later start
    Persists : (ℕ → List V → ℕ → Place → Answer V) → (ℕ → List V → ℕ → Place → Answer V) → Type 0
    Persists g g' = (steps steps' : ℕ) (e : List V) (t t' : ℕ) (p : Place) → t ≤ t' → g steps e t p ≡ refused k l f → g' steps' e t' p ≡ refused k l f

    after_persists : (g g' : ℕ → List V → ℕ → Place → Answer V) → Persists g g' → (steps steps' total total' : ℕ) (s s' : Stepped V) → Later s s' →
        after g all steps total s ≡ refused k l f → after g' all steps' total' s' ≡ refused k l f
    unfolding Persists
    after_persists g g' p steps steps' total total' s s' (goes {n = n} {t = t} {t' = t'} {e = e} h) r = p (suc steps) (suc steps') e t t' (place_at all n) h r
    after_persists g g' p steps steps' total total' s s' stops r = cc
    after_persists g g' p steps steps' total total' s s' fails r = r
    after_persists g g' p steps steps' total total' s s' cut_off r = absurd (omega (arith, numbers_agree r))

    -- 20 asks for the same allowance, the others for no smaller one
    loop_persists : (total total' a a' : ℕ) → a ≤ a' → (k ≡ 20 → a ≡ a') → Persists (loop N all total a) (loop N all total' a')
    unfolding Persists
    loop_persists total total' zero a' q s steps steps' e t t' ended h r = cc
    loop_persists total total' (suc a) a' q s steps steps' e t t' ended h r = cc
    loop_persists total total' zero zero q s steps steps' e t t' (at n) h r = r
    loop_persists total total' zero zero q s steps steps' e t t' (inside n d) h r = r
    loop_persists total total' zero (suc a') q s steps steps' e t t' (at n) h r = absurd (omega (arith, s (sym (numbers_agree r))))
    loop_persists total total' zero (suc a') q s steps steps' e t t' (inside n d) h r = absurd (omega (arith, s (sym (numbers_agree r))))
    loop_persists total total' (suc a) zero q s steps steps' e t t' (at n) h r = absurd (omega arith)
    loop_persists total total' (suc a) zero q s steps steps' e t t' (inside n d) h r = absurd (omega arith)
    loop_persists total total' (suc a) (suc a') q s steps steps' e t t' (at n) h r =
        after_persists (loop N all total a) (loop N all total' a') (loop_persists total total' a a' (omega arith) (λ i. let j = s i in omega arith)) steps steps' total total' _ _ (step_later e t t' n (line_at all n) h) r
    loop_persists total total' (suc a) (suc a') q s steps steps' e t t' (inside n d) h r =
        after_persists (loop N all total a) (loop N all total' a') (loop_persists total total' a a' (omega arith) (λ i. let j = s i in omega arith)) steps steps' total total' _ _ (stretch_later e t t' n d h) r

  module _ (b : Bench V) (ticks ticks' a a' k l f : ℕ) (low : 20 ≤ k) (high : k ≤ 23) (t : ticks ≤ ticks') (q : a ≤ a') (s : k ≡ 20 → a ≡ a') (m : b.total + ticks' ≤ 2147483647) where
    advanced_persists : (o o' : Bool) → ltb 2147483647 (b.total + ticks') ≡ o' → advanced N all b ticks a o ≡ refused k l f → advanced N all b ticks' a' o' ≡ refused k l f
    unfolding Persists
    advanced_persists o true p r = absurd (omega (arith, ltb-true 2147483647 (b.total + ticks') p))
    advanced_persists true false p r = absurd (omega (arith, numbers_agree r))
    advanced_persists false false p r = loop_persists k l f low high (b.total + ticks) (b.total + ticks') a a' q s 0 0 b.values (b.over + ticks) (b.over + ticks') _ (omega arith) r

pub persist : (V : Type 0) → RefusalsLast V
persist V = record {
  faults = λ N all b ticks ticks' a a' k l f low high t q m r.
      advanced_persists N all b ticks ticks' a a' k l f (omega arith) high t q (λ i. absurd (omega arith)) m (ltb 2147483647 (b.total + ticks)) (ltb 2147483647 (b.total + ticks')) refl r;
  allowance = λ N all b ticks ticks' a l f t m r.
      advanced_persists N all b ticks ticks' a a 20 l f (omega arith) (omega arith) t (omega arith) (λ i. refl) m (ltb 2147483647 (b.total + ticks)) (ltb 2147483647 (b.total + ticks')) refl r;
}
