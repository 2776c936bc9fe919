-- One step of the line machine is one step of the rules.
use Rattle.std.proofs.Common.{◌≡◌, ℕ, suc, ◌+◌, ◌-◌, ◌<◌, ◌≤◌, Bool, true, false, cond, eqb, ltb, ◌⊎◌, List, [], ◌∷◌, ◌++◌, map, length, drop, ℤ, pos, negsuc, Some, None, Option, sym, refl, ap, ◌∙◌, subst, ap₂, inl, inr, append_assoc, arith, length-append, drop_of_length-le, ltb-false, ltb-true, eqb-true}
use lib.ListN.{length-map}
use Rattle.number.specs.Frac.{Frac, whole}
use Rattle.number.proofs.Fracs.{frac_same}
use Rattle.number.proofs.Fracs.{whole_is}
use Rattle.motion.specs.Numbers.{exact}
use Rattle.motion.specs.Items.{Got, good, bad, number_of, truth_of}
use Rattle.motion.specs.Flow.{flow}
use Rattle.motion.specs.Lines.{Line, set_line, run_line, rate_line, Rate, Item}
use Rattle.motion.specs.Machine as M
use Rattle.motion.specs.NextLine.{line_at, rates, Open, next_from, past}
use Rattle.motion.specs.Machine.{place_at, at, inside, ended, ticks_of, whole_ticks, cut, whole_run, lapse, stretch, assigned, timed, started, chosen}
use Rattle.motion.specs.Program.{Prog, skip, assign, evolve, rest, branch, repeat, seq, ◌⨟◌, Spells, none, assigns, evolves, branches, branches_else, repeats}
use Rattle.motion.specs.Rules.{Env, Config, run, stop, err, Undefined, Lasts, ◌⟶◌, set_to, set_fails, evolve_stop, evolve_through, evolve_fails, rest_stop, rest_through, if_true, if_false, if_fails, while_true, while_false, while_fails, seq_stop, seq_run, seq_fails, Heads, here, in_seq}
use Rattle.motion.specs.Remaining.{Here, plug, Behind, nothing, if_part, else_part, while_part, Stands, stands, cuts, Left, Statement}
use Rattle.motion.specs.Agreement.{Err}
use Rattle.motion.proofs.Outcomes.{Outcome}
use Rattle.motion.proofs.Determinism.{same_duration}
use Rattle.motion.proofs.ItemFaults.{number_fine, truth_of_fine, undefined, numbered}
use Rattle.motion.proofs.NextLine.{no_line, first, step, line_here, next_here, past_here, over, over_rates, skip_over, skip_rates, Ready, settled, next_ready}

-- a step of the first statement is a step of the whole
lift_run : (qs : List Prog) {s b a : Prog} {σ τ : Env} {t u : ℕ} → run (seq s b) σ t ⟶ run a τ u → run (plug qs (seq s b)) σ t ⟶ run (plug qs a) τ u
lift_run [] h = h
lift_run (q ∷ qs) h = lift_run qs (seq_run h)

lift_stop : (qs : List Prog) {s b s' b' : Prog} {σ τ : Env} {t : ℕ} → run (seq s b) σ t ⟶ stop (seq s' b') τ → run (plug qs (seq s b)) σ t ⟶ stop (plug qs (seq s' b')) τ
lift_stop [] h = h
lift_stop (q ∷ qs) h = lift_stop qs (seq_stop h)

lift_err : (qs : List Prog) {s b : Prog} {σ : Env} {t : ℕ} → run (seq s b) σ t ⟶ err → run (plug qs (seq s b)) σ t ⟶ err
lift_err [] h = h
lift_err (q ∷ qs) h = lift_err qs (seq_fails h)

heads : (qs : List Prog) {s b : Prog} {l d : ℕ} → Heads (seq s b) l d → Heads (plug qs (seq s b)) l d
heads [] h = h
heads (q ∷ qs) h = heads qs (in_seq h)

-- and a step of the whole is one of the first statement
seq_inv : {s b : Prog} {σ : Env} {t : ℕ} {d : Config} → run (seq s b) σ t ⟶ d → (c : Config) × (run s σ t ⟶ c)
seq_inv (seq_stop h) = (_, h)
seq_inv (seq_run h) = (_, h)
seq_inv (seq_fails h) = (_, h)

unlift : (qs : List Prog) (s b : Prog) {σ : Env} {t : ℕ} {d : Config} → run (plug qs (seq s b)) σ t ⟶ d → (c : Config) × (run s σ t ⟶ c)
unlift [] s b h = seq_inv h
unlift (q ∷ qs) s b h = seq_inv (unlift qs (seq s b) q h).1

-- where the items have no value there is a step only to an error
good_bad : {X A : Type 0} {a : A} {k f : ℕ} (r : Got A) → r ≡ good a → r ≡ bad k f → X
good_bad r e g = let z : ◌≡◌ {A = ℕ} 0 1 = cc in let no : ⊥ = omega arith in absurd no

bad_err : {A : Type 0} {k f : ℕ} (r : Got A) → Undefined r → r ≡ bad k f → Err k
bad_err {k} r (g, e) i = let z : k ≡ 21 = cc in inl z

assign_only : {l x t k f : ℕ} {e : List Item} {σ : Env} {c : Config} → run (assign l x e) σ t ⟶ c → number_of exact σ 3 e ≡ bad k f → Err k
assign_only (set_to h) eq = good_bad _ h eq
assign_only (set_fails h) eq = bad_err _ h eq

evolve_only : {l t k f : ℕ} {e : List Item} {r : List Rate} {σ : Env} {c : Config} → run (evolve l e r) σ t ⟶ c → number_of exact σ 2 e ≡ bad k f → Err k
evolve_only (evolve_stop h l f) eq = good_bad _ h eq
evolve_only (evolve_through h l f) eq = good_bad _ h eq
evolve_only (evolve_fails (inl h)) eq = bad_err _ h eq
evolve_only (evolve_fails (inr (q, h, n))) eq = good_bad _ h eq

-- a stretch of d ticks takes a step only where there are values at its end or at the stop
abbrev Lapses : List Rate → Env → ℕ → ℕ → Type 0
Lapses r σ t d = ((t < d) × ((τ : Env) × (flow exact r σ t ≡ Some τ))) ⊎ ((d ≤ t) × ((τ : Env) × (flow exact r σ d ≡ Some τ)))

rest_only : {l t d : ℕ} {r : List Rate} {σ : Env} {c : Config} → run (rest l d r) σ t ⟶ c → Lapses r σ t d
rest_only (rest_stop {τ} l f) = inl (l, (τ, f))
rest_only (rest_through {τ} l f) = inr (l, (τ, f))

lasts_only : {l t d : ℕ} {e : List Item} {r : List Rate} {σ : Env} {c : Config} → run (evolve l e r) σ t ⟶ c → Lasts e σ d → Lapses r σ t d
lasts_only {t} {d} {r} {σ} (evolve_stop {d = d'} {τ} h l f) i = let k : d' ≡ d = same_duration _ d' d h i in subst (Lapses r σ t) k (inl (l, (τ, f)))
lasts_only {t} {d} {r} {σ} (evolve_through {d = d'} {τ} h l f) i = let k : d' ≡ d = same_duration _ d' d h i in subst (Lapses r σ t) k (inr (l, (τ, f)))
lasts_only (evolve_fails (inl (g, h))) i = good_bad _ i h
lasts_only {d} (evolve_fails (inr (q, h, n))) i = let k : good q ≡ good (whole (pos d)) = sym h ∙ i in let z : q ≡ whole (pos d) = cc in absurd (n d z)

-- a test takes a step only where it has a value, or to an error
abbrev Tested : Got Bool → Type 0
Tested r = (r ≡ good true) ⊎ ((r ≡ good false) ⊎ Undefined r)

if_only : {l t : ℕ} {e : List Item} {a b : Prog} {σ : Env} {c : Config} → run (branch l e a b) σ t ⟶ c → Tested (truth_of exact σ 2 e)
if_only (if_true h) = inl h
if_only (if_false h) = inr (inl h)
if_only (if_fails h) = inr (inr h)

while_only : {l t : ℕ} {e : List Item} {a : Prog} {σ : Env} {c : Config} → run (repeat l e a) σ t ⟶ c → Tested (truth_of exact σ 2 e)
while_only (while_true h) = inl h
while_only (while_false h) = inr (inl h)
while_only (while_fails h) = inr (inr h)

tested_err : {k f : ℕ} (r : Got Bool) → Tested r → r ≡ bad k f → Err k
tested_err r (inl h) e = good_bad r h e
tested_err r (inr (inl h)) e = good_bad r h e
tested_err r (inr (inr h)) e = bad_err r h e

-- the rates of a stretch are the rate lines behind its line
tail_rates : {all : List Line} {st : List Open} {m : ℕ} {tl : List Line} {qs : List Prog} → Behind all st m tl qs → rates tl ≡ []
tail_rates nothing = refl
tail_rates (if_part s i b) = refl
tail_rates (else_part s i b) = refl
tail_rates (while_part w s t i j b) = refl

no_rates : {all : List Line} {st : List Open} {i m : ℕ} {xs tl : List Line} {a : Prog} {qs : List Prog} → Spells i xs a → Behind all st m tl qs → rates (xs ++ tl) ≡ []
no_rates none b = tail_rates b
no_rates (assigns s) b = refl
no_rates (evolves rs s) b = refl
no_rates (branches s t) b = refl
no_rates (branches_else s u t) b = refl
no_rates (repeats s t) b = refl

all_rates : (rs : List Rate) (ls : List Line) → rates ls ≡ [] → rates (map rate_line rs ++ ls) ≡ rs
all_rates [] ls e = e
all_rates (r ∷ rs) ls e = ap {B = List Rate} (λ q. r ∷ q) (all_rates rs ls e)

-- past the last line nothing is left
at_last : {all : List Line} {st : List Open} {i m : ℕ} {xs tl : List Line} {a : Prog} {qs : List Prog} → Spells i xs a → Behind all st m tl qs → [] ≡ xs ++ tl → plug qs a ≡ skip
at_last none nothing e = refl
at_last none (if_part s i b) e = no_line e
at_last none (else_part s i b) e = no_line e
at_last none (while_part w s t i j b) e = no_line e
at_last (assigns s) b e = no_line e
at_last (evolves rs s) b e = no_line e
at_last (branches s t) b e = no_line e
at_last (branches_else s u t) b e = no_line e
at_last (repeats s t) b e = no_line e

module _ {all : List Line} where
  past_last : {n : ℕ} {p : Prog} → length all < n → Stands all n p → p ≡ skip
  past_last l (stands h s i b) = at_last s b (sym (drop_of_length-le all {i = h.before} (omega arith)) ∙ h.lines)

  place_by : {n : ℕ} {p : Prog} (b : Bool) → ltb (length all) n ≡ b → Ready all n p → Left all (cond b ended (at n)) p
  place_by {n} true e (s, o) = past_last (ltb-true (length all) n e) s
  place_by {n} false e (s, inl c) = (s, c)
  place_by {n} false e (s, inr l) = let k = ltb-false (length all) n e in let no : ⊥ = omega arith in absurd no

  pub placed : {n : ℕ} {p : Prog} → Ready all n p → Left all (place_at all n) p
  placed {n} s = place_by (ltb (length all) n) refl s

none_some : {X A : Type 0} {d : A} → None ≡ Some d → X
none_some e = let z : ◌≡◌ {A = ℕ} 0 1 = cc in let no : ⊥ = omega arith in absurd no

pub no_err : {X : Type 0} (k : ℕ) → (k ≡ 21 → ⊥) → (k ≡ 22 → ⊥) → Err k → X
no_err k p q (inl e) = absurd (p e)
no_err k p q (inr e) = absurd (q e)

module _ {all : List Line} {st : List Open} {n m : ℕ} {xs tl : List Line} {a : Prog} {qs : List Prog} (σ : Env) (t : ℕ) where
  do_assign : {x : ℕ} {e : List Item} → Here all n st (set_line x e ∷ (xs ++ tl)) → Spells (suc n) xs a → m ≡ suc (n + length xs) → Behind all st m tl qs
      → (r : Got Frac) → number_of exact σ 3 e ≡ r → Outcome all (plug qs (seq (assign n x e) a)) σ t (assigned all σ t n x r)
  do_assign h s i b (good v) eq = (plug qs a, lift_run qs (seq_run (set_to eq)), placed (next_ready (stands (step h) s (omega arith) b)))
  do_assign {x} {e} h s i b (bad k f) eq = (numbered _ k f (number_fine σ 3 e) eq, λ c. lift_err qs (seq_fails (set_fails (undefined _ k f (number_fine σ 3 e) eq c))), λ c r. assign_only (unlift qs (assign n x e) a r).1 eq)

  module _ {e : List Item} (rs : List Rate) (d : ℕ) (s₀ : Prog)
      (h : Here all n st (run_line e ∷ (map rate_line rs ++ (xs ++ tl)))) (s : Spells (suc (n + length rs)) xs a) (i : m ≡ suc (n + length rs + length xs)) (b : Behind all st m tl qs)
      (stops : (τ : Env) → t < d → flow exact rs σ t ≡ Some τ → run s₀ σ t ⟶ stop (rest n (d - t) rs) τ)
      (skips : (τ : Env) → d ≤ t → flow exact rs σ d ≡ Some τ → run s₀ σ t ⟶ run skip τ (t - d))
      (only : (c : Config) → run s₀ σ t ⟶ c → Lapses rs σ t d) where
    next_run : Ready all (next_from all (suc n)) (plug qs a)
    next_run = rw (next_here (step h), skip_rates rs 0 (suc n) st (xs ++ tl) {m = suc (n + length rs)} (omega arith)) (settled (over_rates rs (step h) (omega arith)) s (omega arith) b)

    no_cut : t < d → flow exact rs σ t ≡ None → Lapses rs σ t d → {X : Type 0} → X
    no_cut l e (inl (k, (τ, f))) = none_some (sym e ∙ f)
    no_cut l e (inr (k, g)) = let no : ⊥ = omega arith in absurd no

    no_whole : d ≤ t → flow exact rs σ d ≡ None → Lapses rs σ t d → {X : Type 0} → X
    no_whole l e (inl (k, g)) = let no : ⊥ = omega arith in absurd no
    no_whole l e (inr (k, (τ, f))) = none_some (sym e ∙ f)

    do_cut : t < d → (o : Option Env) → flow exact rs σ t ≡ o → Outcome all (plug qs (seq s₀ a)) σ t (cut n (d - t) o)
    do_cut l (Some τ) eq = (plug qs (seq (rest n (d - t) rs) a), lift_stop qs (seq_stop (stops τ l eq)), heads qs (in_seq here), cuts rs h s i b, omega arith)
    do_cut l None eq = (omega arith, no_err 24 (omega arith) (omega arith), λ c r. no_cut l eq (only _ (unlift qs s₀ a r).1))

    do_whole : d ≤ t → (o : Option Env) → flow exact rs σ d ≡ o → Outcome all (plug qs (seq s₀ a)) σ t (whole_run all n (t - d) o)
    do_whole l (Some τ) eq = (plug qs a, lift_run qs (seq_run (skips τ l eq)), placed next_run)
    do_whole l None eq = (omega arith, no_err 23 (omega arith) (omega arith), λ c r. no_whole l eq (only _ (unlift qs s₀ a r).1))

    do_lapse : (c : Bool) → ltb t d ≡ c → Outcome all (plug qs (seq s₀ a)) σ t (lapse exact all rs σ t n d c)
    do_lapse true eq = do_cut (ltb-true t d eq) (flow exact rs σ t) refl
    do_lapse false eq = do_whole (ltb-false t d eq) (flow exact rs σ d) refl

    rates_here : rates (drop n all) ≡ rs
    rates_here = let g = step h in let j : n ≡ g.before = omega arith in rw (j, g.lines) (all_rates rs (xs ++ tl) (no_rates s b))

    do_stretch : Outcome all (plug qs (seq s₀ a)) σ t (stretch exact all σ t n d)
    do_stretch = subst (λ (r : List Rate). Outcome all (plug qs (seq s₀ a)) σ t (lapse exact all r σ t n d (ltb t d))) (sym rates_here) (do_lapse (ltb t d) refl)

-- the duration of a stretch
whole_lasts : (d : ℕ) → whole_ticks (Some (whole (pos d))) ≡ Some d
whole_lasts d = ap₂ (λ (z : ℤ) (k : ℕ). ticks_of z (eqb k 1)) (whole_is (pos d)).0 (whole_is (pos d)).1

ticks_none : (q : Frac) → whole_ticks (Some q) ≡ None → (d : ℕ) → q ≡ whole (pos d) → ⊥
ticks_none q e d w =
    let f : whole_ticks (Some q) ≡ Some d = ap (λ (x : Frac). whole_ticks (Some x)) w ∙ whole_lasts d in
    let z : ◌≡◌ {A = ℕ} 0 1 = cc in omega arith

ticks_go : (q : Frac) (d : ℕ) (z : ℤ) (c : Bool) → q.num ≡ z → eqb q.den 1 ≡ c → ticks_of z c ≡ Some d → q ≡ whole (pos d)
ticks_go q d (pos n) true i j e = let k : q.num ≡ pos d = cc in frac_same q (whole (pos d)) (k ∙ sym (whole_is (pos d)).0) (eqb-true q.den 1 j ∙ sym (whole_is (pos d)).1)
ticks_go q d (pos n) false i j e = none_some e
ticks_go q d (negsuc n) c i j e = none_some e

pub ticks_some : (q : Frac) (d : ℕ) → whole_ticks (Some q) ≡ Some d → q ≡ whole (pos d)
ticks_some q d e = ticks_go q d q.num (eqb q.den 1) refl refl e

-- an else or end line is no statement
at_tail : {all : List Line} {st : List Open} {m : ℕ} {tl : List Line} {qs : List Prog} → Behind all st m tl qs → Statement (first tl) → ⊥
at_tail nothing c = c
at_tail (if_part s i b) c = c
at_tail (else_part s i b) c = c
at_tail (while_part w s u i j b) c = c

-- the statement at line n, whichever it is
module _ {all : List Line} (σ : Env) (t : ℕ) where
  do_timed : {st : List Open} {n m : ℕ} {e : List Item} (rs : List Rate) {xs tl : List Line} {a : Prog} {qs : List Prog}
      → Here all n st (run_line e ∷ (map rate_line rs ++ (xs ++ tl))) → Spells (suc (n + length rs)) xs a → m ≡ suc (n + length rs + length xs) → Behind all st m tl qs
      → (q : Frac) → number_of exact σ 2 e ≡ good q → (o : Option ℕ) → whole_ticks (Some q) ≡ o → Outcome all (plug qs (seq (evolve n e rs) a)) σ t (timed exact all σ t n o)
  do_timed rs {qs} h s i b q eq None w = (omega arith, λ c. lift_err qs (seq_fails (evolve_fails (inr (q, eq, ticks_none q w)))), λ c r. inr refl)
  do_timed {n} {e} rs h s i b q eq (Some d) w =
      let l : Lasts e σ d = eq ∙ ap good (ticks_some q d w) in
      do_stretch σ t rs d (evolve n e rs) h s i b (λ τ lt f. evolve_stop l lt f) (λ τ le f. evolve_through l le f) (λ c r. lasts_only r l)

  do_run : {st : List Open} {n m : ℕ} {e : List Item} (rs : List Rate) {xs tl : List Line} {a : Prog} {qs : List Prog}
      → Here all n st (run_line e ∷ (map rate_line rs ++ (xs ++ tl))) → Spells (suc (n + length rs)) xs a → m ≡ suc (n + length rs + length xs) → Behind all st m tl qs
      → (r : Got Frac) → number_of exact σ 2 e ≡ r → Outcome all (plug qs (seq (evolve n e rs) a)) σ t (started exact all σ t n r)
  do_run rs h s i b (good q) eq = do_timed rs h s i b q eq (whole_ticks (Some q)) refl
  do_run {n} {e} rs {a} {qs} h s i b (bad k f) eq = (numbered _ k f (number_fine σ 2 e) eq, λ c. lift_err qs (seq_fails (evolve_fails (inl (undefined _ k f (number_fine σ 2 e) eq c)))), λ c r. evolve_only (unlift qs (evolve n e rs) a r).1 eq)

  -- a test: where it leads if it holds and if it does not
  do_test : (n : ℕ) (e : List Item) (qs : List Prog) (a : Prog) {p x y : Prog} (r : Got Bool) → truth_of exact σ 2 e ≡ r
      → (truth_of exact σ 2 e ≡ good true → run p σ t ⟶ run x σ t) → (truth_of exact σ 2 e ≡ good false → run p σ t ⟶ run y σ t) → (Undefined (truth_of exact σ 2 e) → run p σ t ⟶ err) → ((c : Config) → run p σ t ⟶ c → Tested (truth_of exact σ 2 e))
      → Ready all (next_from all (suc n)) (plug qs (x ⨟ a)) → Ready all (past all n) (plug qs (y ⨟ a)) → Outcome all (plug qs (seq p a)) σ t (chosen all σ t n r)
  do_test n e qs a {x} (good true) eq f g u v b c = (plug qs (x ⨟ a), lift_run qs (seq_run (f eq)), placed b)
  do_test n e qs a {y} (good false) eq f g u v b c = (plug qs (y ⨟ a), lift_run qs (seq_run (g eq)), placed c)
  do_test n e qs a {p} (bad k i) eq f g u v b c = (numbered _ k i (truth_of_fine σ 2 e) eq, λ d. lift_err qs (seq_fails (u (undefined _ k i (truth_of_fine σ 2 e) eq d))), λ d r. tested_err _ (v _ (unlift qs p a r).1) eq)

  step_in : {st : List Open} {n m : ℕ} {xs tl : List Line} {a : Prog} {qs : List Prog} → Here all n st (xs ++ tl) → Spells n xs a → m ≡ n + length xs → Behind all st m tl qs → Statement (first (xs ++ tl))
      → Outcome all (plug qs a) σ t (M.step exact all σ t n (first (xs ++ tl)))
  step_in h none i b c = absurd (at_tail b c)
  step_in h (assigns {e} s) i b c = do_assign σ t h s (omega arith) b (number_of exact σ 3 e) refl
  step_in h (evolves {e} rs s) i b c = do_run rs (rw append_assoc at h) s (omega (arith, simp (length-append, length-map) at i)) b (number_of exact σ 2 e) refl
  step_in {n} {qs} h (branches {e} {xs} {p} s u) i b c =
      let g = simp append_assoc at (step h) in
      let j = simp length-append at i in
      do_test n e qs p (truth_of exact σ 2 e) refl if_true if_false if_fails (λ c. if_only)
      (next_ready (stands {m = suc (n + length xs)} g s (omega arith) (if_part u (omega arith) b)))
      (rw (past_here g, skip_over s 0 (suc n) _ _ {m = suc (n + length xs)} (omega arith))
      (settled (step (over {m = suc (n + length xs)} s g refl (omega arith))) u (omega arith) b))
  step_in {n} {qs} h (branches_else {e} {xs} {ys} {p} s v u) i b c =
      let g = simp append_assoc at (step h) in
      let j = simp length-append at i in
      do_test n e qs p (truth_of exact σ 2 e) refl if_true if_false if_fails (λ c. if_only)
      (next_ready (stands {m = suc (n + length xs)} g s (omega arith) (else_part {m = suc (suc (n + length xs + length ys))} v (omega arith) (if_part u (omega arith) b))))
      (rw (past_here g, skip_over s 0 (suc n) _ _ {m = suc (n + length xs)} (omega arith))
      (settled {m = suc (suc (n + length xs + length ys))} (step (over {m = suc (n + length xs)} s g refl (omega arith))) v (omega arith) (if_part u (omega arith) b)))
  step_in {n} {qs} h (repeats {e} {xs} {p} s u) i b c =
      let g = simp append_assoc at (step h) in
      let j = simp length-append at i in
      do_test n e qs p (truth_of exact σ 2 e) refl while_true while_false while_fails (λ c. while_only)
      (next_ready (stands {m = suc (n + length xs)} (rw append_assoc at (step h)) s (omega arith) (while_part h s u refl (omega arith) b)))
      (rw (past_here g, skip_over s 0 (suc n) _ _ {m = suc (n + length xs)} (omega arith))
      (settled (step (over {m = suc (n + length xs)} s g refl (omega arith))) u (omega arith) b))

  pub step_at : {n : ℕ} {p : Prog} → Left all (at n) p → Outcome all p σ t (M.step exact all σ t n (line_at all n))
  step_at (stands h s i b, c) = rw (line_here h) (step_in h s i b (rw (line_here h) at c))

  pub step_inside : {n d : ℕ} {p : Prog} → Left all (inside n d) p → Outcome all p σ t (stretch exact all σ t n d)
  step_inside {n} {d} (cuts rs h s i b) = do_stretch σ t rs d (rest n d rs) h s i b (λ τ lt f. rest_stop lt f) (λ τ le f. rest_through le f) (λ c r. rest_only r)

-- at a statement, and inside a stretch, something is left to do
plug_seq : (qs : List Prog) (s b : Prog) → plug qs (seq s b) ≡ skip → ⊥
plug_seq [] s b e = let z : ◌≡◌ {A = ℕ} 0 1 = cc in omega arith
plug_seq (q ∷ qs) s b e = plug_seq qs (seq s b) q e

statement_left : {all : List Line} {st : List Open} {n m : ℕ} {xs tl : List Line} {a : Prog} {qs : List Prog} → Spells n xs a → Behind all st m tl qs → Statement (first (xs ++ tl)) → plug qs a ≡ skip → ⊥
statement_left none b c e = at_tail b c
statement_left {qs} (assigns s) b c e = plug_seq qs _ _ e
statement_left {qs} (evolves rs s) b c e = plug_seq qs _ _ e
statement_left {qs} (branches s u) b c e = plug_seq qs _ _ e
statement_left {qs} (branches_else s v u) b c e = plug_seq qs _ _ e
statement_left {qs} (repeats s u) b c e = plug_seq qs _ _ e

pub left_at : {all : List Line} {n : ℕ} {p : Prog} → Left all (at n) p → p ≡ skip → ⊥
left_at (stands h s i b, c) e = statement_left s b (rw (line_here h) at c) e

pub left_inside : {all : List Line} {n d : ℕ} {p : Prog} → Left all (inside n d) p → p ≡ skip → ⊥
left_inside (cuts rs {qs} h s i b) e = plug_seq qs _ _ e
