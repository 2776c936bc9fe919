-- The polynomials of a stretch solve it, they are the only ones that do, and the flow computes their values.
use Rattle.std.proofs.Common.{◌≡◌, ℕ, zero, suc, ◌*◌, ◌<◌, Bool, true, false, eqb, ◌⊎◌, List, [], ◌∷◌, length, get_or, pos, Some, sym, refl, ap, ◌∙◌, subst, ap₂, inl, inr, arith, eq-eqb, eqb-true}
use mathlib.Core.Path.{fun_ext}
use native.Mathlib.Nat as N
use borrow.Author.Tests.{clash}
use Rattle.number.specs.Gcd.{gcd, steps}
use Rattle.number.specs.Lowest.{lowest}
use Rattle.number.specs.Frac.{Frac, naught, norm, whole, add, mul, scale, horner}
use Rattle.number.proofs.Ints.{int_ring}
use Rattle.number.proofs.Solve.{var as at, nil, unit, ◌⊕◌, ◌⊗◌, solve}
use Rattle.number.proofs.Fracs.{norm_eq, as_norm, as_mul, same}
use Rattle.number.proofs.Laws.{frac_ring, part}
use Rattle.motion.specs.Numbers.{exact}
use Rattle.motion.specs.Lines.{Part, Rate, Of, one, var}
use Rattle.motion.specs.Items.{nth}
use Rattle.motion.specs.Flow.{parts_of, flow}
use Rattle.motion.specs.Derivatives.{D0, weighted, derive, Dk, D, FifthZero}
use Rattle.motion.specs.Chains.{Has, has, has_behind}
use Rattle.motion.specs.Solution.{Poly, series, value, derivative, Family, named, Rated, Solves, factorial, term, polynomial, StretchSolved, StretchSolvedExactly, StretchFlows, StretchSolvedOnce, SolutionFlows}
use Rattle.motion.proofs.Derivatives.{flown, zero_is, none_add, scale_none, mul_none, weighted_scale, unrated}
use Rattle.motion.proofs.Lengths.{Holds, flow_length}
use Rattle.motion.proofs.FlowLaw.{Reads, reads_self, flow_reads, shallow_zero}

-- Whole numbers and their parts.
over_itself : (k : ℕ) → mul (whole (pos (suc k))) (norm (pos 1) (suc k)) ≡ whole (pos 1)
unfolding whole
over_itself k =
    sym (part (suc k) (suc k) (omega arith))
    ∙ norm_eq (pos (suc k)) (suc k) (pos 1) 1 (omega arith) (omega arith) (solve int_ring (pos (suc k) ∷ []) (at 0 ⊗ unit) (unit ⊗ at 0) refl)

back : (k : ℕ) (a : Frac) → mul (norm (pos 1) (suc k)) (mul (whole (pos (suc k))) a) ≡ a
back k a =
    let m = whole (pos (suc k)) in
    let u = norm (pos 1) (suc k) in
    solve frac_ring (u ∷ m ∷ a ∷ []) (at 0 ⊗ (at 1 ⊗ at 2)) ((at 1 ⊗ at 0) ⊗ at 2) refl ∙ ap (λ (z : Frac). mul z a) (over_itself k) ∙ frac_ring.times_one a

-- k + 1 is not 0
cancel : (k : ℕ) (a b : Frac) → mul (whole (pos (suc k))) a ≡ mul (whole (pos (suc k))) b → a ≡ b
cancel k a b e = sym (back k a) ∙ ap (mul (norm (pos 1) (suc k))) e ∙ back k b

scale_one : (d : Frac) → scale d 1 1 ≡ d
unfolding scale whole
scale_one d = frac_ring.times_comm d (norm (pos 1) 1) ∙ frac_ring.times_one d

-- what is 0 after a division was 0 before
scale_back : (d : Frac) (k : ℕ) → scale d 1 (suc k) ≡ naught → d ≡ naught
unfolding scale
scale_back d k e =
    let m = whole (pos (suc k)) in
    let u = norm (pos 1) (suc k) in
    sym (solve frac_ring (m ∷ d ∷ u ∷ []) (at 0 ⊗ (at 1 ⊗ at 2)) ((at 0 ⊗ at 2) ⊗ at 1) refl ∙ ap (λ (z : Frac). mul z d) (over_itself k) ∙ frac_ring.times_one d)
    ∙ ap (mul m) e
    ∙ mul_none m

fact_pos : (k : ℕ) → 0 < factorial k
fact_pos zero = omega arith
fact_pos (suc k) = N.mul-pos (omega arith) (fact_pos k)

shorter : (a f : ℕ) → 0 < a → 0 < f → mul (whole (pos a)) (norm (pos 1) (a * f)) ≡ norm (pos 1) f
unfolding whole
shorter a f ha hf =
    same _ _ _ _ _ _ (as_mul _ _ _ _ _ _ (as_norm (pos a) 1 (omega arith)) (as_norm (pos 1) (a * f) (N.mul-pos ha hf))) (as_norm (pos 1) f hf)
    (solve int_ring (pos a ∷ pos f ∷ []) ((at 0 ⊗ unit) ⊗ at 1) (unit ⊗ (unit ⊗ (at 0 ⊗ at 1))) refl)

-- k + 1 times d over (k + 1)! is d over k!
step_down : (d : Frac) (k : ℕ) → mul (whole (pos (suc k))) (scale d 1 (factorial (suc k))) ≡ scale d 1 (factorial k)
unfolding scale
step_down d k =
    solve frac_ring (whole (pos (suc k)) ∷ d ∷ norm (pos 1) (factorial (suc k)) ∷ []) (at 0 ⊗ (at 1 ⊗ at 2)) (at 1 ⊗ (at 0 ⊗ at 2)) refl
    ∙ ap (mul d) (shorter (suc k) (factorial k) (omega arith) (fact_pos k))

-- Sums over parts.
weighted_same : (f g : Of → Frac) (ps : List Part) → ((o : Of) → f o ≡ g o) → weighted f ps ≡ weighted g ps
weighted_same f g ps h = ap (λ (u : Of → Frac). weighted u ps) (fun_ext h)

weighted_none : (f : Of → Frac) (ps : List Part) → ((o : Of) → f o ≡ naught) → weighted f ps ≡ naught
unfolding weighted
weighted_none f [] h = refl
weighted_none f (p ∷ ps) h = ap₂ add (ap (mul p.coefficient) (h p.of) ∙ mul_none p.coefficient) (weighted_none f ps h) ∙ none_add naught

-- Whether a variable has a rate can be told.
is_rated : (x : ℕ) (rs : List Rate) → Rated x rs ⊎ (Rated x rs → ⊥)
is_rated x [] = inr (λ h. elim h.1 [ ])
is_rated x (r ∷ rs) = by r.name r.parts (eqb r.name x) refl (is_rated x rs)
  where
    other : (n : ℕ) (qs : List Part) → eqb n x ≡ false → (Rated x rs → ⊥) → (ps : List Part) → Has x ps (record { name = n; parts = qs } ∷ rs) → ⊥
    other n qs e free ps has = clash (sym e ∙ eq-eqb x x refl)
    other n qs e free ps (has_behind h) = free (ps, h)

    by : (n : ℕ) (qs : List Part) (b : Bool) → eqb n x ≡ b → Rated x rs ⊎ (Rated x rs → ⊥) → Rated x (record { name = n; parts = qs } ∷ rs) ⊎ (Rated x (record { name = n; parts = qs } ∷ rs) → ⊥)
    by n qs true e d = inl (qs, subst (λ (y : ℕ). Has y qs (record { name = n; parts = qs } ∷ rs)) (eqb-true n x e) has)
    by n qs false e (inl (ps, h)) = inl (ps, has_behind h)
    by n qs false e (inr free) = inr (λ h. other n qs e free h.0 h.1)

module _ (rs : List Rate) (σ : List Frac) where
  -- the derivative equation of every variable, rated or not
  abbrev Rises : Family → Type 0
  Rises c = (x k : ℕ) → derivative (c x) k ≡ weighted (named c k) (parts_of x rs)

  rises_solve : (c : Family) → ((x : ℕ) → c x 0 ≡ get_or σ x naught) → Rises c → Solves rs σ c
  unfolding weighted
  rises_solve c start up = record {
    starts = start;
    rated = λ x _ k. up x k;
    constant = λ x free k. cancel k (c x (suc k)) naught (up x k ∙ ap (weighted (named c k)) (unrated x rs (λ ps h. free (ps, h))) ∙ sym (mul_none (whole (pos (suc k)))));
  }

  solve_rises : (c : Family) → Solves rs σ c → Rises c
  unfolding weighted
  solve_rises c s x k = by (is_rated x rs)
    where
      by : Rated x rs ⊎ (Rated x rs → ⊥) → derivative (c x) k ≡ weighted (named c k) (parts_of x rs)
      by (inl h) = s.rated x h k
      by (inr free) = ap (mul (whole (pos (suc k)))) (s.constant x free k) ∙ mul_none (whole (pos (suc k))) ∙ sym (ap (weighted (named c k)) (unrated x rs (λ ps h. free (ps, h))))

  -- The series of all Dk over k! solves the stretch.
  named_term : (k : ℕ) (o : Of) → named (term rs σ) k o ≡ scale (D rs σ k o) 1 (factorial k)
  unfolding Dk derive D0 weighted
  named_term zero one = sym (scale_one (whole (pos 1)))
  named_term (suc k) one = sym (scale_none 1 (factorial (suc k)))
  named_term k (var x) = refl

  term_rises : Rises (term rs σ)
  unfolding Dk derive D0 weighted
  term_rises x k =
      let ps = parts_of x rs in
      step_down (weighted (D rs σ k) ps) k
      ∙ sym (weighted_scale (D rs σ k) 1 (factorial k) ps)
      ∙ sym (weighted_same (named (term rs σ) k) (λ o. scale (D rs σ k o) 1 (factorial k)) ps (named_term k))

  term_solves : Solves rs σ (term rs σ)
  unfolding Dk derive D0 weighted
  term_solves = rises_solve (term rs σ) (λ x. scale_one (get_or σ x naught)) term_rises

  -- There is one solution.
  named_same : (c d : Family) (k : ℕ) → ((x : ℕ) → c x k ≡ d x k) → (o : Of) → named c k o ≡ named d k o
  named_same c d zero h one = refl
  named_same c d (suc k) h one = refl
  named_same c d k h (var x) = h x

  once : (c d : Family) → Solves rs σ c → Solves rs σ d → (k x : ℕ) → c x k ≡ d x k
  once c d s t zero x = s.starts x ∙ sym (t.starts x)
  once c d s t (suc k) x =
      cancel k (c x (suc k)) (d x (suc k))
      (solve_rises c s x k ∙ weighted_same (named c k) (named d k) (parts_of x rs) (named_same c d k (once c d s t k)) ∙ sym (solve_rises d t x k))

  -- Where D5 is 0, the series ends with D4.
  none_after : FifthZero rs σ → (j : ℕ) (o : Of) → D rs σ (suc (suc (suc (suc (suc j))))) o ≡ naught
  unfolding Dk derive D0 weighted
  none_after h j one = refl
  none_after h zero (var x) = h x
  none_after h (suc j) (var x) = weighted_none (D rs σ (suc (suc (suc (suc (suc j)))))) (parts_of x rs) (none_after h j)

  series_term : FifthZero rs σ → (x k : ℕ) → series (polynomial rs σ x) k ≡ term rs σ x k
  series_term h x zero = refl
  series_term h x (suc zero) = refl
  series_term h x (suc (suc zero)) = refl
  series_term h x (suc (suc (suc zero))) = refl
  series_term h x (suc (suc (suc (suc zero)))) = refl
  series_term h x (suc (suc (suc (suc (suc j))))) =
      let k : ℕ = suc (suc (suc (suc (suc j)))) in
      sym (ap (λ (z : Frac). scale z 1 (factorial k)) (none_after h j (var x)) ∙ scale_none 1 (factorial k))

  solved : FifthZero rs σ → Solves rs σ (λ x. series (polynomial rs σ x))
  solved h = subst (Solves rs σ) (fun_ext (λ x. fun_ext (λ k. sym (series_term h x k)))) term_solves

  only_then : Solves rs σ (λ x. series (polynomial rs σ x)) → FifthZero rs σ
  only_then s x = scale_back (D rs σ 5 (var x)) 119 (sym (once (λ y. series (polynomial rs σ y)) (term rs σ) s term_solves 5 x))

pub stretch_solved_exactly : StretchSolvedExactly
stretch_solved_exactly rs σ = (solved rs σ, only_then rs σ)

pub stretch_solved : StretchSolved
stretch_solved rs h σ = solved rs σ (shallow_zero rs h σ)

pub stretch_solved_once : StretchSolvedOnce
stretch_solved_once rs σ c d s t x k = once rs σ c d s t k x

-- The value of a polynomial.
sixth : norm (pos 1) 6 ≡ mul (norm (pos 1) 2) (norm (pos 1) 3)
unfolding mul norm lowest gcd steps
sixth = refl

last : norm (pos 1) 24 ≡ mul (norm (pos 1) 2) (mul (norm (pos 1) 3) (norm (pos 1) 4))
unfolding mul norm lowest gcd steps
last = refl

value_horner : (a b c d e : Frac) (n : ℕ) → value (scale a 1 1 ∷ scale b 1 1 ∷ scale c 1 2 ∷ scale d 1 6 ∷ scale e 1 24 ∷ []) n ≡ horner a b c d e n
unfolding value horner scale whole
value_horner a b c d e n =
    let m : Frac = norm (pos n) 1 in
    let i : Frac = norm (pos 1) 1 in
    let h2 : Frac = norm (pos 1) 2 in
    let h3 : Frac = norm (pos 1) 3 in
    let h4 : Frac = norm (pos 1) 4 in
    (λ j. add (mul a i) (mul m (add (mul b i) (mul m (add (mul c h2) (mul m (add (mul d (sixth j)) (mul m (add (mul e (last j)) (mul m naught))))))))))
    ∙ solve frac_ring (a ∷ b ∷ c ∷ d ∷ e ∷ m ∷ h2 ∷ h3 ∷ h4 ∷ [])
    (at 0 ⊗ unit ⊕ at 5 ⊗ (at 1 ⊗ unit ⊕ at 5 ⊗ (at 2 ⊗ at 6 ⊕ at 5 ⊗ (at 3 ⊗ (at 6 ⊗ at 7) ⊕ at 5 ⊗ (at 4 ⊗ (at 6 ⊗ (at 7 ⊗ at 8)) ⊕ at 5 ⊗ nil)))))
    (at 0 ⊕ (at 1 ⊕ (at 2 ⊕ (at 3 ⊕ at 4 ⊗ (at 5 ⊗ at 8)) ⊗ (at 5 ⊗ at 7)) ⊗ (at 5 ⊗ at 6)) ⊗ at 5) refl
    ∙ sym (λ j. add a (mul (add b (mul (add c (mul (add d (mul e (part n 4 (omega arith) j))) (part n 3 (omega arith) j))) (part n 2 (omega arith) j))) m))

-- at 0 ticks only the first coefficient counts
value_start : (a : Frac) (p : Poly) → value (a ∷ p) 0 ≡ a
unfolding value
value_start a p = ap (λ (z : Frac). add a (mul z (value p 0))) zero_is ∙ ap (add a) (frac_ring.times_none (value p 0)) ∙ frac_ring.plus_comm a naught ∙ none_add a

-- equal coefficients make equal values
value_none : (p : Poly) (n : ℕ) → ((k : ℕ) → series p k ≡ naught) → value p n ≡ naught
unfolding value
value_none [] n h = refl
value_none (a ∷ p) n h = ap₂ add (h 0) (ap (mul (whole (pos n))) (value_none p n (λ k. h (suc k))) ∙ mul_none (whole (pos n))) ∙ none_add naught

value_same : (p q : Poly) (n : ℕ) → ((k : ℕ) → series p k ≡ series q k) → value p n ≡ value q n
unfolding value
value_same [] q n h = sym (value_none q n (λ k. sym (h k)))
value_same (a ∷ p) [] n h = value_none (a ∷ p) n h
value_same (a ∷ p) (b ∷ q) n h = ap₂ add (h 0) (ap (mul (whole (pos n))) (value_same p q n (λ k. h (suc k))))

-- What the flow computes.
there : (τ : List Frac) (x : ℕ) → x < length τ → nth τ x ≡ Some (get_or τ x naught)
there [] x h = absurd (omega arith)
there (q ∷ τ) zero h = refl
there (q ∷ τ) (suc x) h = there τ x (omega arith)

module _ (rs : List Rate) (σ : List Frac) where
  flown_value : (n x : ℕ) → flown rs (D rs σ 0) n (var x) ≡ value (polynomial rs σ x) n
  unfolding flown Dk
  flown_value n x =
      sym (value_horner (D rs σ 0 (var x)) (D rs σ 1 (var x)) (D rs σ 2 (var x)) (D rs σ 3 (var x)) (D rs σ 4 (var x)) n)

  flow_value : (n : ℕ) (τ : List Frac) → flow exact rs σ n ≡ Some τ → Reads τ (λ x. value (polynomial rs σ x) n)
  unfolding Dk derive D0 weighted
  flow_value zero τ e x v h =
      let k : nth σ x ≡ Some v = let z : σ ≡ τ = cc in rw z h in
      reads_self σ x v k ∙ sym (value_start (scale (get_or σ x naught) 1 1) _ ∙ scale_one (get_or σ x naught))
  flow_value (suc m) τ e x v h =
      subst (Holds (λ (υ : List Frac). Reads υ (λ y. flown rs (D rs σ 0) (suc m) (var y)))) e (flow_reads rs σ (D rs σ 0) refl (reads_self σ) m) x v h
      ∙ flown_value (suc m) x

pub stretch_flows : StretchFlows
stretch_flows rs σ n τ e =
    let l = flow_length exact rs σ n τ e in
    (l, λ x h. flow_value rs σ n τ e x (get_or τ x naught) (there τ x (omega arith)))

pub solution_flows : SolutionFlows
solution_flows rs σ none p s n τ e =
    let (l, each) = stretch_flows rs σ n τ e in
    (l, λ x h. each x h ∙ value_same (polynomial rs σ x) (p x) n (λ k. once rs σ (λ y. series (polynomial rs σ y)) (λ y. series (p y)) (solved rs σ none) s k x))
