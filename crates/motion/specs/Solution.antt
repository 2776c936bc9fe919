-- A stretch as differential equations, and the polynomials in the ticks that solve them.
use Rattle.std.specs.Prelude.{◌≡◌, ℕ, zero, suc, ◌*◌, ◌<◌, ◌↔◌, List, [], ◌∷◌, length, pos, Some, slice_index_or}
use Rattle.number.specs.Frac.{Frac, naught, whole, add, mul, scale}
use Rattle.motion.specs.Numbers.{exact}
use Rattle.motion.specs.Lines.{Part, Rate, Of, one, var}
use Rattle.motion.specs.Flow.{parts_of, flow}
use Rattle.motion.specs.Derivatives.{weighted, D, FifthZero}
use Rattle.motion.specs.Chains.{Has, Names, Shallow}

-- All the coefficients of a polynomial in the ticks t, or of a power series: at k that of t^k.
abbrev pub Series : Type 0
Series = ℕ → Frac

-- A polynomial in the ticks t as the list of its coefficients, that of t^0 first.
abbrev pub Poly : Type 0
Poly = List Frac

-- the coefficients of a polynomial: 0 behind the last of the list
abbrev pub series : Poly → Series
series p k = slice_index_or p k naught

-- the value of a polynomial at n ticks: a0 + n (a1 + n (a2 + ..))
unfoldable pub value : Poly → ℕ → Frac
value [] n = naught
value (a ∷ p) n = add a (mul (whole (pos n)) (value p n))

-- the derivative: its coefficient of t^k is k + 1 times that of t^(k+1)
abbrev pub derivative : Series → Series
derivative a k = mul (whole (pos (suc k))) (a (suc k))

-- A polynomial or power series for each variable, by its coefficients.
abbrev pub Family : Type 0
Family = ℕ → Series

-- the coefficient of t^k in what a part names: the variable's polynomial, or for `one` the constant 1
abbrev pub named : Family → ℕ → Of → Frac
named c zero one = whole (pos 1)
named c (suc k) one = naught
named c k (var x) = c x k

-- x has a rate
abbrev pub Rated : ℕ → List Rate → Type 0
Rated x rs = (ps : List Part) × Has x ps rs

-- The family c solves the stretch with the rates rs that begins at the values σ.
pub record Solves (rs : List Rate) (σ : List Frac) (c : Family) : Type 0 where
  -- each variable starts at its value before the stretch; one that σ does not have, at 0
  pub starts : (x : ℕ) → c x 0 ≡ slice_index_or σ x naught
  -- the derivative of a rated variable's polynomial is the sum over its parts of coefficient times the part's polynomial
  pub rated : (x : ℕ) → Rated x rs → (k : ℕ) → derivative (c x) k ≡ weighted (named c k) (parts_of x rs)
  -- the polynomial of a variable without a rate is constant
  pub constant : (x : ℕ) → (Rated x rs → ⊥) → (k : ℕ) → c x (suc k) ≡ naught

-- k! = 1 · 2 · .. · k
abbrev pub factorial : ℕ → ℕ
factorial zero = 1
factorial (suc k) = suc k * factorial k

-- Dk of x over k!
abbrev pub term : List Rate → List Frac → Family
term rs σ x k = scale (D rs σ k (var x)) 1 (factorial k)

-- the polynomial of x in a stretch: Dk over k! at t^k, for k from 0 to 4
abbrev pub polynomial : List Rate → List Frac → ℕ → Poly
polynomial rs σ x = term rs σ x 0 ∷ term rs σ x 1 ∷ term rs σ x 2 ∷ term rs σ x 3 ∷ term rs σ x 4 ∷ []

-- After n ticks from σ each variable has the value of its polynomial at n.
abbrev pub RunsAlong : List Rate → List Frac → (ℕ → Poly) → Type 0
RunsAlong rs σ p =
    (n : ℕ) (τ : List Frac) → flow exact rs σ n ≡ Some τ →
    (length τ ≡ length σ) × ((x : ℕ) → x < length σ → slice_index_or τ x naught ≡ value (p x) n)

-- Where no walk has five names, the polynomials Dk over k! solve the stretch.
abbrev pub StretchSolved : Type 0
StretchSolved = (rs : List Rate) → Shallow rs → (σ : List Frac) → Solves rs σ (λ x. series (polynomial rs σ x))

-- They do so wherever D5 is 0, and only there.
abbrev pub StretchSolvedExactly : Type 0
StretchSolvedExactly = (rs : List Rate) (σ : List Frac) → FifthZero rs σ ↔ Solves rs σ (λ x. series (polynomial rs σ x))

-- What the flow computes for n ticks is the polynomials at n.
abbrev pub StretchFlows : Type 0
StretchFlows = (rs : List Rate) (σ : List Frac) → RunsAlong rs σ (polynomial rs σ)

-- There is no other solution: two families that solve a stretch have the same coefficients, without end.
abbrev pub StretchSolvedOnce : Type 0
StretchSolvedOnce = (rs : List Rate) (σ : List Frac) (c d : Family) → Solves rs σ c → Solves rs σ d → (x k : ℕ) → c x k ≡ d x k

-- So where D5 is 0, whatever polynomials solve the stretch, of any degree, the flow computes their values.
abbrev pub SolutionFlows : Type 0
SolutionFlows =
    (rs : List Rate) (σ : List Frac) → FifthZero rs σ → (p : ℕ → Poly) → Solves rs σ (λ x. series (p x)) → RunsAlong rs σ p

-- Every part names `one` or one of the w variables.
abbrev pub Within : ℕ → List Rate → Type 0
Within w rs = (x y : ℕ) → Names y (parts_of x rs) → y < w

-- Then the flow in unlimited fractions has an answer, for any number of ticks.
abbrev pub StretchRuns : Type 0
StretchRuns = (rs : List Rate) (σ : List Frac) → Within (length σ) rs → (n : ℕ) → (τ : List Frac) × (flow exact rs σ n ≡ Some τ)
