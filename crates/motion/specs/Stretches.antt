-- Three stretches worked out, each from values 0.
use Rattle.std.specs.Prelude.{◌≡◌, ℕ, zero, suc, List, [], ◌∷◌, pos, Some}
use Rattle.number.specs.Frac.{Frac, whole}
use Rattle.motion.specs.Numbers.{exact}
use Rattle.motion.specs.Lines.{Rate, Of, one, var}
use Rattle.motion.specs.Flow.{flow}
use Rattle.motion.specs.Derivatives.{D}
use Rattle.motion.specs.Chains.{Shallow}
use Rattle.motion.specs.Solution.{Poly, series, value, Solves, polynomial, Within}

-- the whole number k
abbrev pub w : ℕ → Frac
w k = whole (pos k)

-- x' = c times o
abbrev pub rate_of : ℕ → ℕ → Of → Rate
rate_of x c o = record { name = x; parts = record { coefficient = w c; of = o } ∷ [] }

-- p' = v, v' = 2
abbrev pub fall : List Rate
fall = rate_of 0 1 (var 1) ∷ rate_of 1 2 one ∷ []

-- k values 0
abbrev pub zeros : ℕ → List Frac
zeros zero = []
zeros (suc k) = w 0 ∷ zeros k

-- the polynomials t^2 and 2t
abbrev pub fallen : ℕ → Poly
fallen zero = w 0 ∷ w 0 ∷ w 1 ∷ []
fallen (suc zero) = w 0 ∷ w 2 ∷ []
fallen (suc (suc x)) = []

-- a chain of four names: a' = b, b' = c, c' = d, d' = 24
abbrev pub four : List Rate
four = rate_of 0 1 (var 1) ∷ rate_of 1 1 (var 2) ∷ rate_of 2 1 (var 3) ∷ rate_of 3 24 one ∷ []

-- a chain of five names: a' = b, b' = c, c' = d, d' = e, e' = 24
abbrev pub five : List Rate
five = rate_of 0 1 (var 1) ∷ rate_of 1 1 (var 2) ∷ rate_of 2 1 (var 3) ∷ rate_of 3 1 (var 4) ∷ rate_of 4 24 one ∷ []

-- What comes of them.
pub record StretchExamples : Type 0 where
  -- the fall is shallow, its parts name variables, t^2 and 2t solve it, and at 5 ticks it has come to 25 and 10
  pub fall_shallow : Shallow fall
  pub fall_within : Within 2 fall
  pub fall_solved : Solves fall (zeros 2) (λ x. series (fallen x))
  pub fall_flows : flow exact fall (zeros 2) 5 ≡ Some (w 25 ∷ w 10 ∷ [])
  pub fall_values : (value (fallen 0) 5 ≡ w 25) × (value (fallen 1) 5 ≡ w 10)
  -- the chain of four is shallow, and its first variable is t^4
  pub four_shallow : Shallow four
  pub four_solution : polynomial four (zeros 4) 0 ≡ w 0 ∷ w 0 ∷ w 0 ∷ w 0 ∷ w 1 ∷ []
  pub four_flows : flow exact four (zeros 4) 2 ≡ Some (w 16 ∷ w 32 ∷ w 48 ∷ w 48 ∷ [])
  -- the chain of five is not shallow, and D5 of its first variable is 24, so the polynomials do not solve it
  pub five_deep : Shallow five → ⊥
  pub five_fifth : D five (zeros 5) 5 (var 0) ≡ w 24
  pub five_unsolved : Solves five (zeros 5) (λ x. series (polynomial five (zeros 5) x)) → ⊥
