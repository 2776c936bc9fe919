-- The values after n ticks of a stretch.
use Rattle.std.specs.Prelude.{ℕ, zero, suc, Bool, true, false, cond, List, [], ◌∷◌, length, pos, Some, None, Option, ◌==◌}
use Rattle.number.specs.Frac.{whole}
use Rattle.motion.specs.Lines.{Part, Rate, Of, one, var}
use Rattle.motion.specs.Items.{nth}
use Rattle.motion.specs.Numbers.{Numbers}

-- f of an answer; no answer stays none
abbrev pub then : {A B : Type 0} → Option A → (A → Option B) → Option B
then (Some a) f = f a
then None f = None

-- the parts of the first rate line for x; none where there is none
abbrev pub parts_of : ℕ → List Rate → List Part
parts_of x [] = []
parts_of x (r ∷ rs) = cond (r.name == x) r.parts (parts_of x rs)

module _ {V : Type 0} (N : Numbers V) where
  -- Dk of what a part names; d has Dk of each variable
  abbrev pub of_part : (first : Bool) → List V → Of → Option V
  of_part first d one = N.literal (whole (pos (cond first 1 0)))
  of_part first d (var x) = nth d x

  -- the sum over the parts, from left to right
  abbrev pub sum : Bool → List V → V → List Part → Option V
  sum first d acc [] = Some acc
  sum first d acc (p ∷ ps) =
      then (N.literal p.coefficient) (λ c.
      then (of_part first d p.of) (λ v.
      then (N.mul c v) (λ m.
      then (N.add acc m) (λ s. sum first d s ps))))

  -- D(k+1) of n variables from x on, by Dk
  abbrev pub next : Bool → List Rate → List V → ℕ → ℕ → Option (List V)
  next first rs d x zero = Some []
  next first rs d x (suc n) =
      then (N.literal (whole (pos 0))) (λ z.
      then (sum first d z (parts_of x rs)) (λ q.
      then (next first rs d (suc x) n) (λ qs. Some (q ∷ qs))))

  -- each D plus r scaled by n over k
  abbrev pub climb : ℕ → ℕ → List V → List V → Option (List V)
  climb n k [] rs = Some []
  climb n k (d ∷ ds) [] = None
  climb n k (d ∷ ds) (r ∷ rs) =
      then (N.scale r n k) (λ s.
      then (N.add d s) (λ q.
      then (climb n k ds rs) (λ qs. Some (q ∷ qs))))

  -- the values after n ticks from d0: D1 to D4 worked out, and then from D4 down; for 0 ticks nothing is worked out
  abbrev pub flow : List Rate → List V → ℕ → Option (List V)
  flow rs d0 zero = Some d0
  flow rs d0 (suc m) =
      let n = suc m in
      let c = length d0 in
      then (next true rs d0 0 c) (λ d1.
      then (next false rs d1 0 c) (λ d2.
      then (next false rs d2 0 c) (λ d3.
      then (next false rs d3 0 c) (λ d4.
      then (climb n 4 d3 d4) (λ r3.
      then (climb n 3 d2 r3) (λ r2.
      then (climb n 2 d1 r2) (λ r1.
      climb n 1 d0 r1)))))))
