-- The derivatives of a stretch: D0, D1, and so on, of all that a part may name.
use Rattle.std.specs.Prelude.{◌≡◌, ℕ, zero, suc, List, [], ◌∷◌, pos, slice_index_or}
use Rattle.number.specs.Frac.{Frac, naught, whole, add, mul}
use Rattle.motion.specs.Lines.{Part, Rate, Of, one, var}
use Rattle.motion.specs.Flow.{parts_of}

-- D0 at the values σ: `one` counts as 1, and a variable as its value
unfoldable pub D0 : List Frac → Of → Frac
D0 σ one = whole (pos 1)
D0 σ (var x) = slice_index_or σ x naught

-- the sum over the parts of the coefficient times what f says of the part's name
unfoldable pub weighted : (Of → Frac) → List Part → Frac
weighted f [] = naught
weighted f (p ∷ ps) = add (mul p.coefficient (f p.of)) (weighted f ps)

-- one Dk further: of a variable the sum over its parts, which is 0 where it has no rate line, and of `one` 0
unfoldable pub derive : List Rate → (Of → Frac) → Of → Frac
derive rs f one = naught
derive rs f (var x) = weighted f (parts_of x rs)

-- k derivatives further than f
unfoldable pub Dk : List Rate → ℕ → (Of → Frac) → Of → Frac
Dk rs zero f = f
Dk rs (suc k) f = derive rs (Dk rs k f)

-- Dk of what a part names, in a stretch that begins at the values σ
abbrev pub D : List Rate → List Frac → ℕ → Of → Frac
D rs σ k = Dk rs k (D0 σ)

-- D5 of every variable is 0
abbrev pub FifthZero : List Rate → List Frac → Type 0
FifthZero rs σ = (x : ℕ) → D rs σ 5 (var x) ≡ naught
