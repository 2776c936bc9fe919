-- How far the rates of a stretch depend on one another.
use Rattle.std.specs.Prelude.{◌≡◌, ℕ, zero, suc, Bool, false, cond, ◌||◌, ◌↔◌, List, [], ◌∷◌, map, ◌==◌}
use Rattle.number.specs.Frac.{Frac}
use Rattle.motion.specs.Lines.{Part, Rate, Of, one, var}
use Rattle.motion.specs.Program.{Prog, skip, assign, evolve, rest, branch, repeat, seq}

-- there is a rate for x, with the parts ps
pub data Has (x : ℕ) (ps : List Part) : List Rate → Type 0 where
  has : {rs : List Rate} → Has x ps (record { name = x; parts = ps } ∷ rs)
  has_behind : {r : Rate} {rs : List Rate} → Has x ps rs → Has x ps (r ∷ rs)

-- one of the parts names y
pub data Names (y : ℕ) : List Part → Type 0 where
  names : {c : Frac} {ps : List Part} → Names y (record { coefficient = c; of = var y } ∷ ps)
  names_behind : {p : Part} {ps : List Part} → Names y ps → Names y (p ∷ ps)

-- x has a rate that names y, and y has a rate too
pub record Depends (rs : List Rate) (x y : ℕ) : Type 0 where
  pub parts : List Part
  pub rated : Has x parts rs
  pub named : Names y parts
  pub others : List Part
  pub other : Has y others rs

-- a walk of so many names from x on, each of which depends on the next
pub data Walk (rs : List Rate) : ℕ → ℕ → Type 0 where
  alone : {x : ℕ} {ps : List Part} → Has x ps rs → Walk rs (suc zero) x
  onto : {k x y : ℕ} → Depends rs x y → Walk rs k y → Walk rs (suc k) x

-- no walk has five names
abbrev pub Shallow : List Rate → Type 0
Shallow rs = (x : ℕ) → Walk rs 5 x → ⊥

-- so of every stretch of a program
abbrev pub Shallows : Prog → Type 0
Shallows skip = Unit {0}
Shallows (assign l x e) = Unit {0}
Shallows (evolve l e r) = Shallow r
Shallows (rest l d r) = Shallow r
Shallows (branch l e a b) = Shallows a × Shallows b
Shallows (repeat l e a) = Shallows a
Shallows (seq a b) = Shallows a × Shallows b

-- x is one of the list
abbrev pub among : ℕ → List ℕ → Bool
among x [] = false
among x (y ∷ ys) = x == y || among x ys

-- what a part names is one of xs
abbrev pub touch : List ℕ → Of → Bool
touch xs one = false
touch xs (var y) = among y xs

-- a part names one of xs
abbrev pub touches : List ℕ → List Part → Bool
touches xs [] = false
touches xs (p ∷ ps) = touch xs p.of || touches xs ps

-- the names whose rates name one of xs
abbrev pub leading : List ℕ → List Rate → List ℕ
leading xs [] = []
leading xs (r ∷ rs) = cond (touches xs r.parts) (r.name ∷ leading xs rs) (leading xs rs)

-- the names from which a walk of k + 1 names starts
abbrev pub starts : List Rate → ℕ → List ℕ
starts rs zero = map (λ (r : Rate). r.name) rs
starts rs (suc k) = leading (starts rs k) rs

-- Whether rates are shallow can be worked out.
abbrev pub ShallowTold : Type 0
ShallowTold = (rs : List Rate) → Shallow rs ↔ (starts rs 4 ≡ [])
