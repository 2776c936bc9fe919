-- The rules leave no choice.
use Rattle.std.specs.Prelude.{◌≡◌, ℕ, List}
use Rattle.motion.specs.Lines.{Line}
use Rattle.motion.specs.Rules.{Config, Resting, ◌⟶◌, Steps, Standing, Shows, Curve}

-- A configuration steps to at most one other.
abbrev pub Deterministic : Type 0
Deterministic = (c d e : Config) → c ⟶ d → c ⟶ e → d ≡ e

-- From any configuration at most one other at rest is come to, in one number of steps.
abbrev pub OneRest : Type 0
OneRest = (c d e : Config) (m n : ℕ) → Steps m c d → Resting d → Steps n c e → Resting e → (d ≡ e) × (m ≡ n)

-- At most one standing is shown.
abbrev pub OneStanding : Type 0
OneStanding =
    (last : ℕ) (c d e : Config) (m n : ℕ) (s s' : Standing) → Steps m c d → Shows last d s → Steps n c e → Shows last e s' → s ≡ s'

-- A script has one curve: at each tick it shows at most one standing.
abbrev pub OneCurve : Type 0
OneCurve = (script : List Line) (T : ℕ) (s s' : Standing) → Curve script T s → Curve script T s' → s ≡ s'
