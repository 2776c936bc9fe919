-- A run does not depend on where it is cut.
use Rattle.std.specs.Prelude.{◌≡◌, ℕ, suc, ◌+◌, List, length, Some}
use Rattle.motion.specs.Numbers.{exact}
use Rattle.motion.specs.Lines.{Rate}
use Rattle.motion.specs.Rules.{Config, run, stop, err, Env, Resting, Steps}
use Rattle.motion.specs.Program.{Prog, skip, assign, evolve, rest, branch, repeat, seq}
use Rattle.motion.specs.Flow.{flow}

-- The flow law of some rates, over w variables: n ticks and then m are n + m ticks.
abbrev pub Flows : ℕ → List Rate → Type 0
Flows w r =
    (σ τ υ : Env) (n m : ℕ) → length σ ≡ w →
    flow exact r σ n ≡ Some τ → flow exact r τ m ≡ Some υ → flow exact r σ (n + m) ≡ Some υ

-- The rates of every stretch of a program have it.
abbrev pub Smooth : ℕ → Prog → Type 0
Smooth w skip = Unit {0}
Smooth w (assign l x e) = Unit {0}
Smooth w (evolve l e r) = Flows w r
Smooth w (rest l d r) = Flows w r
Smooth w (branch l e a b) = Smooth w a × Smooth w b
Smooth w (repeat l e a) = Smooth w a
Smooth w (seq a b) = Smooth w a × Smooth w b

-- A run cut after s ticks and gone on with for t comes to rest where the run of s + t ticks does.
abbrev pub CutStop : Type 0
CutStop =
    (p p' : Prog) (σ τ : Env) (s t m n : ℕ) (c : Config) → Smooth (length σ) p →
    Steps m (run p σ s) (stop p' τ) → Steps n (run p' τ t) c → Resting c →
    (k : ℕ) × (suc k ≡ m + n) × Steps k (run p σ (s + t)) c

-- Where the program has ended, further ticks are over.
abbrev pub CutEnd : Type 0
CutEnd =
    (p : Prog) (σ τ : Env) (s t u m : ℕ) → Steps m (run p σ s) (run skip τ u) → Steps m (run p σ (s + t)) (run skip τ (u + t))

-- A failure stays one.
abbrev pub CutErr : Type 0
CutErr = (p : Prog) (σ : Env) (s t m : ℕ) → Steps m (run p σ s) err → Steps m (run p σ (s + t)) err
