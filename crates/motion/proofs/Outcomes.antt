-- What a step and an answer of the line machine say of the rules, case by case.
use Rattle.std.proofs.Common.{◌≡◌, ℕ, suc, ◌+◌, ◌<◌, ◌≤◌, List, length}
use Rattle.number.specs.Frac.{Frac}
use Rattle.motion.specs.Lines.{Line}
use Rattle.motion.specs.Machine as M
use Rattle.motion.specs.Machine.{inside, place_at, Answer, accepted, refused, Stepped, go, fail}
use Rattle.motion.specs.Program.{Prog}
use Rattle.motion.specs.Rules.{Env, Config, run, stop, err, ◌⟶◌, Steps, Heads, Shows}
use Rattle.motion.specs.Remaining.{Left}
use Rattle.motion.specs.Agreement.{Err, Fault, standing, GoesOn, Unfinished}

-- what one step of the line machine says of the rules
abbrev pub Outcome : List Line → Prog → Env → ℕ → Stepped Frac → Type 0
Outcome all p σ t (go m e u) = (p' : Prog) × (run p σ t ⟶ run p' e u) × Left all (place_at all m) p'
Outcome all p σ t (M.stop n d e) = (p' : Prog) × (run p σ t ⟶ stop p' e) × Heads p' n d × Left all (inside n d) p' × (0 < d)
Outcome all p σ t (fail i n f) = Fault i × (Err i → run p σ t ⟶ err) × ((c : Config) → run p σ t ⟶ c → Err i)

-- what an answer says of the rules, where `steps` were made before and `a` more are allowed
abbrev pub Told : List Line → Prog → Env → (t steps a : ℕ) → Answer Frac → Type 0
Told all p σ t steps a (accepted k over b) = (j : ℕ) × (c : Config) × (k ≡ steps + j) × (j ≤ a) × Steps j (run p σ t) c × Shows (suc (length all)) c (standing b) × GoesOn all b c
Told all p σ t steps a (refused i n f) = (0 < i) × (Err i → (j : ℕ) × (j ≤ a) × Steps j (run p σ t) err) × (i ≡ 20 → Unfinished a (run p σ t))
