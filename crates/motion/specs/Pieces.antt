-- The steps of a run in two pieces against those of the run in one.
use Rattle.std.specs.Prelude.{◌≡◌, ℕ, ◌+◌, ◌≤◌, cond, List, length, Option, nat_lt}
use Rattle.number.specs.declared.Pair.{Pair}
use Rattle.number.specs.Frac.{Frac}
use Rattle.number.specs.Kind.{Holds}
use Rattle.motion.specs.Numbers.{exact}
use Rattle.motion.specs.Lines.{Line}
use Rattle.motion.specs.Machine.{Bench, accepted, advance, place_of, new}
use Rattle.motion.specs.NextLine.{declared}
use Rattle.motion.specs.Program.{Prog}
use Rattle.motion.specs.Rules.{ProgramOf}
use Rattle.motion.specs.Remaining.{Left}
use Rattle.motion.specs.Carriers.{Each}
use Rattle.motion.specs.Cuts.{Smooth}
use Rattle.motion.specs.Chains.{Shallows}
use Rattle.motion.specs.Pairs.{numbers_of, Meant}
use Rattle.motion.specs.Calls.{Call, after_calls}

-- the steps that it takes to go on from a bench with its stretch: one inside of a stretch, else none
abbrev pub resumed : {V : Type 0} → Bench V → ℕ
resumed b = cond (nat_lt 0 b.left) 1 0

-- In unlimited fractions: after s ticks and then t the advance by s + t is accepted too, comes to the same bench, and makes as many steps,
-- or one fewer where the cut lies in a stretch.
abbrev pub PiecesJoin : Type 0
PiecesJoin =
    (script : List Line) (p : Prog) (b c d : Bench Frac) (s t a a' m n o o' : ℕ) → Left script (place_of script b) p → Smooth (length b.values) p →
    advance exact script b s a ≡ accepted m o c → advance exact script c t a' ≡ accepted n o' d →
    (k : ℕ) × (k + resumed c ≡ m + n) × ((a'' : ℕ) → k ≤ a'' → advance exact script b (s + t) a'' ≡ accepted k o' d)

-- In a kind, from where any calls have led: of the steps of two pieces and of the whole, where all are accepted.
abbrev pub PiecesIn : (Pair → Option Frac) → (Frac → Option Pair) → Type 0
PiecesIn means code =
    (script : List Line) (p : Prog) → ProgramOf script p → Shallows p → (vs : List Pair) → Each (Meant means) (declared script) vs →
    (cs : List Call) (c d e : Bench Pair) (s t a a' a'' m n k o o' o'' : ℕ) →
    let N = numbers_of means code in
    let b = after_calls N script (new script vs) cs in
    advance N script b s a ≡ accepted m o c → advance N script c t a' ≡ accepted n o' d → advance N script b (s + t) a'' ≡ accepted k o'' e →
    k + resumed c ≡ m + n

-- so in every kind
abbrev pub PiecesCount : Type 0
PiecesCount = (means : Pair → Option Frac) (code : Frac → Option Pair) → Holds means code → PiecesIn means code
