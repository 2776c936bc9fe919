-- The promise: after any calls, in every kind of number, a bench is on the curve.
use Rattle.std.specs.Prelude.{◌≡◌, ℕ, ◌+◌, ◌≤◌, List, Option}
use Rattle.number.specs.declared.Pair.{Pair}
use Rattle.number.specs.Frac.{Frac}
use Rattle.number.specs.Kind.{Holds}
use Rattle.motion.specs.Numbers.{exact}
use Rattle.motion.specs.Lines.{Line}
use Rattle.motion.specs.Rules.{Standing, Curve, ProgramOf}
use Rattle.motion.specs.Agreement.{Err}
use Rattle.motion.specs.Program.{Prog}
use Rattle.motion.specs.Machine.{Bench, refused, advance, new}
use Rattle.motion.specs.NextLine.{declared}
use Rattle.motion.specs.Carriers.{Each, Simulates}
use Rattle.motion.specs.Chains.{Shallows}
use Rattle.motion.specs.Pairs.{numbers_of, Meant}
use Rattle.motion.specs.Calls.{Call, after_calls, ticks_accepted, some_accepted, ComesTo}

-- What a run in a kind's pairs accepts, or refuses by 19 to 22, the run in unlimited fractions does too, with what the pairs stand for.
abbrev pub KindFollows : Type 0
KindFollows = (means : Pair → Option Frac) (code : Frac → Option Pair) → Holds means code → Simulates exact (numbers_of means code) (Meant means)

-- Any calls on a new bench whose first values are held: the bench is as it was built, or on the curve at the sum of the accepted ticks.
abbrev pub PromiseIn : (Pair → Option Frac) → (Frac → Option Pair) → Type 0
PromiseIn means code =
    (script : List Line) (p : Prog) → ProgramOf script p → Shallows p →
    (vs : List Pair) → Each (Meant means) (declared script) vs → (cs : List Call) → ComesTo (Meant means) (numbers_of means code) script vs cs

-- so in every kind
abbrev pub PromiseKept : Type 0
PromiseKept = (means : Pair → Option Frac) (code : Frac → Option Pair) → Holds means code → PromiseIn means code

-- After any calls, where an advance is refused by 21 or 22: the rules fail there, and the curve has nothing at that tick and at no later one.
abbrev pub NothingIn : (Pair → Option Frac) → (Frac → Option Pair) → Type 0
NothingIn means code =
    (script : List Line) (p : Prog) → ProgramOf script p → Shallows p →
    (vs : List Pair) → Each (Meant means) (declared script) vs → (cs : List Call) (ticks allowance k l f T : ℕ) (s : Standing) → Err k →
    let N = numbers_of means code in
    let b = after_calls N script (new script vs) cs in
    advance N script b ticks allowance ≡ refused k l f → b.total + ticks ≤ T → Curve script T s → ⊥

-- so in every kind
abbrev pub NothingThere : Type 0
NothingThere = (means : Pair → Option Frac) (code : Frac → Option Pair) → Holds means code → NothingIn means code

-- Two benches show the same, each in its kind.
pub record Alike (means means' : Pair → Option Frac) (b c : Bench Pair) : Type 0 where
  pub line : b.line ≡ c.line
  pub left : b.left ≡ c.left
  pub total : b.total ≡ c.total
  pub over : b.over ≡ c.over
  pub values : Each (λ p q. (x : Frac) × Meant means x p × Meant means' x q) b.values c.values

-- Two lists of calls on new benches of one script, each in its kind, with one sum of accepted ticks, both with or both without an accepted advance, end alike.
abbrev pub AgreeIn : (Pair → Option Frac) → (Frac → Option Pair) → (Pair → Option Frac) → (Frac → Option Pair) → Type 0
AgreeIn means code means' code' =
    (script : List Line) (p : Prog) → ProgramOf script p → Shallows p →
    (vs vs' : List Pair) → Each (Meant means) (declared script) vs → Each (Meant means') (declared script) vs' → (cs cs' : List Call) →
    let N = numbers_of means code in
    let N' = numbers_of means' code' in
    ticks_accepted N script (new script vs) cs ≡ ticks_accepted N' script (new script vs') cs' →
    some_accepted N script (new script vs) cs ≡ some_accepted N' script (new script vs') cs' →
    Alike means means' (after_calls N script (new script vs) cs) (after_calls N' script (new script vs') cs')

-- so in every two kinds
abbrev pub KindsAgree : Type 0
KindsAgree = (means means' : Pair → Option Frac) (code code' : Frac → Option Pair) → Holds means code → Holds means' code' → AgreeIn means code means' code'

-- In one kind two such lists end in one bench.
abbrev pub OneBench : Type 0
OneBench =
    (means : Pair → Option Frac) (code : Frac → Option Pair) → Holds means code →
    (script : List Line) (p : Prog) → ProgramOf script p → Shallows p → (vs : List Pair) → Each (Meant means) (declared script) vs → (cs cs' : List Call) →
    let N = numbers_of means code in
    ticks_accepted N script (new script vs) cs ≡ ticks_accepted N script (new script vs) cs' →
    some_accepted N script (new script vs) cs ≡ some_accepted N script (new script vs) cs' →
    after_calls N script (new script vs) cs ≡ after_calls N script (new script vs) cs'
