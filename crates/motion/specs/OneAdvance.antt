-- One advance of a bench that stands, told by the rules.
use Rattle.std.specs.Prelude.{◌≡◌, ℕ, suc, ◌+◌, ◌≤◌, List, length, Option, ◌≢◌}
use Rattle.number.specs.declared.Pair.{Pair}
use Rattle.number.specs.Frac.{Frac}
use Rattle.number.specs.Kind.{Holds}
use Rattle.motion.specs.Numbers.{Numbers}
use Rattle.motion.specs.Lines.{Line}
use Rattle.motion.specs.Machine.{Bench, Answer, accepted, refused, advance, new}
use Rattle.motion.specs.NextLine.{declared}
use Rattle.motion.specs.Program.{Prog, skip}
use Rattle.motion.specs.Rules.{Env, Config, run, stop, Steps, Heads, Shows, Standing, Curve, ProgramOf}
use Rattle.motion.specs.Agreement.{Err, Unfinished, FailsWithin}
use Rattle.motion.specs.Carriers.{Each}
use Rattle.motion.specs.Chains.{Shallows}
use Rattle.motion.specs.Pairs.{numbers_of, Meant}
use Rattle.motion.specs.Calls.{Call, after_calls, StandsAt}
use Rattle.motion.specs.Promise.{Alike}

-- A bench stands: it is as it was built with the first values vs, or on the curve at its total. R says which fraction a value stands for.
pub data Stands {V : Type 0} (R : Frac → V → Type 0) (N : Numbers V) (script : List Line) (vs : List V) (b : Bench V) : Type 0 where
  as_built : b ≡ new script vs → Stands R N script vs b
  on_curve : StandsAt R N script b.total b → Stands R N script vs b

-- The configuration with which the rules go on from a bench for t more ticks.
pub data Resumes {V : Type 0} (script : List Line) (vs : List V) (b : Bench V) (t : ℕ) : Config → Type 0 where
  -- as built: the program starts, with the declared values
  starts : {p : Prog} → b ≡ new script vs → ProgramOf script p → Resumes script vs b t (run p (declared script) t)
  -- the rules stopped after the bench's total, in the stretch in which it stands: they go on with what is left to do
  goes_on : {p q : Prog} {σ : Env} {n : ℕ} → ProgramOf script p → Steps n (run p (declared script) b.total) (stop q σ) → Heads q b.line b.left → b.over ≡ 0 →
      Resumes script vs b t (run q σ t)
  -- they came to the end: t more ticks are over
  waits : {p : Prog} {σ : Env} {n : ℕ} → ProgramOf script p → Steps n (run p (declared script) b.total) (run skip σ b.over) → b.line ≡ suc (length script) →
      Resumes script vs b t (run skip σ (b.over + t))

-- a configuration at rest shows where a bench stands, and its values
abbrev pub ShowsBench : {V : Type 0} → (Frac → V → Type 0) → List Line → Config → Bench V → Type 0
ShowsBench R script c b = (σ : Env) × Each R σ b.values × Shows (suc (length script)) c (record { values = σ; line = b.line; left = b.left; over = b.over })

-- What an answer to an advance of b by t ticks with a steps allowed says of the rules.
pub record Lawful {V : Type 0} (R : Frac → V → Type 0) (N : Numbers V) (script : List Line) (vs : List V) (b : Bench V) (t a : ℕ) (answer : Answer V) : Type 0 where
  -- the configuration with which the rules go on, and that there is no other
  pub from : Config
  pub resumes : Resumes script vs b t from
  pub only : (c : Config) → Resumes script vs b t c → c ≡ from
  -- accepted: t ticks more in all, so many over as are told, no more steps than allowed, on the curve at the new total
  pub counted : (k o : ℕ) (c : Bench V) → answer ≡ accepted k o c → (c.total ≡ b.total + t) × (o ≡ c.over) × (k ≤ a)
  pub stands : (k o : ℕ) (c : Bench V) → answer ≡ accepted k o c → StandsAt R N script (b.total + t) c
  -- so it stands again
  pub again : (k o : ℕ) (c : Bench V) → answer ≡ accepted k o c → Stands R N script vs c
  -- and the steps told are those of the rules, which come to rest where the bench stands
  pub steps : (k o : ℕ) (c : Bench V) → answer ≡ accepted k o c → (end : Config) × Steps k from end × ShowsBench R script end c
  -- refused by 21 or 22: the rules fail within the steps allowed, and the curve has nothing at that tick and at no later one
  pub fails : (k l f : ℕ) → Err k → answer ≡ refused k l f → FailsWithin a from
  pub nothing : (k l f : ℕ) → Err k → answer ≡ refused k l f → (T : ℕ) (s : Standing) → b.total + t ≤ T → Curve script T s → ⊥
  -- refused by 20: after the steps allowed the rules have still a statement to do
  pub short : (l f : ℕ) → answer ≡ refused 20 l f → Unfinished a from
  -- and the other way: where the rules fail within the steps allowed, or need more of them, the advance is not accepted
  pub not_failing : FailsWithin a from → (k o : ℕ) (c : Bench V) → answer ≢ accepted k o c
  pub not_short : Unfinished a from → (k o : ℕ) (c : Bench V) → answer ≢ accepted k o c

-- Any advance of a bench that stands, in a kind that holds the declared values.
abbrev pub AdvanceIn : (Pair → Option Frac) → (Frac → Option Pair) → Type 0
AdvanceIn means code =
    (script : List Line) (p : Prog) → ProgramOf script p → Shallows p → (vs : List Pair) → Each (Meant means) (declared script) vs →
    (b : Bench Pair) → Stands (Meant means) (numbers_of means code) script vs b → (t a : ℕ) →
    Lawful (Meant means) (numbers_of means code) script vs b t a (advance (numbers_of means code) script b t a)

-- so in every kind
abbrev pub AdvanceLaw : Type 0
AdvanceLaw = (means : Pair → Option Frac) (code : Frac → Option Pair) → Holds means code → AdvanceIn means code

-- After any calls on a new bench, in every kind that holds the declared values, the bench stands.
abbrev pub AlwaysStands : Type 0
AlwaysStands =
    (means : Pair → Option Frac) (code : Frac → Option Pair) → Holds means code →
    (script : List Line) (p : Prog) → ProgramOf script p → Shallows p → (vs : List Pair) → Each (Meant means) (declared script) vs → (cs : List Call) →
    Stands (Meant means) (numbers_of means code) script vs (after_calls (numbers_of means code) script (new script vs) cs)

-- two benches stand in the same way: both as built, or both on the curve
abbrev pub SameWay : {V W : Type 0} {R : Frac → V → Type 0} {S : Frac → W → Type 0} {N : Numbers V} {M : Numbers W} {script : List Line} {vs : List V} {ws : List W} {b : Bench V} {c : Bench W} →
    Stands R N script vs b → Stands S M script ws c → Type 0
SameWay (as_built e) (as_built e') = Unit {0}
SameWay (as_built e) (on_curve s) = ⊥
SameWay (on_curve s) (as_built e) = ⊥
SameWay (on_curve s) (on_curve s') = Unit {0}

-- Two benches of one script, each in its kind, with one total: alike if both stand on the curve, and if both stand in the same way.
pub record AlikeOnCurve : Type 0 where
  pub curve : (means means' : Pair → Option Frac) (code code' : Frac → Option Pair) (script : List Line) (T : ℕ) (b c : Bench Pair) →
      StandsAt (Meant means) (numbers_of means code) script T b → StandsAt (Meant means') (numbers_of means' code') script T c → b.total ≡ c.total → Alike means means' b c
  pub standing : (means means' : Pair → Option Frac) (code code' : Frac → Option Pair) (script : List Line) (vs vs' : List Pair) →
      Each (Meant means) (declared script) vs → Each (Meant means') (declared script) vs' → (b c : Bench Pair) →
      (s : Stands (Meant means) (numbers_of means code) script vs b) (s' : Stands (Meant means') (numbers_of means' code') script vs' c) → SameWay s s' →
      b.total ≡ c.total → Alike means means' b c
