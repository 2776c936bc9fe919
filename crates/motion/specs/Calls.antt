-- What any calls on one bench come to.
use Rattle.std.specs.Prelude.{◌≡◌, ℕ, ◌+◌, Bool, true, false, ◌||◌, List, [], ◌∷◌, length, Option}
use Rattle.number.specs.Frac.{Frac}
use Rattle.motion.specs.Numbers.{Numbers, exact}
use Rattle.motion.specs.Lines.{Line}
use Rattle.motion.specs.Items.{nth}
use Rattle.motion.specs.Flow.{then}
use Rattle.motion.specs.Machine.{Bench, Answer, accepted, refused, advance, new}
use Rattle.motion.specs.NextLine.{declared}
use Rattle.motion.specs.Program.{Prog}
use Rattle.motion.specs.Rules.{Env, Curve, ProgramOf}
use Rattle.motion.specs.Carriers.{Each}
use Rattle.motion.specs.Cuts.{Smooth}

-- a call on a bench: an advance; and the four that change nothing here: a reading of a variable, the question for the next joint,
-- a write into a buffer of so many bytes, and a hand-over by way of such a buffer, taken up or not
pub data Call : Type 0 where
  advances : (ticks allowance : ℕ) → Call
  reads : (variable : ℕ) → Call
  asks_joint : Call
  writes : (room : ℕ) → Call
  hands_over : (room : ℕ) → Call

-- the bench after an answer: a refusal changes nothing
abbrev pub bench_after : {V : Type 0} → Bench V → Answer V → Bench V
bench_after b (accepted steps over c) = c
bench_after b (refused k l f) = b

-- the ticks that an answer to an advance by t took: none if it was refused
abbrev pub ticks_taken : {V : Type 0} → ℕ → Answer V → ℕ
ticks_taken t (accepted steps over c) = t
ticks_taken t (refused k l f) = 0

-- the answer accepts
abbrev pub was_accepted : {V : Type 0} → Answer V → Bool
was_accepted (accepted steps over c) = true
was_accepted (refused k l f) = false

module _ {V : Type 0} (N : Numbers V) (all : List Line) where
  -- the bench after a call
  abbrev pub called : Bench V → Call → Bench V
  called b (advances t a) = bench_after b (advance N all b t a)
  called b (reads x) = b
  called b asks_joint = b
  called b (writes n) = b
  called b (hands_over n) = b

  -- the ticks that a call took
  abbrev pub call_ticks : Bench V → Call → ℕ
  call_ticks b (advances t a) = ticks_taken t (advance N all b t a)
  call_ticks b (reads x) = 0
  call_ticks b asks_joint = 0
  call_ticks b (writes n) = 0
  call_ticks b (hands_over n) = 0

  -- a call is an advance that is accepted
  abbrev pub call_accepted : Bench V → Call → Bool
  call_accepted b (advances t a) = was_accepted (advance N all b t a)
  call_accepted b (reads x) = false
  call_accepted b asks_joint = false
  call_accepted b (writes n) = false
  call_accepted b (hands_over n) = false

  -- the bench after the calls, one after the other
  abbrev pub after_calls : Bench V → List Call → Bench V
  after_calls b [] = b
  after_calls b (c ∷ cs) = after_calls (called b c) cs

  -- the sum of the ticks that were accepted
  abbrev pub ticks_accepted : Bench V → List Call → ℕ
  ticks_accepted b [] = 0
  ticks_accepted b (c ∷ cs) = call_ticks b c + ticks_accepted (called b c) cs

  -- one of the calls is an advance that is accepted
  abbrev pub some_accepted : Bench V → List Call → Bool
  some_accepted b [] = false
  some_accepted b (c ∷ cs) = call_accepted b c || some_accepted (called b c) cs

-- what a reading of variable x answers: its value in lowest terms
abbrev pub reading : {V : Type 0} → Numbers V → Bench V → (x : ℕ) → Option Frac
reading N b x = then (nth b.values x) N.terms

-- The bench shows what the curve has at tick T; R says which fraction a value stands for.
pub record StandsAt {V : Type 0} (R : Frac → V → Type 0) (N : Numbers V) (script : List Line) (T : ℕ) (b : Bench V) : Type 0 where
  -- the curve's values
  pub values : Env
  pub meant : Each R values b.values
  pub read : (x : ℕ) → reading N b x ≡ nth values x
  pub curve : Curve script T (record { values = values; line = b.line; left = b.left; over = b.over })

-- What the calls come to on a new bench with the values vs. The list is any list, so this holds after each call of a longer one.
pub record ComesTo {V : Type 0} (R : Frac → V → Type 0) (N : Numbers V) (script : List Line) (vs : List V) (cs : List Call) : Type 0 where
  -- the total is the sum of the ticks that were accepted
  pub total : (after_calls N script (new script vs) cs).total ≡ ticks_accepted N script (new script vs) cs
  -- with no advance accepted the bench is as it was built
  pub unmoved : some_accepted N script (new script vs) cs ≡ false → after_calls N script (new script vs) cs ≡ new script vs
  -- else it stands on the curve at the sum
  pub on_curve : some_accepted N script (new script vs) cs ≡ true → StandsAt R N script (ticks_accepted N script (new script vs) cs) (after_calls N script (new script vs) cs)

-- The bench's total is the sum of the ticks that were accepted.
abbrev pub TotalIsSum : Type 0 → Type 0
TotalIsSum V = (N : Numbers V) (all : List Line) (b : Bench V) (cs : List Call) → (after_calls N all b cs).total ≡ b.total + ticks_accepted N all b cs

-- Any calls in unlimited fractions, where the rates have the flow law.
abbrev pub ExactCalls : Type 0
ExactCalls =
    (script : List Line) (p : Prog) → ProgramOf script p → Smooth (length (declared script)) p → (cs : List Call) → ComesTo (◌≡◌ {A = Frac}) exact script (declared script) cs
