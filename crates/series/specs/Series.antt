-- Calls on one bench, one after the other, and their replies. Assumes nothing.
use Rattle.std.specs.Prelude.{◌≡◌, ℕ, ◌+◌, Bool, true, false, cond, ◌||◌, List, [], ◌∷◌, ◌++◌, length, ℤ, Some, Ok, Err, Option, Result, nat_le}
use Rattle.std.specs.Borrow.{Bor}
use Rattle.number.specs.declared.Pair.{Pair}
use Rattle.number.specs.Frac.{Frac}
use Rattle.motion.specs.Lines.{Line}
use Rattle.motion.specs.NextLine.{declared}
use Rattle.motion.specs.Carriers.{Each}
use Rattle.motion.specs.Machine.{accepted, refused, new}
use Rattle.motion.specs.Machine as M
use Rattle.motion.specs.Pairs.{numbers_of, Meant}
use Rattle.motion.specs.Fitting.{fits, advance_call}
use Rattle.record.specs.Refusals.{Refusal}
use Rattle.record.specs.declared.Reason.TheVariants.{BufferTooShort}
use Rattle.record.specs.Refusals as R
use Rattle.refusal.specs.Refusals.{refused as why}
use Rattle.handover.specs.Lines.{line_of}
use Rattle.bench.specs.Built.{first_values}
use Rattle.bench.specs.Calls.{unfit, read_variable, joint_of}
use Rattle.bench.specs.Laws.{OnCurve, ReadsCurve}
use Rattle.series.specs.declared.calls.Call.{Call}
use Rattle.series.specs.declared.calls.Call.TheVariants.{Advance, Reading, NextJoint, Write, HandOver}
use Rattle.series.specs.declared.calls.Answer.{Answer}
use Rattle.series.specs.declared.calls.Answer.TheVariants.{Advanced, Value, Joint, Written, HandedOver}
use Rattle.series.specs.declared.calls.Step.{Step}

-- what an accepted call answers
abbrev pub advance_answer : Result (ℕ × ℕ) Refusal → Result Answer Refusal
advance_answer (Ok p) = Ok (Advanced p.0 p.1)
advance_answer (Err e) = Err e

abbrev pub value_answer : Result (ℤ × ℤ) Refusal → Result Answer Refusal
value_answer (Ok p) = Ok (Value p.0 p.1)
value_answer (Err e) = Err e

abbrev pub size_answer : Result ℕ Refusal → Result Answer Refusal
size_answer (Ok n) = Ok (Written n)
size_answer (Err e) = Err e

abbrev pub hand_answer : Result Unit Refusal → Result Answer Refusal
hand_answer (Ok u) = Ok HandedOver
hand_answer (Err e) = Err e

-- a hand-over is refused as its write is; the take-up of a line that was written is not
abbrev pub handed : Result ℕ Refusal → Result Unit Refusal
handed (Ok n) = Ok tt
handed (Err e) = Err e

-- the ticks that a call took: those of an advance that was accepted
abbrev pub ticks_by : ℕ → Result Answer Refusal → ℕ
ticks_by t (Ok (Advanced k o)) = t
ticks_by t (Ok (Value n d)) = 0
ticks_by t (Ok (Joint o)) = 0
ticks_by t (Ok (Written n)) = 0
ticks_by t (Ok HandedOver) = 0
ticks_by t (Err e) = 0

abbrev pub ticks_in : Call → Result Answer Refusal → ℕ
ticks_in (Advance t a) r = ticks_by t r
ticks_in (Reading n) r = 0
ticks_in NextJoint r = 0
ticks_in (Write n) r = 0
ticks_in (HandOver n) r = 0

-- a reply is that of an advance that was accepted
abbrev pub is_advanced : Result Answer Refusal → Bool
is_advanced (Ok (Advanced k o)) = true
is_advanced (Ok (Value n d)) = false
is_advanced (Ok (Joint o)) = false
is_advanced (Ok (Written n)) = false
is_advanced (Ok HandedOver) = false
is_advanced (Err e) = false

-- the call of a step
abbrev pub call_in : Step → Call
call_in s = s.call

-- a call with its reply
abbrev pub step : Call → Result Answer Refusal → Step
step call reply = record { call = call; reply = Some reply }

module _ (means : Pair → Option Frac) (code : Frac → Option Pair) (script : List Line) where
  -- what a write into a buffer of so many bytes answers
  abbrev pub write_call : M.Bench Pair → ℕ → Result ℕ Refusal
  write_call b room =
      cond (fits (numbers_of means code) script b) (cond (nat_le (length (line_of means b)) room) (Ok (length (line_of means b))) (Err (why BufferTooShort 0 0))) unfit

  -- the total is the sum of the accepted ticks; the bench is as it was built until an advance is accepted, and from then on on the curve at the sum
  abbrev pub KeptAfter : M.Bench Pair → (sum : ℕ) → (moved : Bool) → Type 0
  KeptAfter b sum false = (b.total ≡ sum) × (b ≡ new script (first_values code script))
  KeptAfter b sum true = (b.total ≡ sum) × OnCurve means code script sum b

  module _ (place : List ℕ → Option ℕ) where
    -- what a reading answers; `place` is the place of a name among the variables
    abbrev pub read_call : M.Bench Pair → List ℕ → Result (ℤ × ℤ) Refusal
    read_call b name = cond (fits (numbers_of means code) script b) (read_variable means b.values (place name)) unfit

    -- A call on a bench, its reply, and the bench then. A refused call leaves it as it was; so do the calls that are no advances.
    pub data Replies : M.Bench Pair → Call → Result Answer Refusal → M.Bench Pair → Type 0 where
      advances : {b c : M.Bench Pair} {t a k o : ℕ} → advance_call (numbers_of means code) script b t a ≡ accepted k o c → Replies b (Advance t a) (Ok (Advanced k o)) c
      advance_refused : {b : M.Bench Pair} {t a : ℕ} {e : Refusal} → advance_call (numbers_of means code) script b t a ≡ refused (R.number_of e.reason) e.line e.field → Replies b (Advance t a) (Err e) b
      reads : {b : M.Bench Pair} {name : Bor (List ℕ)} → Replies b (Reading name) (value_answer (read_call b name.now)) b
      asks : {b : M.Bench Pair} → Replies b NextJoint (Ok (Joint (joint_of b.left))) b
      writes : {b : M.Bench Pair} {room : ℕ} → Replies b (Write room) (size_answer (write_call b room)) b
      hands_over : {b : M.Bench Pair} {room : ℕ} → Replies b (HandOver room) (hand_answer (handed (write_call b room))) b

    -- an accepted reading of a bench on the curve at T answers the curve's value of its name
    abbrev pub ValueTold : ℕ → List ℕ → Result Answer Refusal → Type 0
    ValueTold T name (Ok (Value n d)) = ReadsCurve means code script T (place name) (Ok (n, d))
    ValueTold T name (Ok (Advanced k o)) = Unit {0}
    ValueTold T name (Ok (Joint o)) = Unit {0}
    ValueTold T name (Ok (Written n)) = Unit {0}
    ValueTold T name (Ok HandedOver) = Unit {0}
    ValueTold T name (Err e) = Unit {0}

    abbrev pub ReadTold : Bool → ℕ → Call → Result Answer Refusal → Type 0
    ReadTold true T (Reading name) r = ValueTold T name.now r
    ReadTold false T (Reading name) r = Unit {0}
    ReadTold m T (Advance t a) r = Unit {0}
    ReadTold m T NextJoint r = Unit {0}
    ReadTold m T (Write n) r = Unit {0}
    ReadTold m T (HandOver n) r = Unit {0}

    -- What these calls came to on a new bench: the bench then, the sum of the accepted ticks, and whether an advance was accepted.
    -- Before each call, and so after each, the bench is kept to the sum; and each accepted reading is the curve's.
    pub data After : List Step → M.Bench Pair → (sum : ℕ) → (moved : Bool) → Type 0 where
      none : After [] (new script (first_values code script)) 0 false
      more : {us : List Step} {b c : M.Bench Pair} {sum : ℕ} {moved : Bool} {call : Call} {reply : Result Answer Refusal} → After us b sum moved → KeptAfter b sum moved → Replies b call reply c → ReadTold moved sum call reply →
          After (us ++ (step call reply ∷ [])) c (sum + ticks_in call reply) (moved || is_advanced reply)

    -- The promise of a list of calls and replies that led to a bench.
    pub record Performed (steps : List Step) (b : M.Bench Pair) : Type 0 where
      -- the values with which a bench is built are those that the script declares
      pub held : Each (Meant means) (declared script) (first_values code script)
      pub sum : ℕ
      pub moved : Bool
      pub after : After steps b sum moved
      pub kept : KeptAfter b sum moved
