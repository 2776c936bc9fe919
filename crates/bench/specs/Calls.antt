-- What each call answers, and what bench and buffer hold then. Assumes nothing.
use Rattle.std.specs.Prelude.{◌≡◌, ℕ, Bool, true, false, cond, ◌&&◌, ◌||◌, List, length, ℤ, pos, Some, None, Ok, Err, Option, Result, ◌==◌, nat_le, nat_lt}
use Rattle.script.specs.declared.words.LineWord.{LineWord}
use Rattle.script.specs.declared.words.LineWord.TheVariants as w
use Rattle.number.specs.declared.Pair.{Pair}
use Rattle.number.specs.Frac.{Frac}
use Rattle.motion.specs.Numbers.{Numbers}
use Rattle.motion.specs.Lines.{Line}
use Rattle.motion.specs.Items.{nth}
use Rattle.motion.specs.NextLine.{declared}
use Rattle.motion.specs.Machine as M
use Rattle.motion.specs.Fitting as F
use Rattle.record.specs.declared.Bench.{Bench}
use Rattle.record.specs.Refusals.{Refusal, number_of}
use Rattle.record.specs.declared.Reason.TheVariants.{NotFitting, NameNotDeclared, BufferTooShort}
use Rattle.refusal.specs.Refusals.{refused}
use Rattle.record.specs.Benches.{pairs_of, bench_of}

-- the word run
abbrev pub run_by : LineWord → Bool
run_by w.Var = false
run_by w.Set = false
run_by w.Run = true
run_by w.Rate = false
run_by w.If = false
run_by w.Else = false
run_by w.While = false
run_by w.End = false

-- as many values as variables, for which its record has room, all of the kind
abbrev pub valued : Numbers Pair → List Line → Bench → Bool
valued N script b = nat_le b.values.count 16 && (length (pairs_of b.values) == length (declared script) && F.all_numbers N (pairs_of b.values))

-- in one of the three places
abbrev pub placed : List Line → M.Bench Pair → Bool
placed script b = F.as_new script b || (F.in_stretch script b || F.at_end script b)

-- a bench fits a script; its record has room for 16 values
abbrev pub fitting : Numbers Pair → List Line → Bench → Bool
fitting N script b = nat_le b.values.count 16 && F.fits N script (bench_of b)

-- an answer of advance with the bench after it, as the rules of a run have it
abbrev pub told : Result (ℕ × ℕ) Refusal → Bench → M.Answer Pair
told (Ok p) b = M.accepted p.0 p.1 (bench_of b)
told (Err e) b = M.refused (number_of e.reason) e.line e.field

-- advance: refused by 18 where the bench does not fit, else as the machine answers
abbrev pub advanced : Numbers Pair → List Line → Bench → (ticks allowance : ℕ) → M.Answer Pair
advanced N script b ticks allowance = cond (fitting N script b) (M.advance N script (bench_of b) ticks allowance) (M.refused 18 0 0)

-- a refused advance leaves the bench as it was
abbrev pub kept_if_refused : Result (ℕ × ℕ) Refusal → Bench → Bench → Type 0
kept_if_refused (Ok p) before after = Unit {0}
kept_if_refused (Err e) before after = after ≡ before

-- what a call answers to a bench that does not fit
abbrev pub unfit : {A : Type 0} → Result A Refusal
unfit = Err (refused NotFitting 0 0)

-- a value in lowest terms
abbrev pub value_in_terms : Option Frac → Result (ℤ × ℤ) Refusal
value_in_terms (Some q) = Ok (q.num, pos q.den)
value_in_terms None = unfit

module _ (means : Pair → Option Frac) (values : List Pair) where
  -- the value at a place; refused by 25 where there is none
  abbrev pub read_value : Option Pair → Result (ℤ × ℤ) Refusal
  read_value (Some v) = value_in_terms (means v)
  read_value None = Err (refused NameNotDeclared 0 0)

  -- the value of a variable; refused by 25 where the name is not declared
  abbrev pub read_variable : Option ℕ → Result (ℤ × ℤ) Refusal
  read_variable (Some x) = read_value (nth values x)
  read_variable None = Err (refused NameNotDeclared 0 0)

-- the ticks left in the stretch, or none
abbrev pub joint_of : ℕ → Option ℕ
joint_of left = cond (nat_lt 0 left) (Some left) None

-- write: the length of the line, if the buffer is as long
abbrev pub written : (line buffer : List ℕ) → Result ℕ Refusal
written line buffer = cond (nat_le (length line) (length buffer)) (Ok (length line)) (Err (refused BufferTooShort 0 0))

-- take-up: a bench that fits
abbrev pub settled : Numbers Pair → List Line → Result (M.Bench Pair) Refusal → Result (M.Bench Pair) Refusal
settled N script (Ok b) = cond (F.fits N script b) (Ok b) unfit
settled N script (Err e) = Err e
