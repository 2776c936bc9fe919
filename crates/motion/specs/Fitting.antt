-- Which benches fit a script.
use Rattle.std.specs.Prelude.{◌≡◌, ℕ, suc, Bool, true, false, cond, ◌&&◌, ◌||◌, List, [], ◌∷◌, length, Some, None, Option, ◌==◌, nat_le}
use Rattle.number.specs.declared.Pair.{Pair}
use Rattle.number.specs.Frac.{Frac}
use Rattle.number.specs.Kind.{Holds}
use Rattle.motion.specs.Numbers.{Numbers}
use Rattle.motion.specs.Lines.{Line, var_line, set_line, run_line, rate_line, if_line, else_line, while_line, end_line}
use Rattle.motion.specs.Machine.{Bench, Answer, accepted, refused, new, advance}
use Rattle.motion.specs.NextLine.{line_at, first_line, declared}
use Rattle.motion.specs.Carriers.{Each}
use Rattle.motion.specs.Pairs.{numbers_of, Meant}
use Rattle.motion.specs.Calls.{Call, after_calls}

-- there is an answer
abbrev pub answered : {A : Type 0} → Option A → Bool
answered (Some a) = true
answered None = false

-- every value is a number of the kind
abbrev pub all_numbers : {V : Type 0} → Numbers V → List V → Bool
all_numbers N [] = true
all_numbers N (v ∷ vs) = answered (N.terms v) && all_numbers N vs

-- a run line
abbrev pub is_run : Line → Bool
is_run (run_line e) = true
is_run (var_line x) = false
is_run (set_line x e) = false
is_run (rate_line r) = false
is_run (if_line e) = false
is_run else_line = false
is_run (while_line e) = false
is_run end_line = false

module _ {V : Type 0} (script : List Line) (b : Bench V) where
  -- as when new, whatever the values: on the first line that is not var, or one past the last, with the tick counts 0
  abbrev pub as_new : Bool
  as_new = b.line == first_line 1 script && (b.left == 0 && (b.total == 0 && b.over == 0))

  -- in a stretch: on a run line with at least 1 tick left and none over
  abbrev pub in_stretch : Bool
  in_stretch = is_run (line_at script b.line) && (nat_le 1 b.left && b.over == 0)

  -- at the end: one past the last line with none left and at most the total over
  abbrev pub at_end : Bool
  at_end = b.line == suc (length script) && (b.left == 0 && nat_le b.over b.total)

-- the tick counts are at most 2,147,483,647
abbrev pub counts_small : {V : Type 0} → Bench V → Bool
counts_small b = nat_le b.left 2147483647 && (nat_le b.total 2147483647 && nat_le b.over 2147483647)

-- as many values as variables, all of the kind; small counts; and one of the three places
abbrev pub fits : {V : Type 0} → Numbers V → List Line → Bench V → Bool
fits N script b =
    (length b.values == length (declared script)) && (all_numbers N b.values && (counts_small b && (as_new script b || (in_stretch script b || at_end script b))))

-- an advance as it is called: a bench that does not fit is refused by 18 before anything else
abbrev pub advance_call : {V : Type 0} → Numbers V → List Line → Bench V → (ticks allowance : ℕ) → Answer V
advance_call N script b ticks allowance = cond (fits N script b) (advance N script b ticks allowance) (refused 18 0 0)

-- In a kind: a new bench fits, an accepted advance leaves a bench that fits, and so the bench fits after any calls.
pub record FittingIn (means : Pair → Option Frac) (code : Frac → Option Pair) : Type 0 where
  pub built : (script : List Line) (vs : List Pair) → Each (Meant means) (declared script) vs → fits (numbers_of means code) script (new script vs) ≡ true
  pub stays : (script : List Line) (b c : Bench Pair) (ticks a steps over : ℕ) → fits (numbers_of means code) script b ≡ true →
      advance (numbers_of means code) script b ticks a ≡ accepted steps over c → fits (numbers_of means code) script c ≡ true
  pub always : (script : List Line) (vs : List Pair) → Each (Meant means) (declared script) vs → (cs : List Call) →
      fits (numbers_of means code) script (after_calls (numbers_of means code) script (new script vs) cs) ≡ true
  -- so 18 is never met
  pub never_18 : (script : List Line) (vs : List Pair) → Each (Meant means) (declared script) vs → (cs : List Call) (ticks a : ℕ) →
      let b = after_calls (numbers_of means code) script (new script vs) cs in
      advance_call (numbers_of means code) script b ticks a ≡ advance (numbers_of means code) script b ticks a

-- so in every kind
abbrev pub Fitting : Type 0
Fitting = (means : Pair → Option Frac) (code : Frac → Option Pair) → Holds means code → FittingIn means code
