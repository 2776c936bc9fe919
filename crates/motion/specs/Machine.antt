-- One advance over the lines, over any numbers.
use Rattle.std.specs.Prelude.{ℕ, zero, suc, ◌+◌, ◌-◌, Bool, true, false, cond, List, length, drop, ℤ, pos, negsuc, Some, None, Option, ◌==◌, nat_lt, slice_set}
use Rattle.motion.specs.Numbers.{Numbers}
use Rattle.number.specs.Frac.{Frac}
use Rattle.motion.specs.Lines.{Line, var_line, set_line, run_line, rate_line, if_line, else_line, while_line, end_line, Rate}
use Rattle.motion.specs.Items.{Got, good, bad, number_of, truth_of}
use Rattle.motion.specs.Flow.{flow}
use Rattle.motion.specs.NextLine.{line_at, rates, next_from, past, first_line}

-- the ticks that a numerator counts, if the denominator is 1
abbrev pub ticks_of : ℤ → Bool → Option ℕ
ticks_of (pos n) true = Some n
ticks_of (pos n) false = None
ticks_of (negsuc n) b = None

-- the ticks that a fraction counts: none if it is negative or not whole
abbrev pub whole_ticks : Option Frac → Option ℕ
whole_ticks None = None
whole_ticks (Some q) = ticks_of q.num (q.den == 1)

-- where a run stands between two steps: at a statement, inside a stretch with ticks left, at the end
pub data Place : Type 0 where
  at : (line : ℕ) → Place
  inside : (line left : ℕ) → Place
  ended : Place

-- a bench: its line and the ticks left in its stretch, the total of accepted ticks, the ticks over, and the values
pub record Bench (V : Type 0) : Type 0 where
  pub line : ℕ
  pub left : ℕ
  pub total : ℕ
  pub over : ℕ
  pub values : List V

-- what an advance answers: the steps made and the ticks over, with the bench after it; or a refusal
pub data Answer (V : Type 0) : Type 0 where
  accepted : (steps over : ℕ) → Bench V → Answer V
  refused : (number line field : ℕ) → Answer V

-- what a step comes to: it goes on at a line with ticks to go, stops in the stretch on a line with ticks left, or fails
pub data Stepped (V : Type 0) : Type 0 where
  go : (line : ℕ) → List V → (ticks : ℕ) → Stepped V
  stop : (line left : ℕ) → List V → Stepped V
  fail : (number line field : ℕ) → Stepped V

-- a new bench with the values vs: on the first line that is not var, with the tick counts 0
abbrev pub new : {V : Type 0} → List Line → List V → Bench V
new ls vs = record { line = first_line 1 ls; left = 0; total = 0; over = 0; values = vs }

-- the place at line n
abbrev pub place_at : List Line → ℕ → Place
place_at all n = cond (nat_lt (length all) n) ended (at n)

-- the place of a bench: inside of its stretch, or at the next statement
abbrev pub place_of : {V : Type 0} → List Line → Bench V → Place
place_of all b = cond (nat_lt 0 b.left) (inside b.line b.left) (place_at all (next_from all b.line))

-- what a stretch on line n comes to that is cut with so many ticks left, by its values; 24 where they are not held
abbrev pub cut : {V : Type 0} → (n left : ℕ) → Option (List V) → Stepped V
cut n left (Some e) = stop n left e
cut n left None = fail 24 n 0

-- what a stretch comes to that is run to its end, with t ticks to go then; 23 where its values are not held
abbrev pub whole_run : {V : Type 0} → List Line → (n t : ℕ) → Option (List V) → Stepped V
whole_run all n t (Some e) = go (next_from all (suc n)) e t
whole_run all n t None = fail 23 n 0

-- what a set line comes to, by the number that is assigned to x
abbrev pub assigned : {V : Type 0} → List Line → List V → (t n x : ℕ) → Got V → Stepped V
assigned all env t n x (good q) = go (next_from all (suc n)) (slice_set env x q) t
assigned all env t n x (bad k f) = fail k n f

-- what an if or while line comes to, by its truth
abbrev pub chosen : {V : Type 0} → List Line → List V → (t n : ℕ) → Got Bool → Stepped V
chosen all env t n (bad k f) = fail k n f
chosen all env t n (good true) = go (next_from all (suc n)) env t
chosen all env t n (good false) = go (past all n) env t

module _ {V : Type 0} (N : Numbers V) where
  -- a stretch of d ticks on line n at the rates rs, with t to go; cut if t is less than d
  abbrev pub lapse : List Line → List Rate → List V → (t n d : ℕ) → (less : Bool) → Stepped V
  lapse all rs env t n d true = cut n (d - t) (flow N rs env t)
  lapse all rs env t n d false = whole_run all n (t - d) (flow N rs env d)

  -- the same at the rate lines behind line n
  abbrev pub stretch : List Line → List V → (t n d : ℕ) → Stepped V
  stretch all env t n d = lapse all (rates (drop n all)) env t n d (nat_lt t d)

  -- a run line by its duration, if that is a number of ticks
  abbrev pub timed : List Line → List V → (t n : ℕ) → Option ℕ → Stepped V
  timed all env t n None = fail 22 n 0
  timed all env t n (Some d) = stretch all env t n d

  -- a run line by the number that its items come to
  abbrev pub started : List Line → List V → (t n : ℕ) → Got V → Stepped V
  started all env t n (bad k f) = fail k n f
  started all env t n (good q) = timed all env t n (whole_ticks (N.terms q))

  -- the statement on line n, with t ticks to go; the other lines are none
  abbrev pub step : List Line → List V → (t n : ℕ) → Line → Stepped V
  step all env t n (set_line x is) = assigned all env t n x (number_of N env 3 is)
  step all env t n (run_line is) = started all env t n (number_of N env 2 is)
  step all env t n (if_line is) = chosen all env t n (truth_of N env 2 is)
  step all env t n (while_line is) = chosen all env t n (truth_of N env 2 is)
  step all env t n (var_line x) = fail 0 0 0
  step all env t n (rate_line x) = fail 0 0 0
  step all env t n else_line = fail 0 0 0
  step all env t n end_line = fail 0 0 0

-- the answer where no statement is left: the ticks to go are over
abbrev pub over_at_end : {V : Type 0} → List Line → (total steps : ℕ) → List V → (t : ℕ) → Answer V
over_at_end all total steps env t = accepted steps t (record { line = suc (length all); left = 0; total = total; over = t; values = env })

-- the answer after one more step, where `on` goes on with a run
abbrev pub after : {V : Type 0} → (on : ℕ → List V → ℕ → Place → Answer V) → List Line → (steps total : ℕ) → Stepped V → Answer V
after on all steps total (go n e t) = on (suc steps) e t (place_at all n)
after on all steps total (stop n d e) = accepted (suc steps) 0 (record { line = n; left = d; total = total; over = 0; values = e })
after on all steps total (fail i n f) = refused i n f

module _ {V : Type 0} (N : Numbers V) where
  -- a run with t ticks to go from a place on, after so many steps, with so many more allowed
  abbrev pub loop : List Line → (total allowance steps : ℕ) → List V → (t : ℕ) → Place → Answer V
  loop all total zero steps env t ended = over_at_end all total steps env t
  loop all total (suc a) steps env t ended = over_at_end all total steps env t
  loop all total zero steps env t (at n) = refused 20 n 0
  loop all total zero steps env t (inside n d) = refused 20 n 0
  loop all total (suc a) steps env t (at n) = after (loop all total a) all steps total (step N all env t n (line_at all n))
  loop all total (suc a) steps env t (inside n d) = after (loop all total a) all steps total (stretch N all env t n d)

  -- an advance by ticks; refused by 19 if the total would be too much
  abbrev pub advanced : List Line → Bench V → (ticks allowance : ℕ) → (much : Bool) → Answer V
  advanced all b ticks allowance true = refused 19 0 0
  advanced all b ticks allowance false = loop all (b.total + ticks) allowance 0 b.values (b.over + ticks) (place_of all b)

  -- an advance of a bench
  abbrev pub advance : List Line → Bench V → (ticks allowance : ℕ) → Answer V
  advance all b ticks allowance = advanced all b ticks allowance (nat_lt 2147483647 (b.total + ticks))
