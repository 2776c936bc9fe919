-- What holds of the line of a bench, in the words of its format.
use Rattle.std.specs.Prelude.{◌≡◌, ℕ, suc, ◌+◌, ◌<◌, ◌≤◌, ◌⊎◌, List, ◌∷◌, ◌++◌, length, drop, Some, None, Ok, Err, Option, Result, unsigned_abs}
use Rattle.std.specs.List.{AllByRecursion}
use Rattle.number.specs.declared.Pair.{Pair}
use Rattle.number.specs.Frac.{Frac}
use Rattle.motion.specs.Machine as M
use Rattle.record.specs.declared.Bench.{Bench}
use Rattle.record.specs.Refusals.{Refusal}
use Rattle.record.specs.declared.Reason.TheVariants.{LineForm, ValueNotHeld}
use Rattle.record.specs.Benches.{pairs_of, bench_of}
use Rattle.refusal.specs.Refusals.{refused}
use Rattle.handover.specs.Lines.{text_of, line_of}
use Rattle.handover.specs.Takes.{taken_up}

-- this is a number of the kind
abbrev pub OfKind : (Pair → Option Frac) → Pair → Type 0
OfKind means p = (q : Frac) × (means p ≡ Some q)

-- a bench has a line in the kind: it has at most 16 values, all of them numbers of the kind
pub record Writable (means : Pair → Option Frac) (b : Bench) : Type 0 where
  pub few : b.values.count ≤ 16
  pub numbers : AllByRecursion (OfKind means) (pairs_of b.values)

-- what is written of a bench to a buffer: all of its line at the front of the buffer, or nothing at all
pub record Writes (means : Pair → Option Frac) (b : Bench) (old : List ℕ) (r : Option ℕ) (new : List ℕ) : Type 0 where
  pub whole : Writable means b → length (line_of means (bench_of b)) ≤ length old → (r ≡ Some (length (line_of means (bench_of b)))) × (new ≡ line_of means (bench_of b) ++ drop (length (line_of means (bench_of b))) old)
  pub too_short : Writable means b → length old < length (line_of means (bench_of b)) → (r ≡ None) × (new ≡ old)
  pub no_line : (Writable means b → ⊥) → (r ≡ None) × (new ≡ old)

-- the bounds of the counts, and of how many values there are
pub record Within {V : Type 0} (b : M.Bench V) : Type 0 where
  pub line_least : 1 ≤ b.line
  pub line_most : b.line ≤ 257
  pub left_most : b.left ≤ 2147483647
  pub total_most : b.total ≤ 2147483647
  pub over_most : b.over ≤ 2147483647
  pub few : length b.values ≤ 16

-- no line of a bench within the bounds has more than 411 bytes
abbrev pub ShortLines : (Pair → Option Frac) → Type 0
ShortLines means = (b : M.Bench Pair) → Within b → length (line_of means b) ≤ 411

-- ---- the form
-- the numerator and the denominator of a fraction are within the limit
abbrev pub Small : Frac → Type 0
Small q = (unsigned_abs q.num ≤ 2147483647) × (q.den ≤ 2147483647)

-- a bench whose values are fractions is within all bounds
pub record Plain (w : M.Bench Frac) : Type 0 where
  pub within : Within w
  pub small : AllByRecursion Small w.values

-- these bytes have the form: they are the line of a bench within the bounds
pub record Formed (bytes : List ℕ) : Type 0 where
  pub bench : M.Bench Frac
  pub plain : Plain bench
  pub line : text_of bench ≡ bytes

-- the first of the fractions that the kind does not hold stands at this place, counted from 0
pub data FirstUnheld (code : Frac → Option Pair) : List Frac → ℕ → Type 0 where
  here : {q : Frac} {qs : List Frac} → code q ≡ None → FirstUnheld code (q ∷ qs) 0
  later : {q : Frac} {qs : List Frac} {i : ℕ} {p : Pair} → code q ≡ Some p → FirstUnheld code qs i → FirstUnheld code (q ∷ qs) (suc i)

-- ---- what is taken up
-- no form: refused for the form of the line
abbrev pub no_form : Result (M.Bench Pair) Refusal
no_form = Err (refused LineForm 0 0)

-- a value is not held: refused for that, at no line and at its field, which is 6 for the first value
abbrev pub value_unheld : ℕ → Result (M.Bench Pair) Refusal
value_unheld i = Err (refused ValueNotHeld 0 (6 + i))

-- the answer to bytes is one of three: the line has not the form, a value is not held, a bench
pub record Takes (means : Pair → Option Frac) (code : Frac → Option Pair) (bytes : List ℕ) (r : Result (M.Bench Pair) Refusal) : Type 0 where
  -- refused for the form exactly where the bytes have it not
  pub not_formed : (Formed bytes → ⊥) → r ≡ no_form
  pub no_form_only : r ≡ no_form → Formed bytes → ⊥
  -- refused for a value exactly where the bytes have the form and it is the first that is not held
  pub not_held : (f : Formed bytes) (i : ℕ) → FirstUnheld code f.bench.values i → r ≡ value_unheld i
  pub not_held_only : (i : ℕ) → r ≡ value_unheld i → (f : Formed bytes) × FirstUnheld code f.bench.values i
  -- a bench exactly where the bytes are its line, it is within the bounds and all its values are numbers of the kind
  pub written : (b : M.Bench Pair) → Within b → AllByRecursion (OfKind means) b.values → line_of means b ≡ bytes → r ≡ Ok b
  pub written_only : (b : M.Bench Pair) → r ≡ Ok b → Within b × AllByRecursion (OfKind means) b.values × (line_of means b ≡ bytes)
  -- and nothing else
  pub no_other : (r ≡ no_form) ⊎ (((i : ℕ) × (r ≡ value_unheld i)) ⊎ ((b : M.Bench Pair) × (r ≡ Ok b)))

-- what is written of a bench within the bounds is taken up as that bench, and what is taken up as a bench is what is written of it
pub record RoundTrip (means : Pair → Option Frac) (code : Frac → Option Pair) : Type 0 where
  pub there : (b : M.Bench Pair) → Within b → AllByRecursion (OfKind means) b.values → taken_up means code (line_of means b) ≡ Ok b
  pub back : (bytes : List ℕ) (b : M.Bench Pair) → taken_up means code bytes ≡ Ok b → line_of means b ≡ bytes
