-- The rates of a stretch and the steps of a flow, as the code takes them. Total on any rows and entries.
use Rattle.std.specs.Prelude.{◌≡◌, ℕ, Bool, List, [], pos, Some, None, Option}
use Rattle.number.specs.Frac.{whole}
use Rattle.number.specs.declared.Pair.{Pair}
use Rattle.motion.specs.Numbers.{Numbers}
use Rattle.motion.specs.Lines.{Part, Rate}
use Rattle.motion.specs.NextLine.{rates}
use Rattle.motion.specs.Flow.{then, of_part, sum}
use Rattle.motion.specs.Flow as F
use Rattle.entries.specs.declared.resolved.Resolved.{Resolved}
use Rattle.entries.specs.Decoding.{parts_in, lines_over}
use Rattle.record.specs.declared.Values.{Values}
use Rattle.stretch.specs.declared.rates.Rates.{Rates}

-- the rate lines that stand first
abbrev pub rates_in : Rates → List Rate
rates_in r = rates (lines_over r.entries r.rows.now)

-- the parts that the entries are which were found; none where there are none
abbrev pub found_parts : Option Resolved → List Part
found_parts (Some r) = parts_in r
found_parts None = []

module _ (N : Numbers Pair) where
  -- a sum and one part more
  abbrev pub with_part : Bool → List Pair → Pair → Part → Option Pair
  with_part first d acc p =
      then (N.literal p.coefficient) (λ c.
      then (of_part N first d p.of) (λ v.
      then (N.mul c v) (λ m. N.add acc m)))

  -- D(k+1) of a variable, by Dk
  abbrev pub rate_value : Bool → List Rate → List Pair → ℕ → Option Pair
  rate_value first rs d x = then (N.literal (whole (pos 0))) (λ z. sum N first d z (F.parts_of x rs))

-- there are so many values, where there are any
abbrev pub Counted : ℕ → Option Values → Type 0
Counted n (Some v) = v.count ≡ n
Counted n None = Unit
