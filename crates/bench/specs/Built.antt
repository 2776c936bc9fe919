-- A new bench. Assumes nothing.
use Rattle.std.specs.Prelude.{List, map, pos, Some, None, Option}
use Rattle.script.specs.declared.reading.Entry.{Entry}
use Rattle.number.specs.declared.Pair.{Pair}
use Rattle.number.specs.Frac.{Frac}
use Rattle.motion.specs.Lines.{Line}
use Rattle.motion.specs.NextLine.{declared}
use Rattle.entries.specs.declared.rows.Row.{Row}
use Rattle.entries.specs.Decoding.{part, value_of}

-- a pair, where there is one; no checked script lacks one
abbrev pub or_nothing : Option Pair → Pair
or_nothing (Some p) = p
or_nothing None = record { a = pos 0; b = pos 0 }

module _ (code : Frac → Option Pair) where
  -- the kind's pair of a fraction
  abbrev pub held_pair : Frac → Pair
  held_pair q = or_nothing (code q)

  -- the first values of a script: the kind's pairs of those that its var lines declare
  abbrev pub first_values : List Line → List Pair
  first_values ls = map held_pair (declared ls)

  -- the first value of a row of var
  abbrev pub value_in : List Entry → Row → Pair
  value_in es r = held_pair (value_of (part r.from r.to es))
