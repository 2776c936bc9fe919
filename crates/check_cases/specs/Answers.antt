-- The answers for the three kinds. Assumes nothing.
use Rattle.std.specs.Prelude.{ℕ, List, replicate, Option, Result}
use Rattle.number.specs.declared.Pair.{Pair}
use Rattle.number.specs.Frac.{Frac}
use Rattle.kinds.specs.Fractions.{frac_of, pair_of}
use Rattle.kinds.specs.Thousandths.{thousand_of, count_of}
use Rattle.kinds.specs.Small.{small_of, small_pair}
use Rattle.check_listing.specs.declared.answers.Size.{Size}
use Rattle.checker.specs.declared.refused.Refused.{Refused}
use Rattle.check_listing.specs.Answers.{answer_to}
use Rattle.check_listing.specs.Printed.{blank}

-- the answer for a kind, with room for 256 fields
abbrev pub with_room : (Pair → Option Frac) → (Frac → Option Pair) → List ℕ → Result Size Refused
with_room means code text = answer_to means code text (replicate 256 blank)

-- the answers for fractions, thousandths and small whole numbers
abbrev pub answers : List ℕ → Result Size Refused × Result Size Refused × Result Size Refused
answers text = (with_room frac_of pair_of text, with_room thousand_of count_of text, with_room small_of small_pair text)
