-- The numbers of a script in a kind's numbers, and the values of its variables. Assumes nothing.
use Rattle.std.proofs.Common.{◌≡◌, pos, Some, None, Option, sym, refl, ap}
use Rattle.script.specs.declared.numbers.Number.{Number}
use Rattle.number.specs.declared.Pair.{Pair}
use Rattle.number.specs.Gcd.{gcd, steps}
use Rattle.number.specs.Lowest.{lowest}
use Rattle.number.specs.Frac.{norm, naught}
use Rattle.number.specs.Kind.{held}
use Rattle.motion.specs.Pairs.{kept_of}
use Rattle.entries.specs.Fields.{signed}
use Rattle.entries.specs.Decoding.{frac_of_number}

pub kept_held : (o : Option Pair) → kept_of (held o) ≡ o
kept_held (Some p) = refl
kept_held None = refl

-- a number with no denominator is 0
pub none_below : (n : Number) → n.bottom ≡ 0 → norm (pos 0) 1 ≡ frac_of_number n
unfolding norm naught lowest gcd steps
none_below n h = ap (norm (signed n.minus n.top)) (sym h)
