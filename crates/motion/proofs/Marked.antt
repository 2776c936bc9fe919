-- The marked runs, by computation.
use Rattle.std.proofs.Common.{refl}
use Rattle.number.specs.Gcd.{gcd, steps}
use Rattle.number.specs.Lowest.{lowest}
use Rattle.number.specs.Frac.{naught, norm, whole, add, neg, sub, mul, flip, inverse, div, scale, less, at_most}
use Rattle.kinds.specs.Fractions.{made, frac_of, pair_of}
use Rattle.kinds.specs.Thousandths.{thousand_of, counted}
use Rattle.motion.specs.Marked.{MarkedRuns}

pub marked : MarkedRuns
unfolding gcd steps lowest naught norm whole add neg sub mul flip inverse div scale less at_most made frac_of pair_of thousand_of counted
marked = record {
  one = refl;
  two = refl;
  three = refl;
  four = (refl, refl);
  five = (refl, refl);
  six = refl;
  seven = refl;
  eight = (refl, refl);
}
