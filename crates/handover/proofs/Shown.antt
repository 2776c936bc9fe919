-- The examples, by computing.
use Rattle.std.proofs.Common.{refl}
use Rattle.std.specs.Fmt.{digits}
use Rattle.number.specs.Gcd.{gcd, steps}
use Rattle.number.specs.Frac.{lowest, naught, norm}
use Rattle.handover.specs.Examples.{Examples}

pub examples : Examples
unfolding digits norm naught lowest gcd steps
examples = record { inside = refl; ended = refl; no_values = refl }
