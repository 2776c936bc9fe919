-- The kind of small whole numbers: n from -1000 to 1000 is the pair 7, 3 - n.
use Rattle.std.specs.Prelude.{Bool, false, cond, ◌&&◌, ℤ, pos, negsuc, ◌-ℤ◌, Some, None, Option, ◌==◌, nat_le, unsigned_abs}
use Rattle.number.specs.declared.Pair.{Pair}
use Rattle.number.specs.Frac.{Frac, whole}

-- the mark that the first of the pair is
abbrev pub marked : ℤ → Bool
marked (pos n) = n == 7
marked (negsuc n) = false

-- the pair of a small whole number
abbrev pub is_small : Pair → Bool
is_small p = marked p.a && nat_le (unsigned_abs (pos 3 -ℤ p.b)) 1000

-- the fraction that a pair means
unfoldable pub small_of : Pair → Option Frac
small_of p = cond (is_small p) (Some (whole (pos 3 -ℤ p.b))) None

-- the pair of a fraction
unfoldable pub small_pair : Frac → Option Pair
small_pair q = cond (q.den == 1 && nat_le (unsigned_abs q.num) 1000) (Some (record { a = pos 7; b = pos 3 -ℤ q.num })) None
