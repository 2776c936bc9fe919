-- The kind of thousandths: a pair is a count and 1, and means count / 1000.
use Rattle.std.specs.Prelude.{ℕ, ◌*◌, ◌/◌, ◌%◌, Bool, false, cond, ◌&&◌, ℤ, pos, negsuc, ◌*ℤ◌, Some, None, Option, ◌==◌, nat_le, unsigned_abs}
use Rattle.number.specs.declared.Pair.{Pair}
use Rattle.number.specs.Frac.{Frac, norm}

-- a is a count within the limit, and b is 1
abbrev pub counts : ℤ → ℤ → Bool
counts a (pos d) = nat_le (unsigned_abs a) 2147483647 && d == 1
counts a (negsuc d) = false

-- the fraction that a pair means
unfoldable pub thousand_of : Pair → Option Frac
thousand_of p = cond (counts p.a p.b) (Some (norm p.a 1000)) None

-- the pair of a count
abbrev pub count_from : ℤ → Pair
count_from a = record { a = a; b = pos 1 }

-- a / d in thousandths: d divides 1000, and the count is within the limit
unfoldable pub counted : ℤ → ℕ → Option Pair
counted a d = cond (1000 % d == 0 && nat_le (unsigned_abs a * (1000 / d)) 2147483647) (Some (count_from (a *ℤ pos (1000 / d)))) None

-- the pair of a fraction
abbrev pub count_of : Frac → Option Pair
count_of q = counted q.num q.den
