-- The kind of fractions: a pair is the lowest terms of the fraction that it means.
use Rattle.std.specs.Prelude.{ℕ, Bool, true, false, cond, ◌&&◌, T, ℤ, pos, negsuc, Some, None, Option, nat_le, unsigned_abs}
use Rattle.number.specs.declared.Pair.{Pair}
use Rattle.number.specs.Frac.{Frac, lowest}

-- a / b is in lowest terms, neither beyond the limit
abbrev pub within : ℤ → ℤ → Bool
within a (pos d) = nat_le (unsigned_abs a) 2147483647 && (nat_le d 2147483647 && lowest a d)
within a (negsuc d) = false

-- the last of three tests that hold
last_t : (a b c : Bool) → T (a && (b && c)) → T c
last_t true true c t = t
last_t true false c t = absurd t
last_t false b c t = absurd t

-- such a pair is in lowest terms
pub within_lowest : (a b : ℤ) → T (within a b) → T (lowest a (unsigned_abs b))
within_lowest a (pos d) t = last_t (nat_le (unsigned_abs a) 2147483647) (nat_le d 2147483647) (lowest a d) t
within_lowest a (negsuc d) t = absurd t

-- the fraction a / d, where the test b holds
unfoldable pub made : (a : ℤ) (d : ℕ) (b : Bool) → (T b → T (lowest a d)) → Option Frac
made a d true f = Some (record { num = a; den = d; low = f tt })
made a d false f = None

-- the fraction that a pair means
unfoldable pub frac_of : Pair → Option Frac
frac_of p = made p.a (unsigned_abs p.b) (within p.a p.b) (within_lowest p.a p.b)

-- the pair of two terms
abbrev pub pair_from : ℤ → ℕ → Pair
pair_from a d = record { a = a; b = pos d }

-- the pair of a fraction: its terms, where neither is beyond the limit
unfoldable pub pair_of : Frac → Option Pair
pair_of q = cond (nat_le (unsigned_abs q.num) 2147483647 && nat_le q.den 2147483647) (Some (pair_from q.num q.den)) None
