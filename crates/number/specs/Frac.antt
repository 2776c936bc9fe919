-- Exact fractions without limit, each with one value.
use Rattle.std.specs.Prelude.{ℕ, zero, suc, ◌*◌, ◌/◌, Bool, T, ℤ, pos, negsuc, ◌+ℤ◌, ◌*ℤ◌, neg_ℤ, int_div, int_le, int_lt, unsigned_abs}
use Rattle.std.proofs.Common.{arith}
use Rattle.number.specs.Gcd.{gcd, steps}
use Rattle.number.specs.Lowest.{reduced_low}
unfoldable pub use Rattle.number.specs.Lowest.{lowest}

-- a fraction: lowest terms, numerator over denominator
pub record Frac : Type 0 where
  pub num : ℤ
  pub den : ℕ
  pub low : T (lowest num den)

-- 0
unfoldable pub naught : Frac
unfolding lowest gcd steps
naught = record { num = pos 0; den = 1; low = tt }

-- the fraction z / d, in lowest terms; 0 where d is 0
unfoldable pub norm : ℤ → ℕ → Frac
norm z zero = naught
norm z (suc d) =
    let g : ℕ = gcd (unsigned_abs z) (suc d) in
    record { num = int_div z (pos g); den = suc d / g; low = reduced_low z (suc d) (omega arith) }

-- the whole number z
unfoldable pub whole : ℤ → Frac
whole z = norm z 1

-- p + q
unfoldable pub add : Frac → Frac → Frac
add p q = norm (p.num *ℤ pos q.den +ℤ q.num *ℤ pos p.den) (p.den * q.den)

-- - p
unfoldable pub neg : Frac → Frac
neg p = norm (neg_ℤ p.num) p.den

-- p - q
unfoldable pub sub : Frac → Frac → Frac
sub p q = add p (neg q)

-- p q
unfoldable pub mul : Frac → Frac → Frac
mul p q = norm (p.num *ℤ q.num) (p.den * q.den)

-- d / z; 0 where z is 0
unfoldable pub flip : ℤ → ℕ → Frac
flip (pos n) d = norm (pos d) n
flip (negsuc n) d = norm (neg_ℤ (pos d)) (suc n)

-- 1 / p; 0 where p is 0
unfoldable pub inverse : Frac → Frac
inverse p = flip p.num p.den

-- p / q; 0 where q is 0
unfoldable pub div : Frac → Frac → Frac
div p q = mul p (inverse q)

-- q n / k
unfoldable pub scale : Frac → ℕ → ℕ → Frac
scale q n k = mul q (norm (pos n) k)

-- p < q
unfoldable pub less : Frac → Frac → Bool
less p q = int_lt (p.num *ℤ pos q.den) (q.num *ℤ pos p.den)

-- p ≤ q
unfoldable pub at_most : Frac → Frac → Bool
at_most p q = int_le (p.num *ℤ pos q.den) (q.num *ℤ pos p.den)

-- the value n ticks on, of a start d0 and its derivatives: r = d4, then for k = 4, 3, 2, 1 r becomes d(k-1) + r n / k
unfoldable pub horner : Frac → Frac → Frac → Frac → Frac → ℕ → Frac
horner d0 d1 d2 d3 d4 n = add d0 (scale (add d1 (scale (add d2 (scale (add d3 (scale d4 n 4)) n 3)) n 2)) n 1)
