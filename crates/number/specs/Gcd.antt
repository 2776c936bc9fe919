-- The greatest common divisor, by Euclid's rule.
use Rattle.std.specs.Prelude.{ℕ, zero, suc, ◌%◌}

-- Euclid's rule, at most as many times as the first number says
unfoldable pub steps : ℕ → ℕ → ℕ → ℕ
steps zero a b = a
steps (suc k) a zero = a
steps (suc k) a (suc b) = steps k (suc b) (a % suc b)

-- the greatest common divisor: b falls with each use of the rule, so suc b uses are enough
unfoldable pub gcd : ℕ → ℕ → ℕ
gcd a b = steps (suc b) a b
