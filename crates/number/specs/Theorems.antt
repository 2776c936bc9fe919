-- What holds of fractions, and of the answers of any kind of number.
use Rattle.std.specs.Prelude.{◌≡◌, ℕ, ◌+◌, ◌*◌, ◌<◌, ◌≤◌, Bool, true, false, not, ℤ, pos, negsuc, ◌*ℤ◌, Some, Ok, Option, int_le, int_lt, unsigned_abs}
use Rattle.number.specs.declared.Pair.{Pair}
use Rattle.number.specs.Gcd.{gcd}
use Rattle.number.specs.Frac.{Frac, norm, add, neg, sub, mul, div, naught, whole, scale, less, at_most, horner}
use Rattle.number.specs.Ring.{Ring}
use Rattle.number.specs.Kind.{exact2, divided, asked2}

-- equality: of lowest terms, and of cross products
pub record Equality : Type 0 where
  pub den_positive : (q : Frac) → 1 ≤ q.den
  pub coprime : (q : Frac) → gcd (unsigned_abs q.num) q.den ≡ 1
  pub by_terms : (p q : Frac) → p.num ≡ q.num → p.den ≡ q.den → p ≡ q
  pub own_terms : (q : Frac) → norm q.num q.den ≡ q
  pub by_cross : (a : ℤ) (b : ℕ) (c : ℤ) (d : ℕ) → 0 < b → 0 < d → a *ℤ pos d ≡ c *ℤ pos b → norm a b ≡ norm c d
  pub to_cross : (a : ℤ) (b : ℕ) (c : ℤ) (d : ℕ) → 0 < b → 0 < d → norm a b ≡ norm c d → a *ℤ pos d ≡ c *ℤ pos b

-- fractions are a commutative ring
pub record CommutativeRing : Type 0 where
  pub ring : Ring naught (whole (pos 1)) add mul
  pub negated : (p : Frac) → add p (neg p) ≡ naught
  pub subtracted : (p q : Frac) → add (sub p q) q ≡ p

-- scaling is multiplying by n / k, and distributes
pub record Scaling : Type 0 where
  pub product : (a : Frac) (n k : ℕ) → scale a n k ≡ mul a (norm (pos n) k)
  pub over_sum : (a b : Frac) (n k : ℕ) → scale (add a b) n k ≡ add (scale a n k) (scale b n k)
  pub over_parts : (a : Frac) (n m k : ℕ) → 1 ≤ k → scale a (n + m) k ≡ add (scale a n k) (scale a m k)
  pub over_product : (c a : Frac) (n k : ℕ) → scale (mul c a) n k ≡ mul c (scale a n k)

-- dividing by what is not 0 undoes multiplying, and the other way round
pub record Division : Type 0 where
  pub multiplied : (x y : Frac) → ¬ (y.num ≡ pos 0) → mul (div x y) y ≡ x
  pub divided_back : (x y : Frac) → ¬ (y.num ≡ pos 0) → div (mul x y) y ≡ x

-- the order is total, and p is less than q where p - q is below 0
pub record Order : Type 0 where
  pub never_self : (p : Frac) → less p p ≡ false
  pub chains : (p q r : Frac) → less p q ≡ true → less q r ≡ true → less p r ≡ true
  pub total : (p q : Frac) → less p q ≡ false → less q p ≡ false → p ≡ q
  pub at_most_when : (p q : Frac) → at_most p q ≡ not (less q p)
  pub less_by_difference : (p q : Frac) → less p q ≡ int_lt (sub p q).num (pos 0)
  pub at_most_by_difference : (p q : Frac) → at_most p q ≡ int_le (sub p q).num (pos 0)

-- to go n ticks and then m, with the derivatives moved along, is to go n + m ticks
abbrev pub Flow : Type 0
Flow = (d0 d1 d2 d3 d4 : Frac) (n m : ℕ) → horner (horner d0 d1 d2 d3 d4 n) (horner d1 d2 d3 d4 naught n) (horner d2 d3 d4 naught naught n) (horner d3 d4 naught naught naught n) d4 m ≡ horner d0 d1 d2 d3 d4 (n + m)

-- the Horner form is the polynomial: d0 + d1 n + d2 n² / 2 + d3 n³ / 6 + d4 n⁴ / 24
abbrev pub Polynomial : Type 0
Polynomial = (d0 d1 d2 d3 d4 : Frac) (n : ℕ) → horner d0 d1 d2 d3 d4 n ≡ add (add (add (add d0 (scale d1 n 1)) (scale d2 (n * n) 2)) (scale d3 (n * n * n) 6)) (scale d4 (n * n * n * n) 24)

-- worked examples, some with numbers of 62 bits
pub record Examples : Type 0 where
  pub sum : add (norm (pos 1) 2) (norm (pos 1) 3) ≡ norm (pos 5) 6
  pub lowest_num : (norm (negsuc 3) 6).num ≡ negsuc 1
  pub lowest_den : (norm (negsuc 3) 6).den ≡ 3
  pub difference : sub (norm (pos 1) 3) (norm (pos 1) 2) ≡ norm (negsuc 0) 6
  pub quotient : div (norm (pos 1) 2) (norm (negsuc 2) 4) ≡ norm (negsuc 1) 3
  pub scaled : scale (norm (pos 2) 3) 9 4 ≡ norm (pos 3) 2
  pub two_ticks : horner (whole (pos 1)) (whole (pos 1)) (whole (pos 1)) (whole (pos 1)) (whole (pos 1)) 2 ≡ whole (pos 7)
  pub long_product : mul (norm (pos 4611686018427387903) 4611686018427387904) (norm (pos 4611686018427387904) 4611686018427387901) ≡ norm (pos 4611686018427387903) 4611686018427387901
  pub long_sum : add (norm (pos 4611686018427387903) 4611686018427387904) (norm (pos 1) 4611686018427387904) ≡ whole (pos 1)
  pub long_order : less (norm (pos 4611686018427387902) 4611686018427387903) (norm (pos 4611686018427387903) 4611686018427387904) ≡ true

-- the answers of any kind, by the pairs that it means and codes
pub record Answers (means : Pair → Option Frac) (code : Frac → Option Pair) : Type 0 where
  pub one_pair : (p q : Pair) (x : Frac) → means p ≡ Some x → means q ≡ Some x → p ≡ q
  pub sums_swap : (p q : Pair) → exact2 means code add p q ≡ exact2 means code add q p
  pub products_swap : (p q : Pair) → exact2 means code mul p q ≡ exact2 means code mul q p
  pub difference_back : (p q s : Pair) → exact2 means code sub p q ≡ Ok s → exact2 means code add s q ≡ Ok p
  pub quotient_back : (p q s : Pair) → divided means code p q ≡ Ok s → exact2 means code mul s q ≡ Ok p
  pub order_total : (p q : Pair) (b : Bool) → asked2 means less p q ≡ Ok b → asked2 means at_most q p ≡ Ok (not b)
