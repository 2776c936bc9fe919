-- A kind's pairs as the numbers of a run.
use Rattle.std.specs.Prelude.{◌≡◌, Some, None, Ok, Err, Option, Result}
use Rattle.number.specs.declared.Pair.{Pair}
use Rattle.number.specs.declared.Fault.{Fault}
use Rattle.number.specs.declared.Fault.TheVariants.{NotHeld, ZeroDivisor}
use Rattle.number.specs.Frac.{Frac, less, at_most}
use Rattle.number.specs.Frac as F
use Rattle.number.specs.Kind.{exact2, divided, scaled, asked2}
use Rattle.motion.specs.Numbers.{Numbers, Divided, quot, by_zero, not_held}

-- a kind's answer, where a fault says "not held"
abbrev pub kept_of : {A : Type 0} → Result A Fault → Option A
kept_of (Ok a) = Some a
kept_of (Err e) = None

-- the same of a quotient, where a zero divisor is told apart
abbrev pub quot_of : {A : Type 0} → Result A Fault → Divided A
quot_of (Ok a) = quot a
quot_of (Err NotHeld) = not_held
quot_of (Err ZeroDivisor) = by_zero

module _ (means : Pair → Option Frac) (code : Frac → Option Pair) where
  -- the pairs of the kind that `means` and `code` are: every operation is exact or not held
  abbrev pub numbers_of : Numbers Pair
  numbers_of = record {
    literal = code;
    add = λ p q. kept_of (exact2 means code F.add p q);
    sub = λ p q. kept_of (exact2 means code F.sub p q);
    mul = λ p q. kept_of (exact2 means code F.mul p q);
    div = λ p q. quot_of (divided means code p q);
    scale = λ p n k. kept_of (scaled means code p n k);
    lt = λ p q. kept_of (asked2 means less p q);
    le = λ p q. kept_of (asked2 means at_most p q);
    terms = means;
  }

-- the pair stands for the fraction
abbrev pub Meant : (Pair → Option Frac) → Frac → Pair → Type 0
Meant means x p = means p ≡ Some x
