-- The operations on numbers that a run uses, over any carrier V: what one definition of a run is written over.
-- None says "not held".
use Rattle.std.specs.Prelude.{ℕ, Bool, cond, Some, Option}
use Rattle.number.specs.Frac.{Frac}
use Rattle.number.specs.Kind.{is_naught}
use Rattle.number.specs.Frac as F

-- what a division answers
pub data Divided (V : Type 0) : Type 0 where
  quot : V → Divided V
  by_zero : Divided V
  not_held : Divided V

-- the number that a fraction of the script is, four operations, a number times n over k, two comparisons, and the fraction that a number is
pub record Numbers (V : Type 0) : Type 0 where
  pub literal : Frac → Option V
  pub add : V → V → Option V
  pub sub : V → V → Option V
  pub mul : V → V → Option V
  pub div : V → V → Divided V
  pub scale : V → ℕ → ℕ → Option V
  pub lt : V → V → Option Bool
  pub le : V → V → Option Bool
  pub terms : V → Option Frac

-- a quotient of fractions
abbrev pub divide : Frac → Frac → Divided Frac
divide a b = cond (is_naught b) by_zero (quot (F.div a b))

-- unlimited fractions: everything is held
abbrev pub exact : Numbers Frac
exact = record {
  literal = Some;
  add = λ a b. Some (F.add a b);
  sub = λ a b. Some (F.sub a b);
  mul = λ a b. Some (F.mul a b);
  div = divide;
  scale = λ a n k. Some (F.scale a n k);
  lt = λ a b. Some (F.less a b);
  le = λ a b. Some (F.at_most a b);
  terms = Some;
}
