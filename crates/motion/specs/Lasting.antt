-- Refusals that last.
use Rattle.std.specs.Prelude.{◌≡◌, ℕ, ◌+◌, ◌≤◌, List}
use Rattle.motion.specs.Numbers.{Numbers}
use Rattle.motion.specs.Lines.{Line}
use Rattle.motion.specs.Machine.{Bench, refused, advance}

-- Refusals that last, over any numbers.
pub record RefusalsLast (V : Type 0) : Type 0 where
  -- 21, 22 or 23: for no fewer ticks within the limit and no fewer steps
  pub faults : (N : Numbers V) (all : List Line) (b : Bench V) (ticks ticks' a a' k l f : ℕ) →
      21 ≤ k → k ≤ 23 → ticks ≤ ticks' → a ≤ a' → b.total + ticks' ≤ 2147483647 →
      advance N all b ticks a ≡ refused k l f → advance N all b ticks' a' ≡ refused k l f
  -- 20: for no fewer ticks within the limit and as many steps
  pub allowance : (N : Numbers V) (all : List Line) (b : Bench V) (ticks ticks' a l f : ℕ) →
      ticks ≤ ticks' → b.total + ticks' ≤ 2147483647 →
      advance N all b ticks a ≡ refused 20 l f → advance N all b ticks' a ≡ refused 20 l f
