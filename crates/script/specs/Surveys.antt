-- What one pass over a text finds. Assumes nothing.
use Rattle.std.specs.Prelude.{◌≡◌, ℕ, ◌+◌, ◌≤◌, cond, List, length, Some, None, Option}
use Rattle.script.specs.declared.checks.Spot.{Spot}
use Rattle.script.specs.declared.checks.Survey.{Survey}
use Rattle.script.specs.Checks.{sooner, feeds, allowed, stray, spot}

-- the first stray byte, where `b` follows what was gone through
abbrev pub noted : Option Spot → ℕ → ℕ → ℕ → Option Spot
noted found b line field = sooner found (cond (allowed b) None (Some (spot (line + 1) (field + 1))))

-- the line feeds are counted, and the first stray byte is found
pub record Surveyed (text : List ℕ) (found : Survey) : Type 0 where
  pub feeds_is : found.feeds ≡ feeds text
  pub stray_is : found.stray ≡ stray 0 0 text
  pub few : found.feeds ≤ length text
