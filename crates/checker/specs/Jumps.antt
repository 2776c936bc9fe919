-- Where a run goes on behind each line, found once. Assumes nothing.
use Rattle.std.specs.Prelude.{◌≡◌, ℕ, ◌≤◌, List, length, slice_index_or}
use Rattle.motion.specs.Lines.{Line}
use Rattle.motion.specs.NextLine.{onward}
use Rattle.checker.specs.declared.jumps.Jump.{Jump}
use Rattle.checker.specs.declared.jumps.Jumps.{Jumps}

-- where a run goes on behind line n
abbrev pub jump_at : Jumps → ℕ → Jump
jump_at j n = slice_index_or j.behind n (record { next = 0; past = 0 })

-- Behind line n a run goes on at the line `next` n, or, where the body that begins there is passed over, at the line `past` n.
pub record Leads (all : List Line) (j : Jumps) : Type 0 where
  pub next : (n : ℕ) → n ≤ length all → (jump_at j n).next ≡ onward 0 all n
  pub past : (n : ℕ) → n ≤ length all → (jump_at j n).past ≡ onward 1 all n
