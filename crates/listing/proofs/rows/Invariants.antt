use Rattle.std.proofs.Common.{◌≡◌, ◌++◌, drop, vec_items}
use Rattle.listing.specs.Rows.{entry_lines}
use Rattle.listing.proofs.rows.Given as goal

abbrev pub invariant-loop-entry : goal.invariant-loop-entry
invariant-loop-entry l = entry_lines l.text l.entries ≡ vec_items l.out ++ entry_lines l.text (drop l.entry-index l.entries)
