use Rattle.std.proofs.Common.{◌≡◌, [], drop}
use Rattle.entries.specs.Sorts.{waiting, after_items}
use Rattle.entries.proofs.sorts.take_items.Given as goal

abbrev pub invariant-loop-entry : goal.invariant-loop-entry
invariant-loop-entry l = after_items l.items [] ≡ after_items (drop l.entry-index l.items) (waiting l.pile)
