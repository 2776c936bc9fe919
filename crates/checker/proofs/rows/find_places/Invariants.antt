use Rattle.std.proofs.Common.{◌≡◌, ◌≤◌, map, length, take}
use Rattle.entries.specs.Decoding.{place_of}
use Rattle.checker.proofs.rows.find_places.Given as goal

abbrev pub invariant-loop-i : goal.invariant-loop-i
invariant-loop-i l = (4608 ≤ length l.of) × (take l.i l.of ≡ map (place_of l.names.text.now l.names.places.now) (take l.i l.table))
