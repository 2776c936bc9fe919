use Rattle.std.proofs.Common.{◌≡◌, ◌+◌, ◌≤◌, length}
use Rattle.script.specs.Ahead.{entries_left}
use Rattle.script.specs.Reading.{filled}
use Rattle.script.proofs.Table.{put}
use Rattle.script.proofs.reading.entering.write_entries.Given as goal

abbrev pub invariant-loop-i : goal.invariant-loop-i
invariant-loop-i l = record {
  puts : filled l.text l.initial.table ≡ put l.i-iterator.count (entries_left l.i-iterator.iter) l.table;
  fits : l.i-iterator.count + length (entries_left l.i-iterator.iter) ≤ length l.table;
}
