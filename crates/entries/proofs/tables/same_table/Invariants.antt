use Rattle.std.proofs.Common.{◌≡◌, drop}
use Rattle.script.specs.Places.{places, left}
use Rattle.entries.specs.Tables.{same_table}
use Rattle.entries.proofs.tables.same_table.Given as goal

abbrev pub invariant-loop-entry : goal.invariant-loop-entry
invariant-loop-entry l = record {
  same_text : l.cursor.text.now ≡ l.text;
  same_rest : same_table l.text (places l.text) l.table ≡ same_table l.text (left l.text l.cursor.line l.cursor.field l.cursor.at) (drop l.entry-index l.table);
}
