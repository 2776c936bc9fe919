-- The entries of a table that is not another are few, on few lines. Assumes nothing.
use Rattle.std.proofs.Common.{◌≡◌, ℕ, ◌≤◌, min, false, not, ltb, List, length, take, arith}
use Rattle.std.proofs.lemmas.List.{length-take}
use Rattle.std.proofs.lemmas.Bool.{or_parts, ltb-false}
use Rattle.script.specs.declared.reading.Entry.{Entry}
use Rattle.script.specs.Places.{places}
use Rattle.entries.specs.Fields.{lines}
use Rattle.entries.specs.Tables.{same_table}
use Rattle.checker.specs.Checking.{other_table}

pub own_sized : (text : List ℕ) (fields : ℕ) (table : List Entry) → other_table text fields table ≡ false → (length (take fields table) ≤ 4608) × (length (lines (take fields table)) ≤ 256)
own_sized text fields table h =
    let a = or_parts (ltb (length table) fields) _ h in
    let b = or_parts (ltb 4608 fields) _ a.1 in
    let c = or_parts (not (same_table text (places text) (take fields table))) _ b.1 in
    let few = ltb-false 4608 fields b.0 in
    let n : length (take fields table) ≡ min fields (length table) = length-take fields table in
    (omega arith, ltb-false 256 (length (lines (take fields table))) c.1)
