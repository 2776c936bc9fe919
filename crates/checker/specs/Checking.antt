-- What a check answers: the conditions 8 to 15 in their order.
use Rattle.std.specs.Prelude.{◌≡◌, ℕ, ◌≤◌, Bool, cond, not, ◌||◌, List, map, length, take, Ok, Err, Option, Result, ◌==◌, nat_lt}
use Rattle.script.specs.declared.reading.Entry.{Entry}
use Rattle.script.specs.Places.{places}
use Rattle.script.specs.Checks.{and_then}
use Rattle.number.specs.declared.Pair.{Pair}
use Rattle.number.specs.Frac.{Frac}
use Rattle.checker.specs.declared.refusals.Reason.TheVariants.{OtherTable, Blocks}
use Rattle.checker.specs.Refusals.{Refusal}
use Rattle.checker.specs.declared.lines.Past.{Past}
use Rattle.checker.specs.declared.checking.Plan.{Plan}
use Rattle.refusal.specs.Refusals.{refused}
use Rattle.entries.specs.Fields.{lines}
use Rattle.checker.specs.Conditions.{at_first, innermost, lines_check, declared_names}
use Rattle.entries.specs.Decoding.{place_of, rows_from, rows_lines, line_of}
use Rattle.checker.specs.Chains.{chains_check}
use Rattle.checker.specs.Jumps.{Leads}
use Rattle.entries.specs.Tables.{same_table}

-- 8: the table is shorter than the draft's fields, or the entries for them are not what the reader wrote;
-- or there are more fields or lines than a script can have, which no draft has
abbrev pub other_table : List ℕ → ℕ → List Entry → Bool
other_table text fields table =
    nat_lt (length table) fields || (nat_lt 4608 fields || (not (same_table text (places text) (take fields table)) || nat_lt 256 (length (lines (take fields table)))))

-- 13: a block is still open behind the last line
abbrev pub open_check : Past → Result Unit Refusal
open_check p = cond (p.depth == 0) (Ok tt) (Err (refused Blocks (innermost p).line 0))

module _ (means : Pair → Option Frac) (code : Frac → Option Pair) where
  -- these entries of a text, line by line, then blocks left open, then run by run
  abbrev pub entries_check : List ℕ → List Entry → Result Unit Refusal
  entries_check text es =
      and_then (lines_check means code text at_first (lines es)) (λ p.
      and_then (open_check p) (λ _. chains_check 1 (map (line_of text (declared_names p)) (lines es))))

  -- The answer for a draft of so many fields and a table.
  abbrev pub check_of : List ℕ → ℕ → List Entry → Result Unit Refusal
  check_of text fields table = cond (other_table text fields table) (Err (refused OtherTable 0 0)) (entries_check text (take fields table))

-- the answer without what was prepared
abbrev pub outcome : {A : Type 0} → Result A Refusal → Result Unit Refusal
outcome (Ok a) = Ok tt
outcome (Err e) = Err e

-- What is prepared for these entries: the names are those declared, each entry has its place among them, each line its row.
pub record Planned (text : List ℕ) (es : List Entry) (p : Plan) : Type 0 where
  pub places : take (length es) p.places.of ≡ map (place_of text (declared_names p.past)) es
  pub few : p.rows.count ≤ 256
  pub rows : take p.rows.count p.rows.rows ≡ rows_from text (declared_names p.past) 0 (lines es)

-- And for a run: at most 16 names are declared, no line is left out, and behind each line it is known where a run goes on.
pub record Ready (es : List Entry) (p : Plan) : Type 0 where
  pub few_names : p.past.declared ≤ 16
  pub counted : p.rows.count ≡ length (lines es)
  pub jumps : Leads (rows_lines es (take (length es) p.places.of) (take p.rows.count p.rows.rows)) p.jumps

-- the answer of a check, without the script or the draft
abbrev pub answer_of : {A D : Type 0} → Result A (D × Refusal) → Result Unit Refusal
answer_of (Ok a) = Ok tt
answer_of (Err e) = Err e.1

-- These entries pass, with this known behind the last line.
pub record Passed (means : Pair → Option Frac) (code : Frac → Option Pair) (text : List ℕ) (es : List Entry) (p : Past) : Type 0 where
  pub every_line : lines_check means code text at_first (lines es) ≡ Ok p
  pub closed : open_check p ≡ Ok tt
  pub every_run : chains_check 1 (map (line_of text (declared_names p)) (lines es)) ≡ Ok tt
