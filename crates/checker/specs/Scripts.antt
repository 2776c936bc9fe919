-- What a checked script gives to whoever runs it. Assumes nothing.
use Rattle.std.specs.Prelude.{◌≡◌, ℕ, ◌-◌, ◌≤◌, List, length, take, Option}
use Rattle.std.specs.List.{AllByRecursion}
use Rattle.script.specs.declared.places.Place.{Place}
use Rattle.script.specs.declared.reading.Entry.{Entry}
use Rattle.number.specs.declared.Kind.{Ghosts}
use Rattle.number.specs.declared.Pair.{Pair}
use Rattle.number.specs.Frac.{Frac}
use Rattle.motion.specs.Lines.{Line}
use Rattle.entries.specs.declared.rows.Row.{Row}
use Rattle.entries.specs.Fields.{find}
use Rattle.entries.specs.Decoding.{rows_lines}
use Rattle.checker.specs.declared.scripts.Checked.{Checked}
use Rattle.checker.specs.declared.jumps.Jumps.{Jumps}
use Rattle.checker.specs.Conditions.{declared_names}
use Rattle.checker.specs.Jumps.{Leads}
use Rattle.checker.specs.Laws.{Good, Found}

module _ {X : Type 0} {K : Ghosts X} (s : Checked X K) where
  -- its text
  abbrev pub text_in : List ℕ
  text_in = s.text.now

  -- its entries
  abbrev pub table_in : List Entry
  table_in = s.table.now

  -- the place of each entry among the variables
  abbrev pub places_in : List (Option ℕ)
  places_in = take (length table_in) s.plan.places.of

  -- its rows, one for each line
  abbrev pub rows_in : List Row
  rows_in = take s.plan.rows.count s.plan.rows.rows

  -- its lines
  abbrev pub lines_in : List Line
  lines_in = rows_lines table_in places_in rows_in

  -- where the names of its variables stand
  abbrev pub names_in : List Place
  names_in = declared_names s.plan.past

  -- the place of a name among its variables
  abbrev pub variable_in : List ℕ → Option ℕ
  variable_in name = find text_in names_in 0 name

  -- where a run goes on behind each line
  abbrev pub jumps_in : Jumps
  jumps_in = s.plan.jumps

  -- it passed its check for the kind, and what a run finds in it is there
  pub record Sound (means : Pair → Option Frac) (code : Frac → Option Pair) : Type 0 where
    pub good : Good means code text_in table_in s.plan
    pub found : Found means code text_in table_in s.plan

-- What is prepared in it is laid out as a run goes through it, in whatever kind.
pub record Laid {X : Type 0} {K : Ghosts X} (s : Checked X K) : Type 0 where
  -- each entry has its place among the variables
  pub placed : length (table_in s) ≡ length (places_in s)
  -- at most 256 lines, none of more than 18 entries
  pub few : length (rows_in s) ≤ 256
  pub short : AllByRecursion (λ r. r.to - r.from ≤ 18) (rows_in s)
  -- where a run goes on behind each line
  pub leads : Leads (lines_in s) (jumps_in s)
