-- Which drafts are accepted, and with what the others are refused, in the words of the format: each condition of a line and the lines
-- above it. Total on any entries.
use Rattle.std.specs.Prelude.{◌≡◌, ℕ, ◌+◌, ◌<◌, ◌≤◌, Bool, true, false, cond, not, ◌&&◌, ◌||◌, ◌↔◌, List, [], ◌∷◌, ◌++◌, map, length, take, drop, Ok, Err, Option, Result, ◌≢◌, nat_le}
use Rattle.std.specs.Str.{bytes_eq}
use Rattle.std.specs.List.{list_all}
use Rattle.script.specs.declared.words.LineWord.{LineWord}
use Rattle.script.specs.declared.words.LineWord.TheVariants as w
use Rattle.script.specs.declared.places.Place.{Place}
use Rattle.script.specs.declared.reading.Entry.{Entry}
use Rattle.script.specs.Places.{bytes_at}
use Rattle.script.specs.Reading.{entries}
use Rattle.script.specs.Lines.{Row, rows, Cell, row_cells}
use Rattle.script.specs.Checks.{unended}
use Rattle.script.specs.Laws.{cell_of}
use Rattle.number.specs.declared.Pair.{Pair}
use Rattle.number.specs.Frac.{Frac}
use Rattle.motion.specs.NextLine.{rates}
use Rattle.motion.specs.NameChains.{BreaksRule}
use Rattle.entries.specs.Fields.{lines, head_of, second_place, first_word, is_name, not_held}
use Rattle.entries.specs.Decoding.{names_of, line_of}
use Rattle.checker.specs.declared.refusals.Reason.TheVariants.{OtherTable, VarOutOfPlace, NameNotDeclared, NumberNotHeld, RateOutOfPlace, Blocks, Items, Chains}
use Rattle.checker.specs.Refusals.{Refusal}
use Rattle.checker.specs.declared.lines.Block.{Block}
use Rattle.refusal.specs.Refusals.{refused}
use Rattle.checker.specs.Conditions.{block, items_wrong}
use Rattle.checker.specs.Chains.{is_empty, is_run, is_rate}

-- a line ----------------------------------------------------------------------

-- its word
abbrev pub word_on : List Entry → LineWord
word_on line = first_word (head_of line).token

-- its number
abbrev pub number_on : List Entry → ℕ
number_on line = (head_of line).place.line

-- the bytes of its second field, which is the name on a line of var, set or rate
abbrev pub name_on : List ℕ → List Entry → List ℕ
name_on text line = bytes_at text (second_place line)

abbrev pub is_var : LineWord → Bool
is_var w.Var = true
is_var v = false

-- its fields that are names, each by its number and its place
abbrev pub name_fields : List Entry → List (ℕ × Place)
name_fields [] = []
name_fields (e ∷ es) = cond (is_name e.token) ((e.place.field, e.place) ∷ name_fields es) (name_fields es)

-- the names that a line uses: field 2 of set and rate, and every field that is a name; a var line uses none
abbrev pub uses : LineWord → List Entry → List (ℕ × Place)
uses w.Var line = []
uses w.Set line = (2, second_place line) ∷ name_fields line
uses w.Rate line = (2, second_place line) ∷ name_fields line
uses v line = name_fields line

-- the lines above, the nearest first ----------------------------------------------

-- those above behind these lines too
abbrev pub upward : List (List Entry) → List (List Entry) → List (List Entry)
upward us [] = us
upward us (l ∷ ls) = upward (l ∷ us) ls

-- one of them has another word than var
abbrev pub other_above : List (List Entry) → Bool
other_above [] = false
other_above (u ∷ us) = not (is_var (word_on u)) || other_above us

-- how many of them are var lines
abbrev pub vars_above : List (List Entry) → ℕ
vars_above [] = 0
vars_above (u ∷ us) = cond (is_var (word_on u)) (vars_above us + 1) (vars_above us)

-- a var line among them has this name
abbrev pub declared_above : List ℕ → List (List Entry) → List ℕ → Bool
declared_above text [] name = false
declared_above text (u ∷ us) name = (is_var (word_on u) && bytes_eq (name_on text u) name) || declared_above text us name

-- the nearest is run or rate
abbrev pub stretch_above : List (List Entry) → Bool
stretch_above [] = false
stretch_above (u ∷ us) = is_run (word_on u) || is_rate (word_on u)

-- of the rate lines up to the run line, one has this name
abbrev pub rated_above : List ℕ → List (List Entry) → List ℕ → Bool
rated_above text [] name = false
rated_above text (u ∷ us) name = is_rate (word_on u) && (bytes_eq (name_on text u) name || rated_above text us name)

-- the innermost block has its else
abbrev pub elsed : List Block → List Block
elsed [] = []
elsed (b ∷ bs) = block b.line false ∷ bs

-- the open blocks, the innermost first, behind a line of this word and number
abbrev pub blocks_after : LineWord → ℕ → List Block → List Block
blocks_after w.If n bs = block n true ∷ bs
blocks_after w.Else n bs = elsed bs
blocks_after w.While n bs = block n false ∷ bs
blocks_after w.End n bs = drop 1 bs
blocks_after v n bs = bs

-- the blocks that are open behind these lines
abbrev pub open_above : List (List Entry) → List Block
open_above [] = []
open_above (u ∷ us) = blocks_after (word_on u) (number_on u) (open_above us)

-- the conditions of a line ----------------------------------------------------------

-- 9: a var line is under a line of another word, or under 16 var lines, or under one of the same name
abbrev pub var_wrong : List ℕ → List (List Entry) → LineWord → List Entry → Bool
var_wrong text us v line = is_var v && (other_above us || (nat_le 16 (vars_above us) || declared_above text us (name_on text line)))

-- 10 does not hold: var lines above declare all these names
abbrev pub all_declared : List ℕ → List (List Entry) → List (ℕ × Place) → Bool
all_declared text us used = list_all (λ (u : ℕ × Place). declared_above text us (bytes_at text u.1)) used

-- 12: a rate line is not directly under run or rate, or a rate line of the run has its name
abbrev pub rate_wrong : List ℕ → List (List Entry) → LineWord → List Entry → Bool
rate_wrong text us v line = is_rate v && (not (stretch_above us) || rated_above text us (name_on text line))

-- the innermost block is an if that has no else yet
abbrev pub awaits_else : List Block → Bool
awaits_else [] = false
awaits_else (b ∷ bs) = b.elseless

-- 13: an if or while inside eight blocks, an else without its if, an end without a block
abbrev pub block_wrong : LineWord → List Block → Bool
block_wrong w.If bs = nat_le 8 (length bs)
block_wrong w.Else bs = not (awaits_else bs)
block_wrong w.While bs = nat_le 8 (length bs)
block_wrong w.End bs = is_empty bs
block_wrong v bs = false

module _ (means : Pair → Option Frac) (code : Frac → Option Pair) where
  -- 11 does not hold: the kind holds all numbers among these fields
  abbrev pub all_held : List Entry → Bool
  all_held es = list_all (λ (e : Entry). not (not_held means code e.token)) es

  module _ (text : List ℕ) where
    -- None of 9 to 14 holds of a line under these: it passes.
    pub record Right (us : List (List Entry)) (l : List Entry) : Type 0 where
      pub var_placed : var_wrong text us (word_on l) l ≡ false
      pub declared : all_declared text us (uses (word_on l) l) ≡ true
      pub held : all_held l ≡ true
      pub rate_placed : rate_wrong text us (word_on l) l ≡ false
      pub nested : block_wrong (word_on l) (open_above us) ≡ false
      pub items : items_wrong (word_on l) l ≡ false

    -- A line under these is refused with the first of 9 to 14 that holds, at its place.
    pub data Fault (us : List (List Entry)) (l : List Entry) : Refusal → Type 0 where
      by_9 : var_wrong text us (word_on l) l ≡ true → Fault us l (refused VarOutOfPlace (number_on l) 2)
      by_10 : var_wrong text us (word_on l) l ≡ false → (before : List (ℕ × Place)) (field : ℕ) (at : Place) (after : List (ℕ × Place)) → uses (word_on l) l ≡ before ++ (field, at) ∷ after → all_declared text us before ≡ true → declared_above text us (bytes_at text at) ≡ false → Fault us l (refused NameNotDeclared (number_on l) field)
      by_11 : var_wrong text us (word_on l) l ≡ false → all_declared text us (uses (word_on l) l) ≡ true → (before : List Entry) (e : Entry) (after : List Entry) → l ≡ before ++ e ∷ after → all_held before ≡ true → not_held means code e.token ≡ true → Fault us l (refused NumberNotHeld (number_on l) e.place.field)
      by_12 : var_wrong text us (word_on l) l ≡ false → all_declared text us (uses (word_on l) l) ≡ true → all_held l ≡ true → rate_wrong text us (word_on l) l ≡ true → Fault us l (refused RateOutOfPlace (number_on l) 2)
      by_13 : var_wrong text us (word_on l) l ≡ false → all_declared text us (uses (word_on l) l) ≡ true → all_held l ≡ true → rate_wrong text us (word_on l) l ≡ false → block_wrong (word_on l) (open_above us) ≡ true → Fault us l (refused Blocks (number_on l) 0)
      by_14 : var_wrong text us (word_on l) l ≡ false → all_declared text us (uses (word_on l) l) ≡ true → all_held l ≡ true → rate_wrong text us (word_on l) l ≡ false → block_wrong (word_on l) (open_above us) ≡ false → items_wrong (word_on l) l ≡ true → Fault us l (refused Items (number_on l) 0)

    -- each of these lines passes, under those above
    abbrev pub Passing : List (List Entry) → List (List Entry) → Type 0
    Passing us [] = Unit {0}
    Passing us (l ∷ ls) = Right us l × Passing (l ∷ us) ls

-- runs ------------------------------------------------------------------------------

-- 15: a line is a run, and the rates of the rate lines directly below it break the rule on chains of names
abbrev pub RunBreaks : List ℕ → List Place → List Entry → List (List Entry) → Type 0
RunBreaks text names l below = (word_on l ≡ w.Run) × BreaksRule (rates (map (line_of text names) below))

-- no run of these lines breaks it
abbrev pub RunsKeep : List ℕ → List Place → List (List Entry) → List (List Entry) → Type 0
RunsKeep text names [] below = Unit {0}
RunsKeep text names (l ∷ ls) below = (RunBreaks text names l (ls ++ below) → ⊥) × RunsKeep text names ls below

-- a check ---------------------------------------------------------------------------

-- 8: the table has too few entries, or others than the text; or there are more fields or lines than a script can have
pub data Other (text : List ℕ) (fields : ℕ) (table : List Entry) : Type 0 where
  too_short : length table < fields → Other text fields table
  not_its : (take fields table ≢ entries text) → Other text fields table
  many_fields : 4608 < fields → Other text fields table
  many_lines : 256 < length (lines (take fields table)) → Other text fields table

-- none of these: the entries are those of the text
pub record Own (text : List ℕ) (fields : ℕ) (table : List Entry) : Type 0 where
  pub enough : fields ≤ length table
  pub its : take fields table ≡ entries text
  pub few_fields : fields ≤ 4608
  pub few_lines : length (lines (take fields table)) ≤ 256

module _ (means : Pair → Option Frac) (code : Frac → Option Pair) (text : List ℕ) (fields : ℕ) (table : List Entry) where
  -- A draft is refused with the first condition that holds: 8; then line by line 9 to 14; then 13 for a block that is left open, at the
  -- line of the innermost; then run by run 15.
  pub data Refused : Refusal → Type 0 where
    by_8 : Other text fields table → Refused (refused OtherTable 0 0)
    bad_line : Own text fields table → (before : List (List Entry)) (l : List Entry) (after : List (List Entry)) (e : Refusal) → lines (entries text) ≡ before ++ l ∷ after → Passing means code text [] before → Fault means code text (upward [] before) l e → Refused e
    left_open : Own text fields table → Passing means code text [] (lines (entries text)) → (b : Block) (bs : List Block) → open_above (upward [] (lines (entries text))) ≡ b ∷ bs → Refused (refused Blocks b.line 0)
    by_15 : Own text fields table → Passing means code text [] (lines (entries text)) → open_above (upward [] (lines (entries text))) ≡ [] → (before : List (List Entry)) (l : List Entry) (after : List (List Entry)) → lines (entries text) ≡ before ++ l ∷ after → RunsKeep text (names_of (lines (entries text))) before (l ∷ after) → RunBreaks text (names_of (lines (entries text))) l after → Refused (refused Chains (length before + 1) 0)

  -- A draft is accepted where none of the conditions holds.
  pub record Accepted : Type 0 where
    pub own : Own text fields table
    pub passing : Passing means code text [] (lines (entries text))
    pub closed : open_above (upward [] (lines (entries text))) ≡ []
    pub kept : RunsKeep text (names_of (lines (entries text))) (lines (entries text)) []

  -- An answer is judged by these rules: it is "accepted" exactly where none of the conditions holds, and it is a refusal exactly where that
  -- condition is the first that holds, at that place.
  pub record Judged (answer : Result Unit Refusal) : Type 0 where
    pub accepts : (answer ≡ Ok tt) ↔ Accepted
    pub refuses : (e : Refusal) → (answer ≡ Err e) ↔ Refused e

-- the lines of a text -----------------------------------------------------------------

-- the fields of these lines, line by line, the lines being numbered from `n` on
abbrev pub numbered : ℕ → List Row → List (List Cell)
numbered n [] = []
numbered n (r ∷ rs) = row_cells n r ∷ numbered (n + 1) rs

-- The lines of a text's entries are the lines of the text, each with its number, and their fields are those of the text, each with its number
-- and bytes.
abbrev pub LinesOfText : Type 0
LinesOfText = (text : List ℕ) → unended text ≡ false → map (map (cell_of text)) (lines (entries text)) ≡ numbered 1 (rows text)

-- So the number of a line is one more than there are lines above it.
abbrev pub LinesNumbered : Type 0
LinesNumbered = (text : List ℕ) → unended text ≡ false → (before : List (List Entry)) (l : List Entry) (after : List (List Entry)) → lines (entries text) ≡ before ++ l ∷ after → number_on l ≡ length before + 1
