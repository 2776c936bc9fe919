-- What holds of scripts that are checked, in the words of the format. Assumes nothing.
use Rattle.std.specs.Prelude.{◌≡◌, ℕ, ◌-◌, ◌≤◌, false, ◌⊎◌, ◌↔◌, List, [], ◌∷◌, length, take, None, Ok, Err, Option, Result}
use Rattle.std.specs.List.{AllByRecursion}
use Rattle.script.specs.declared.words.LineWord.{LineWord}
use Rattle.script.specs.declared.reading.Entry.{Entry}
use Rattle.script.specs.Reading.{entries}
use Rattle.number.specs.declared.Pair.{Pair}
use Rattle.number.specs.Frac.{Frac}
use Rattle.motion.specs.Lines.{Line, run_line, Item}
use Rattle.motion.specs.Program.{Prog}
use Rattle.motion.specs.Rules.{ProgramOf}
use Rattle.motion.specs.Chains.{Shallow, Shallows}
use Rattle.motion.specs.NextLine.{rates, declared}
use Rattle.checker.specs.declared.refusals.Reason.TheVariants.{NumberNotHeld}
use Rattle.checker.specs.Refusals.{Refusal}
use Rattle.checker.specs.declared.lines.Past.{Past}
use Rattle.entries.specs.Fields.{not_held, lines, unheld, second_place}
use Rattle.checker.specs.Conditions.{after_var, first_unknown, variable, after_rate, after_block, items_wrong, line_by, at_first, lines_check, declared_names}
use Rattle.entries.specs.Decoding.{names_of, script_of, rows_lines}
use Rattle.checker.specs.Jumps.{Leads}
use Rattle.checker.specs.Checking.{check_of}
use Rattle.checker.specs.declared.checking.Plan.{Plan}

-- Two kinds ---------------------------------------------------------------------

-- a refusal by 11
abbrev pub by_number : Result Unit Refusal → Type 0
by_number (Ok x) = ⊥
by_number (Err e) = e.reason ≡ NumberNotHeld

-- one answer, unless one of the two is a refusal by 11
abbrev pub ButForNumbers : Result Unit Refusal → Result Unit Refusal → Type 0
ButForNumbers r s = (r ≡ s) ⊎ (by_number r ⊎ by_number s)

-- The check for one kind differs from that for another only by condition 11: both give one answer, or one of them is refused by 11.
abbrev pub KindsDifferByNumbers : Type 0
KindsDifferByNumbers =
    (means means' : Pair → Option Frac) (code code' : Frac → Option Pair) (text : List ℕ) (fields : ℕ) (table : List Entry) →
    ButForNumbers (check_of means code text fields table) (check_of means' code' text fields table)

-- A line --------------------------------------------------------------------------

-- A line of this word and number passes behind what is known of the lines above: none of the conditions 9 to 14 holds.
pub record LinePasses (means : Pair → Option Frac) (code : Frac → Option Pair) (text : List ℕ) (p : Past) (w : LineWord) (n : ℕ) (line : List Entry) (q : Past) : Type 0 where
  -- what is known with its variable, and then with its rate
  pub named : Past
  pub rated : Past
  pub var_in_place : after_var text p w n (second_place line) ≡ Ok named
  pub declared : first_unknown text named w line ≡ None
  pub held : unheld means code line ≡ None
  pub rate_in_place : after_rate named w n (variable text named (second_place line)) ≡ Ok rated
  pub nested : after_block rated w n ≡ Ok q
  pub items : items_wrong w line ≡ false

-- So it is exactly where the definition of the check lets it pass.
abbrev pub LinesJudged : Type 0
LinesJudged =
    (means : Pair → Option Frac) (code : Frac → Option Pair) (text : List ℕ) (p : Past) (w : LineWord) (n : ℕ) (line : List Entry) (q : Past) →
    (line_by means code text p w n line ≡ Ok q) ↔ LinePasses means code text p w n line q

-- An accepted script --------------------------------------------------------------

-- no run of these lines has a walk of five names among its rates
pub data ShallowRuns : List Line → Type 0 where
  none : ShallowRuns []
  more : {l : Line} {ls : List Line} → ((e : List Item) → l ≡ run_line e → Shallow (rates ls)) → ShallowRuns ls → ShallowRuns (l ∷ ls)

-- What holds of a script that passed: its text, the entries that it reads, and what is prepared for them.
pub record Good (means : Pair → Option Frac) (code : Frac → Option Pair) (text : List ℕ) (es : List Entry) (p : Plan) : Type 0 where
  -- the entries are those of the text
  pub own : es ≡ entries text
  -- its names are those of the var lines
  pub names : declared_names p.past ≡ names_of (lines es)
  -- the rows stand for its lines, over the entries and their places among the variables
  pub rows : rows_lines es (take (length es) p.places.of) (take p.rows.count p.rows.rows) ≡ script_of text (lines es)
  -- every line passes behind those above it, and no block is left open
  pub passes : lines_check means code text at_first (lines es) ≡ Ok p.past
  pub closed : p.past.depth ≡ 0
  -- every number is held by the kind
  pub held : AllByRecursion (λ l. unheld means code l ≡ None) (lines es)
  -- no run has a walk of five names among its rates
  pub shallow : ShallowRuns (script_of text (lines es))
  -- behind the var lines its lines spell a nested program, of which every stretch is shallow
  pub program : Prog
  pub spelled : ProgramOf (script_of text (lines es)) program
  pub smooth : Shallows program

-- What a run finds in a script that passed.
pub record Found (means : Pair → Option Frac) (code : Frac → Option Pair) (text : List ℕ) (es : List Entry) (p : Plan) : Type 0 where
  -- every number is held by the kind
  pub numbers : AllByRecursion (λ e. not_held means code e.token ≡ false) es
  -- each entry has its place among the variables; a row for each line, none of more than 18 entries
  pub placed : length (take (length es) p.places.of) ≡ length es
  pub counted : p.rows.count ≡ length (lines es)
  pub few_lines : p.rows.count ≤ 256
  pub short : AllByRecursion (λ r. r.to - r.from ≤ 18) (take p.rows.count p.rows.rows)
  -- where a run goes on behind each line
  pub jumps : Leads (script_of text (lines es)) p.jumps
  -- the variables are those of the var lines, which stand first, at most 16
  pub variables : p.past.declared ≡ length (declared (script_of text (lines es)))
  pub few_variables : p.past.declared ≤ 16
