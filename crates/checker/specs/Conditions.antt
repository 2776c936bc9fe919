-- Line by line: what is known behind the lines so far, and the conditions 9 to 14 of the next one. Total on any entries.
use Rattle.std.specs.Prelude.{ℕ, ◌+◌, ◌-◌, Bool, true, false, cond, not, ◌||◌, List, [], ◌∷◌, take, drop, replicate, Some, None, Ok, Err, Option, Result, ◌==◌, nat_le, slice_index_or, slice_set}
use Rattle.script.specs.declared.words.LineWord.{LineWord}
use Rattle.script.specs.declared.words.LineWord.TheVariants.{Var, Set, Run, Rate, If, Else, While, End}
use Rattle.script.specs.declared.places.Place.{Place}
use Rattle.script.specs.declared.reading.Entry.{Entry}
use Rattle.script.specs.Places.{bytes_at}
use Rattle.script.specs.Checks.{and_then}
use Rattle.number.specs.declared.Pair.{Pair}
use Rattle.number.specs.Frac.{Frac}
use Rattle.checker.specs.declared.refusals.Reason.{Reason}
use Rattle.checker.specs.declared.refusals.Reason.TheVariants.{VarOutOfPlace, NameNotDeclared, NumberNotHeld, RateOutOfPlace, Blocks, Items}
use Rattle.checker.specs.Refusals.{Refusal}
use Rattle.entries.specs.declared.sorts.Sort.TheVariants as sort
use Rattle.checker.specs.declared.lines.Block.{Block}
use Rattle.checker.specs.declared.lines.Past.{Past}
use Rattle.refusal.specs.Refusals.{refused}
use Rattle.entries.specs.Fields.{nowhere, head_of, second_place, first_word, is_none, find, undeclared, unheld}
use Rattle.entries.specs.Sorts.{gives}

-- a refusal where the test says so
abbrev pub refused_if : Bool → Reason → ℕ → ℕ → Result Unit Refusal
refused_if wrong reason line field = cond wrong (Err (refused reason line field)) (Ok tt)

-- a refusal at a field, where there is one
abbrev pub refused_at : Option ℕ → Reason → ℕ → Result Unit Refusal
refused_at (Some field) reason line = Err (refused reason line field)
refused_at None reason line = Ok tt

-- the places of the names that are declared
abbrev pub declared_names : Past → List Place
declared_names p = take p.declared p.names

-- the place among the variables of the name at a place of the text
abbrev pub variable : List ℕ → Past → Place → Option ℕ
variable text p at = find text (declared_names p) 0 (bytes_at text at)

-- 9: a var line is behind a line of another word, is the 17th, or repeats a name
abbrev pub var_misplaced : List ℕ → Past → Place → Bool
var_misplaced text p at = p.others || (nat_le 16 p.declared || not (is_none (variable text p at)))

-- one variable more, of which the name stands there
abbrev pub with_name : Past → Place → Past
with_name p at = record { declared = p.declared + 1; names = slice_set p.names p.declared at; others = p.others; stretch = p.stretch; rated = p.rated; depth = p.depth; blocks = p.blocks }

-- a line of another word than var
abbrev pub with_other : Past → Past
with_other p = record { declared = p.declared; names = p.names; others = true; stretch = p.stretch; rated = p.rated; depth = p.depth; blocks = p.blocks }

abbrev pub declare : List ℕ → Past → ℕ → Place → Result Past Refusal
declare text p n at = cond (var_misplaced text p at) (Err (refused VarOutOfPlace n 2)) (Ok (with_name p at))

abbrev pub after_var : List ℕ → Past → LineWord → ℕ → Place → Result Past Refusal
after_var text p Var n at = declare text p n at
after_var text p v n at = Ok (with_other p)

-- the field of the first name that is not declared, on a line whose field 2 has to be a name
abbrev pub unknown_behind : List ℕ → Past → List Entry → Option ℕ
unknown_behind text p line = cond (is_none (variable text p (second_place line))) (Some 2) (undeclared text (declared_names p) line)

-- 10: the field of the first name on a line other than var that is not declared
abbrev pub first_unknown : List ℕ → Past → LineWord → List Entry → Option ℕ
first_unknown text p Var line = None
first_unknown text p Set line = unknown_behind text p line
first_unknown text p Rate line = unknown_behind text p line
first_unknown text p v line = undeclared text (declared_names p) line

-- what is known, with another stretch
abbrev pub in_stretch : Past → Bool → List Bool → Past
in_stretch p stretch rated = record { declared = p.declared; names = p.names; others = p.others; stretch = stretch; rated = rated; depth = p.depth; blocks = p.blocks }

-- 12: the line above is neither run nor rate, or a rate line of the run has the same variable
abbrev pub rate_misplaced : Past → ℕ → Bool
rate_misplaced p x = nat_le 16 x || (not p.stretch || slice_index_or p.rated x false)

abbrev pub rate_on : Past → ℕ → Option ℕ → Result Past Refusal
rate_on p n (Some x) = cond (rate_misplaced p x) (Err (refused RateOutOfPlace n 2)) (Ok (in_stretch p p.stretch (slice_set p.rated x true)))
rate_on p n None = Err (refused RateOutOfPlace n 2)

abbrev pub after_rate : Past → LineWord → ℕ → Option ℕ → Result Past Refusal
after_rate p Rate n x = rate_on p n x
after_rate p Run n x = Ok (in_stretch p true (replicate 16 false))
after_rate p v n x = Ok (in_stretch p false p.rated)

-- a block that is open: its line, and whether it is an if that has no else yet
abbrev pub block : ℕ → Bool → Block
block line elseless = record { line = line; elseless = elseless }

abbrev pub with_blocks : Past → ℕ → List Block → Past
with_blocks p depth blocks = record { declared = p.declared; names = p.names; others = p.others; stretch = p.stretch; rated = p.rated; depth = depth; blocks = blocks }

-- the innermost open block
abbrev pub innermost : Past → Block
innermost p = slice_index_or p.blocks (p.depth - 1) (block 0 false)

-- 13: a ninth block would be open
abbrev pub opened : Past → ℕ → Bool → Result Past Refusal
opened p n elseless = cond (nat_le 8 p.depth) (Err (refused Blocks n 0)) (Ok (with_blocks p (p.depth + 1) (slice_set p.blocks p.depth (block n elseless))))

-- 13: an else has no block to serve
abbrev pub served : Past → ℕ → Result Past Refusal
served p n = cond (p.depth == 0 || not (innermost p).elseless) (Err (refused Blocks n 0)) (Ok (with_blocks p p.depth (slice_set p.blocks (p.depth - 1) (block (innermost p).line false))))

-- 13: an end has no block to close
abbrev pub closed : Past → ℕ → Result Past Refusal
closed p n = cond (p.depth == 0) (Err (refused Blocks n 0)) (Ok (with_blocks p (p.depth - 1) p.blocks))

abbrev pub after_block : Past → LineWord → ℕ → Result Past Refusal
after_block p If n = opened p n true
after_block p While n = opened p n false
after_block p Else n = served p n
after_block p End n = closed p n
after_block p v n = Ok p

-- 14: the items of a line break their rules, or do not give one number, or truth
abbrev pub items_wrong : LineWord → List Entry → Bool
items_wrong Set line = not (gives sort.Number (drop 2 line))
items_wrong Run line = not (gives sort.Number (drop 1 line))
items_wrong If line = not (gives sort.Truth (drop 1 line))
items_wrong While line = not (gives sort.Truth (drop 1 line))
items_wrong v line = false

-- before the first line
abbrev pub at_first : Past
at_first = record { declared = 0; names = replicate 16 nowhere; others = false; stretch = false; rated = replicate 16 false; depth = 0; blocks = replicate 8 (block 0 false) }

module _ (means : Pair → Option Frac) (code : Frac → Option Pair) where
  -- what is known behind a line of this word and number, or the first of the conditions 9 to 14 that it meets
  abbrev pub line_by : List ℕ → Past → LineWord → ℕ → List Entry → Result Past Refusal
  line_by text p w n line =
      and_then (after_var text p w n (second_place line)) (λ q.
      and_then (refused_at (first_unknown text q w line) NameNotDeclared n) (λ _.
      and_then (refused_at (unheld means code line) NumberNotHeld n) (λ _.
      and_then (after_rate q w n (variable text q (second_place line))) (λ r.
      and_then (after_block r w n) (λ s.
      and_then (refused_if (items_wrong w line) Items n 0) (λ _. Ok s))))))

  abbrev pub line_check : List ℕ → Past → List Entry → Result Past Refusal
  line_check text p line = line_by text p (first_word (head_of line).token) (head_of line).place.line line

  -- the same of lines: the first that meets a condition decides
  abbrev pub lines_check : List ℕ → Past → List (List Entry) → Result Past Refusal
  lines_check text p [] = Ok p
  lines_check text p (l ∷ ls) = and_then (line_check text p l) (λ q. lines_check text q ls)
