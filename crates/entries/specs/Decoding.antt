-- The lines that entries stand for, with names as places among the variables. Total on any entries.
use Rattle.std.specs.Prelude.{ℕ, ◌+◌, ◌-◌, cond, List, [], ◌∷◌, ◌++◌, map, length, take, drop, pos, Some, None, Option}
use Rattle.script.specs.declared.words.LineWord.{LineWord}
use Rattle.script.specs.declared.words.LineWord.TheVariants as w
use Rattle.script.specs.declared.words.Operator.{Operator}
use Rattle.script.specs.declared.words.Operator.TheVariants as o
use Rattle.script.specs.declared.words.Word.{Word}
use Rattle.script.specs.declared.words.Word.TheVariants as word
use Rattle.script.specs.declared.tokens.Token.{Token}
use Rattle.script.specs.declared.tokens.Token.TheVariants as token
use Rattle.script.specs.declared.numbers.Number.{Number}
use Rattle.script.specs.declared.places.Place.{Place}
use Rattle.script.specs.declared.reading.Entry.{Entry}
use Rattle.script.specs.Places.{bytes_at}
use Rattle.number.specs.Frac.{Frac, norm}
use Rattle.motion.specs.Lines.{Line, var_line, set_line, run_line, rate_line, if_line, else_line, while_line, end_line, Item, number, name, calculate, combine, negate, Part, Rate, Of, one, var}
use Rattle.motion.specs.Lines as L
use Rattle.entries.specs.declared.rows.Row.{Row}
use Rattle.entries.specs.declared.resolved.Resolved.{Resolved}
use Rattle.entries.specs.Fields.{first_word, is_name, find, signed, head_of, second_place}

-- the fraction that a number as written is
abbrev pub frac_of_number : Number → Frac
frac_of_number n = norm (signed n.minus n.top) n.bottom

-- a place among the variables as a line holds it: 16, of which there is none, where a name has no place
abbrev pub or_none : Option ℕ → ℕ
or_none (Some i) = i
or_none None = 16

-- the place among these names of the name that stands there, if it is one of them
abbrev pub place_at : List ℕ → List Place → Place → Option ℕ
place_at text names p = find text names 0 (bytes_at text p)

-- the same of an entry; none where it is no name
abbrev pub place_of : List ℕ → List Place → Entry → Option ℕ
place_of text names e = cond (is_name e.token) (place_at text names e.place) None

abbrev pub operator_item : Operator → Item
operator_item o.Add = calculate L.add
operator_item o.Sub = calculate L.sub
operator_item o.Mul = calculate L.mul
operator_item o.Div = calculate L.div
operator_item o.Lt = calculate L.lt
operator_item o.Le = calculate L.le
operator_item o.And = combine L.and
operator_item o.Or = combine L.or
operator_item o.Not = negate

abbrev pub word_item : Word → Item
word_item (word.Line w) = negate
word_item (word.Item o) = operator_item o
word_item word.One = negate

-- an item, by what its entry is and its place among the variables
abbrev pub item_of : Token → Option ℕ → Item
item_of (token.Word w) x = word_item w
item_of token.Name x = name (or_none x)
item_of (token.Number n) x = number (frac_of_number n)
item_of token.Other x = negate

-- items, by their entries and the places of these
abbrev pub items_of : List Entry → List (Option ℕ) → List Item
items_of [] xs = []
items_of (e ∷ es) [] = []
items_of (e ∷ es) (x ∷ xs) = item_of e.token x ∷ items_of es xs

-- the coefficient of a part; 0 where it is no number
abbrev pub coefficient_of : Token → Frac
coefficient_of (token.Word w) = norm (pos 0) 1
coefficient_of token.Name = norm (pos 0) 1
coefficient_of (token.Number n) = frac_of_number n
coefficient_of token.Other = norm (pos 0) 1

-- what a part multiplies
abbrev pub factor_of : Token → Option ℕ → Of
factor_of (token.Word w) x = one
factor_of token.Name x = var (or_none x)
factor_of (token.Number n) x = one
factor_of token.Other x = one

abbrev pub part_of : Token → Token → Option ℕ → Part
part_of c v x = record { coefficient = coefficient_of c; of = factor_of v x }

-- parts, of two entries each
abbrev pub parts_of : List Entry → List (Option ℕ) → List Part
parts_of [] xs = []
parts_of (c ∷ []) xs = []
parts_of (c ∷ v ∷ es) [] = []
parts_of (c ∷ v ∷ es) (y ∷ []) = []
parts_of (c ∷ v ∷ es) (y ∷ x ∷ xs) = part_of c.token v.token x ∷ parts_of es xs

-- the value of a var line: that of the first of these entries
abbrev pub value_of : List Entry → Frac
value_of [] = norm (pos 0) 1
value_of (e ∷ es) = coefficient_of e.token

-- how many fields stand before the items, the parts or the value of a line
abbrev pub before_items : LineWord → ℕ
before_items w.Var = 2
before_items w.Set = 2
before_items w.Run = 1
before_items w.Rate = 2
before_items w.If = 1
before_items w.Else = 1
before_items w.While = 1
before_items w.End = 1

-- a line of this word, by the place of its name, and the entries behind with their places
abbrev pub line_by : LineWord → Option ℕ → List Entry → List (Option ℕ) → Line
line_by w.Var x es xs = var_line (value_of es)
line_by w.Set x es xs = set_line (or_none x) (items_of es xs)
line_by w.Run x es xs = run_line (items_of es xs)
line_by w.Rate x es xs = rate_line (record { name = or_none x; parts = parts_of es xs })
line_by w.If x es xs = if_line (items_of es xs)
line_by w.Else x es xs = else_line
line_by w.While x es xs = while_line (items_of es xs)
line_by w.End x es xs = end_line

abbrev pub of_word : List ℕ → List Place → LineWord → List Entry → Line
of_word text names w line = line_by w (place_at text names (second_place line)) (drop (before_items w) line) (map (place_of text names) (drop (before_items w) line))

-- a line by its entries, with these names declared
abbrev pub line_of : List ℕ → List Place → List Entry → Line
line_of text names line = of_word text names (first_word (head_of line).token) line

-- the places of the names that var lines declare
abbrev pub var_name : LineWord → Place → List Place
var_name w.Var p = p ∷ []
var_name w.Set p = []
var_name w.Run p = []
var_name w.Rate p = []
var_name w.If p = []
var_name w.Else p = []
var_name w.While p = []
var_name w.End p = []

abbrev pub names_of : List (List Entry) → List Place
names_of [] = []
names_of (l ∷ ls) = var_name (first_word (head_of l).token) (second_place l) ++ names_of ls

-- the lines of a script, by its lines of entries
abbrev pub script_of : List ℕ → List (List Entry) → List Line
script_of text ls = map (line_of text (names_of ls)) ls

-- a line's row: its word, the place of its name, and where its entries lie of which the first stands at `at`
abbrev pub row_by : LineWord → Option ℕ → ℕ → ℕ → Row
row_by w x at n = record { word = w; name = x; from = at + before_items w; to = at + n }

abbrev pub row_of : List ℕ → List Place → ℕ → List Entry → Row
row_of text names at line = row_by (first_word (head_of line).token) (place_at text names (second_place line)) at (length line)

-- the rows of lines, the first of which begins at `at`
abbrev pub rows_from : List ℕ → List Place → ℕ → List (List Entry) → List Row
rows_from text names at [] = []
rows_from text names at (l ∷ ls) = row_of text names at l ∷ rows_from text names (at + length l) ls

-- the part of a list from there to there
abbrev pub part : {A : Type 0} → ℕ → ℕ → List A → List A
part from to xs = take (to - from) (drop from xs)

-- the line that a row stands for, over entries and their places
abbrev pub row_line : List Entry → List (Option ℕ) → Row → Line
row_line es xs r = line_by r.word r.name (part r.from r.to es) (part r.from r.to xs)

-- the lines that rows stand for
abbrev pub rows_lines : List Entry → List (Option ℕ) → List Row → List Line
rows_lines es xs rows = map (row_line es xs) rows

-- the items that resolved entries are
abbrev pub items_in : Resolved → List Item
items_in r = items_of r.entries.now r.variables.now

-- the parts that they are
abbrev pub parts_in : Resolved → List Part
parts_in r = parts_of r.entries.now r.variables.now

-- the lines that rows over them stand for
abbrev pub lines_over : Resolved → List Row → List Line
lines_over r rows = rows_lines r.entries.now r.variables.now rows
