-- A text by its lines, and a line by its fields. Assumes nothing.
use Rattle.std.specs.Prelude.{ℕ, ◌+◌, cond, List, [], ◌∷◌, ◌++◌, map, length, ◌==◌}

-- a line by its fields: the first, and those after it
pub data Row : Type 0 where
  row : List ℕ → List (List ℕ) → Row

-- the first field of a line
abbrev pub first : Row → List ℕ
first (row f fs) = f

-- the fields of a line after its first
abbrev pub others : Row → List (List ℕ)
others (row f fs) = fs

-- how many fields a line has
abbrev pub width : Row → ℕ
width (row f fs) = length fs + 1

-- a byte in front of the first field
abbrev pub lengthen : ℕ → Row → Row
lengthen b (row f fs) = row (b ∷ f) fs

-- an empty field in front
abbrev pub part_off : Row → Row
part_off (row f fs) = row [] (f ∷ fs)

-- the fields of a line, parted by its commas
abbrev pub fields : List ℕ → Row
fields [] = row [] []
fields (b ∷ bs) = cond (b == 44) (part_off (fields bs)) (lengthen b (fields bs))

-- a byte in front of the first of these lines
abbrev pub onto : ℕ → List (List ℕ) → List (List ℕ)
onto b [] = (b ∷ []) ∷ []
onto b (l ∷ ls) = (b ∷ l) ∷ ls

-- the lines of a text, without the line feeds that end them; bytes after the last line feed are a line too
abbrev pub lines : List ℕ → List (List ℕ)
lines [] = []
lines (b ∷ bs) = cond (b == 10) ([] ∷ lines bs) (onto b (lines bs))

-- the lines of a text by their fields
abbrev pub rows : List ℕ → List Row
rows text = map fields (lines text)

-- how many fields these lines have
abbrev pub fields_in : List Row → ℕ
fields_in [] = 0
fields_in (r ∷ rs) = width r + fields_in rs

-- joined again ----------------------------------------------------------------

-- fields, each behind a comma
abbrev pub behind_commas : List (List ℕ) → List ℕ
behind_commas [] = []
behind_commas (f ∷ fs) = 44 ∷ (f ++ behind_commas fs)

-- the fields of a line, joined by commas
abbrev pub line_text : Row → List ℕ
line_text (row f fs) = f ++ behind_commas fs

-- lines, each ended by a line feed
abbrev pub written : List Row → List ℕ
written [] = []
written (r ∷ rs) = line_text r ++ (10 ∷ written rs)

-- numbered --------------------------------------------------------------------

-- a field with its line and its number on the line, both from 1
pub record Cell : Type 0 where
  pub line : ℕ
  pub field : ℕ
  pub bytes : List ℕ

abbrev pub cell : ℕ → ℕ → List ℕ → Cell
cell line field bytes = record { line = line; field = field; bytes = bytes }

-- fields of one line, numbered from `k` on
abbrev pub cells_from : ℕ → ℕ → List (List ℕ) → List Cell
cells_from line k [] = []
cells_from line k (f ∷ fs) = cell line k f ∷ cells_from line (k + 1) fs

-- the fields of a line
abbrev pub row_cells : ℕ → Row → List Cell
row_cells line (row f fs) = cell line 1 f ∷ cells_from line 2 fs

-- the fields of these lines in order, the lines being numbered from `line` on
abbrev pub cells : ℕ → List Row → List Cell
cells line [] = []
cells line (r ∷ rs) = row_cells line r ++ cells (line + 1) rs
