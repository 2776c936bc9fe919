-- A text by its lines and fields: joined again, counted, and where its fields stand. Assumes nothing.
use Rattle.std.proofs.Common.{◌≡◌, ℕ, suc, ◌+◌, ◌-◌, ◌<◌, ◌≤◌, Bool, true, false, cond, eqb, List, [], ◌∷◌, ◌++◌, map, length, get_or, take, drop, sym, refl, ap, ◌∙◌, arith}
use Rattle.std.proofs.lemmas.List.{append-nil, append_assoc, drop-drop, take_more, drop_more, length-drop}
use Rattle.std.proofs.lemmas.Bool.Decides.{nat_tests}
use Rattle.script.specs.declared.places.Place.{Place}
use Rattle.script.specs.Places.{place, walk, places, part}
use Rattle.script.specs.Lines.{Row, row, fields, lengthen, part_off, onto, lines, rows, width, fields_in, line_text, written, Cell, cell, cells_from, row_cells, cells}
use Rattle.script.specs.Checks.{feeds, unended}
use Rattle.script.specs.Scan.{cell_at}
use Rattle.script.proofs.Turns.{bytes_within}

-- bytes that end in a line feed
pub data Closed : List ℕ → Type 0 where
  last : Closed (10 ∷ [])
  front : {b : ℕ} {bs : List ℕ} → Closed bs → Closed (b ∷ bs)

at_last : (b : ℕ) → b ≡ 10 → Closed (b ∷ [])
at_last b e = rw e last

closed_at : (b : ℕ) (bs : List ℕ) → get_or (b ∷ bs) (length (b ∷ bs) - 1) 0 ≡ 10 → Closed (b ∷ bs)
closed_at b [] h = at_last b h
closed_at b (c ∷ cs) h =
    let e : length (b ∷ c ∷ cs) - 1 ≡ suc (length (c ∷ cs) - 1) = omega arith in
    front (closed_at c cs (rw e at h))

feed_last : (b : ℕ) (bs : List ℕ) → unended (b ∷ bs) ≡ false → get_or (b ∷ bs) (length (b ∷ bs) - 1) 0 ≡ 10
feed_last b bs h = grind (arith, nat_tests)

closed : (b : ℕ) (bs : List ℕ) → unended (b ∷ bs) ≡ false → Closed (b ∷ bs)
closed b bs h = closed_at b bs (feed_last b bs h)

-- bytes are in some line
some_line : (t : Bool) (b : ℕ) (ls : List (List ℕ)) → 0 < length (cond t ([] ∷ ls) (onto b ls))
some_line true b ls = omega arith
some_line false b [] = omega arith
some_line false b (l ∷ ls) = omega arith

lined : (bs : List ℕ) → Closed bs → 0 < length (lines bs)
lined bs last = omega arith
lined (b ∷ bs) (front c) = some_line (eqb b 10) b (lines bs)

-- joined again ----------------------------------------------------------------

parted_text : (r : Row) → line_text (part_off r) ≡ 44 ∷ line_text r
parted_text (row f fs) = refl

lengthened_text : (b : ℕ) (r : Row) → line_text (lengthen b r) ≡ b ∷ line_text r
lengthened_text b (row f fs) = refl

one_byte : (t : Bool) (b : ℕ) (r : Row) → eqb b 44 ≡ t → line_text (cond t (part_off r) (lengthen b r)) ≡ b ∷ line_text r
one_byte true b r h = let e : 44 ≡ b = grind (arith, nat_tests) in parted_text r ∙ ap (λ k. k ∷ line_text r) e
one_byte false b r h = lengthened_text b r

-- the fields of a line, joined by commas, are the line
line_again : (l : List ℕ) → line_text (fields l) ≡ l
line_again [] = refl
line_again (b ∷ bs) = one_byte (eqb b 44) b (fields bs) refl ∙ ap (λ xs. b ∷ xs) (line_again bs)

more_text : (t : Bool) (b : ℕ) (bs : List ℕ) (ls : List (List ℕ)) → eqb b 10 ≡ t → 0 < length ls → written (map fields ls) ≡ bs → written (map fields (cond t ([] ∷ ls) (onto b ls))) ≡ b ∷ bs
more_text true b bs ls t h k = let e : 10 ≡ b = grind (arith, nat_tests) in ap (λ xs. 10 ∷ xs) k ∙ ap (λ n. n ∷ bs) e
more_text false b bs [] t h k = absurd (omega arith)
more_text false b bs (l ∷ ls) t h k =
    ap (λ xs. xs ++ (10 ∷ written (map fields ls))) (line_again (b ∷ l) ∙ sym (ap (λ xs. b ∷ xs) (line_again l))) ∙ ap (λ xs. b ∷ xs) k

closed_again : (bs : List ℕ) → Closed bs → written (rows bs) ≡ bs
closed_again bs last = refl
closed_again (b ∷ bs) (front c) = more_text (eqb b 10) b bs (lines bs) refl (lined bs c) (closed_again bs c)

pub written_again : (text : List ℕ) → unended text ≡ false → written (rows text) ≡ text
written_again [] h = refl
written_again (b ∷ bs) h = closed_again (b ∷ bs) (closed b bs h)

-- lines by their line feeds -----------------------------------------------------

one_more : (t : Bool) (b n : ℕ) (ls : List (List ℕ)) → 0 < length ls → length (map fields ls) ≡ n → length (map fields (cond t ([] ∷ ls) (onto b ls))) ≡ cond t (n + 1) n
one_more true b n ls h k = omega arith
one_more false b n [] h k = absurd (omega arith)
one_more false b n (l ∷ ls) h k = k

closed_count : (bs : List ℕ) → Closed bs → length (rows bs) ≡ feeds bs
closed_count bs last = refl
closed_count (b ∷ bs) (front c) = one_more (eqb b 10) b (feeds bs) (lines bs) (lined bs c) (closed_count bs c)

pub row_count : (text : List ℕ) → unended text ≡ false → length (rows text) ≡ feeds text
row_count [] h = refl
row_count (b ∷ bs) h = closed_count (b ∷ bs) (closed b bs h)

-- fields by their places --------------------------------------------------------

-- the fields of a line of which `field` are before, and of the next one the bytes `under`
abbrev rest_of_line : ℕ → ℕ → List ℕ → Row → List Cell
rest_of_line line field under (row f fs) = cell (line + 1) (field + 1) (under ++ f) ∷ cells_from (line + 1) (field + 1 + 1) fs

-- the same of that line and those after it
abbrev rest_of_text : ℕ → ℕ → List ℕ → List (List ℕ) → List Cell
rest_of_text line field under [] = []
rest_of_text line field under (l ∷ ls) = rest_of_line line field under (fields l) ++ cells (line + 1 + 1) (map fields ls)

whole_line : (line : ℕ) (r : Row) → rest_of_line line 0 [] r ≡ row_cells (line + 1) r
whole_line line (row f fs) = refl

whole_text : (line : ℕ) (ls : List (List ℕ)) → rest_of_text line 0 [] ls ≡ cells (line + 1) (map fields ls)
whole_text line [] = refl
whole_text line (l ∷ ls) = ap (λ xs. xs ++ cells (line + 1 + 1) (map fields ls)) (whole_line line (fields l))

at_comma : (line field : ℕ) (under : List ℕ) (r : Row) → rest_of_line line field under (part_off r) ≡ cell (line + 1) (field + 1) under ∷ rest_of_line line (field + 1) [] r
at_comma line field under (row f fs) = ap (λ u. cell (line + 1) (field + 1) u ∷ cells_from (line + 1) (field + 1 + 1) (f ∷ fs)) (append-nil under)

at_byte : (line field b : ℕ) (under : List ℕ) (r : Row) → rest_of_line line field under (lengthen b r) ≡ rest_of_line line field (under ++ b ∷ []) r
at_byte line field b under (row f fs) = ap (λ u. cell (line + 1) (field + 1) u ∷ cells_from (line + 1) (field + 1 + 1) fs) (sym (append_assoc under (b ∷ []) f))

-- one byte of a text, and the lines `ls` of what is behind it
feed_cells : (line field b : ℕ) (under : List ℕ) (ls : List (List ℕ)) → eqb b 10 ≡ true → cell (line + 1) (field + 1) under ∷ rest_of_text (line + 1) 0 [] ls ≡ rest_of_text line field under ([] ∷ ls)
feed_cells line field b under ls h =
    ap (λ xs. cell (line + 1) (field + 1) under ∷ xs) (whole_text (line + 1) ls)
    ∙ ap (λ u. cell (line + 1) (field + 1) u ∷ cells (line + 1 + 1) (map fields ls)) (sym (append-nil under))

comma_cells : (line field b : ℕ) (under : List ℕ) (ls : List (List ℕ)) → eqb b 44 ≡ true → 0 < length ls → cell (line + 1) (field + 1) under ∷ rest_of_text line (field + 1) [] ls ≡ rest_of_text line field under (onto b ls)
comma_cells line field b under [] h k = absurd (omega arith)
comma_cells line field b under (l ∷ ls) h k = rw h (ap (λ xs. xs ++ cells (line + 1 + 1) (map fields ls)) (sym (at_comma line field under (fields l))))

byte_cells : (line field b : ℕ) (under : List ℕ) (ls : List (List ℕ)) → eqb b 44 ≡ false → 0 < length ls → rest_of_text line field (under ++ b ∷ []) ls ≡ rest_of_text line field under (onto b ls)
byte_cells line field b under [] h k = absurd (omega arith)
byte_cells line field b under (l ∷ ls) h k = rw h (ap (λ xs. xs ++ cells (line + 1 + 1) (map fields ls)) (sym (at_byte line field b under (fields l))))

module _ (text : List ℕ) where
  next_drop : (at b : ℕ) (bs : List ℕ) → drop at text ≡ b ∷ bs → drop (at + 1) text ≡ bs
  next_drop at b bs h = sym (drop-drop 1 at text) ∙ ap (drop 1) h

  within : (at b : ℕ) (bs : List ℕ) → drop at text ≡ b ∷ bs → at < length text
  within at b bs h = let e : length text - at ≡ length (b ∷ bs) = sym (length-drop at text) ∙ ap length h in omega arith

  no_part : (n : ℕ) → part text n n ≡ []
  no_part n = let e : n - n ≡ 0 = omega arith in ap (λ k. take k (drop n text)) e

  next_byte : (from at b : ℕ) (bs : List ℕ) → from ≤ at → drop at text ≡ b ∷ bs → part text from (at + 1) ≡ part text from at ++ b ∷ []
  next_byte from at b bs le h =
      let n : at + 1 - from ≡ at - from + 1 = omega arith in
      let m : from + (at - from) ≡ at = omega arith in
      let d : drop (at - from) (drop from text) ≡ b ∷ bs = drop-drop (at - from) from text ∙ ap (λ k. drop k text) m ∙ h in
      let lt : at - from < length (drop from text) = let e : length (drop from text) - (at - from) ≡ length (b ∷ bs) = sym (length-drop (at - from) (drop from text)) ∙ ap length d in omega arith in
      let e = drop_more (drop from text) (at - from) 0 lt in
      let g : get_or (drop from text) (at - from) 0 ≡ b = cc in
      ap (λ k. take k (drop from text)) n ∙ take_more (drop from text) (at - from) 0 lt ∙ ap (λ x. part text from at ++ x ∷ []) g

  here : (line field from at b : ℕ) (bs : List ℕ) → from ≤ at → drop at text ≡ b ∷ bs → cell_at text (place (line + 1) (field + 1) from at) ≡ cell (line + 1) (field + 1) (part text from at)
  here line field from at b bs le h =
      let lt = within at b bs h in
      ap (cell (line + 1) (field + 1)) (sym (bytes_within text (place (line + 1) (field + 1) from at) le (omega arith)))

  by_byte : (t u : Bool) (line field from at b : ℕ) (bs : List ℕ) (xs ys zs : List Place) → eqb b 10 ≡ t → eqb b 44 ≡ u → from ≤ at → drop at text ≡ b ∷ bs → 0 < length (lines bs) → map (cell_at text) xs ≡ rest_of_text (line + 1) 0 [] (lines bs) → map (cell_at text) ys ≡ rest_of_text line (field + 1) [] (lines bs) → map (cell_at text) zs ≡ rest_of_text line field (part text from at ++ b ∷ []) (lines bs) → map (cell_at text) (cond t (place (line + 1) (field + 1) from at ∷ xs) (cond u (place (line + 1) (field + 1) from at ∷ ys) zs)) ≡ rest_of_text line field (part text from at) (cond t ([] ∷ lines bs) (onto b (lines bs)))
  by_byte true u line field from at b bs xs ys zs t v le h n p q r =
      ap (λ c. c ∷ map (cell_at text) xs) (here line field from at b bs le h) ∙ ap (λ cs. cell (line + 1) (field + 1) (part text from at) ∷ cs) p ∙ feed_cells line field b (part text from at) (lines bs) t
  by_byte false true line field from at b bs xs ys zs t v le h n p q r =
      ap (λ c. c ∷ map (cell_at text) ys) (here line field from at b bs le h) ∙ ap (λ cs. cell (line + 1) (field + 1) (part text from at) ∷ cs) q ∙ comma_cells line field b (part text from at) (lines bs) v n
  by_byte false false line field from at b bs xs ys zs t v le h n p q r = r ∙ byte_cells line field b (part text from at) (lines bs) v n

  walk_cells : (line field from at : ℕ) (bs : List ℕ) → Closed bs → from ≤ at → drop at text ≡ bs → map (cell_at text) (walk line field from at bs) ≡ rest_of_text line field (part text from at) (lines bs)
  walk_cells line field from at [] c le h = elim c [ ]
  walk_cells line field from at (b ∷ bs) last le h =
      ap (λ c. c ∷ []) (here line field from at 10 [] le h) ∙ ap (λ u. cell (line + 1) (field + 1) u ∷ []) (sym (append-nil (part text from at)))
  walk_cells line field from at (b ∷ bs) (front c) le h =
      let d : drop (at + 1) text ≡ bs = next_drop at b bs h in
      let far : from ≤ at + 1 = omega arith in
      let same : at + 1 ≤ at + 1 = omega arith in
      let empty = no_part (at + 1) in
      by_byte (eqb b 10) (eqb b 44) line field from at b bs _ _ _ refl refl le h (lined bs c)
      (walk_cells (line + 1) 0 (at + 1) (at + 1) bs c same d ∙ ap (λ u. rest_of_text (line + 1) 0 u (lines bs)) empty)
      (walk_cells line (field + 1) (at + 1) (at + 1) bs c same d ∙ ap (λ u. rest_of_text line (field + 1) u (lines bs)) empty)
      (walk_cells line field from (at + 1) bs c far d ∙ ap (λ u. rest_of_text line field u (lines bs)) (next_byte from at b bs le h))

-- the fields at the places of a text are those of its lines
pub places_cells : (text : List ℕ) → unended text ≡ false → map (cell_at text) (places text) ≡ cells 1 (rows text)
places_cells [] h = refl
places_cells (b ∷ bs) h =
    let zero : 0 ≤ 0 = omega arith in
    walk_cells (b ∷ bs) 0 0 0 0 (b ∷ bs) (closed b bs h) zero refl ∙ ap (λ u. rest_of_text 0 0 u (lines (b ∷ bs))) (no_part (b ∷ bs) 0) ∙ whole_text 0 (lines (b ∷ bs))

-- how many they are -------------------------------------------------------------

count_from_is : (line k : ℕ) (fs : List (List ℕ)) (xs : List Cell) → length (cells_from line k fs ++ xs) ≡ length fs + length xs
count_from_is line k [] xs = omega arith
count_from_is line k (f ∷ fs) xs = let e = count_from_is line (k + 1) fs xs in omega arith

count_row : (line : ℕ) (r : Row) (xs : List Cell) → length (row_cells line r ++ xs) ≡ width r + length xs
count_row line (row f fs) xs = let e = count_from_is line 2 fs xs in omega arith

pub cell_count : (line : ℕ) (rs : List Row) → length (cells line rs) ≡ fields_in rs
cell_count line [] = refl
cell_count line (r ∷ rs) = let e = cell_count (line + 1) rs in let k = count_row line r (cells (line + 1) rs) in omega arith
