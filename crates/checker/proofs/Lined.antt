-- The lines of a text's entries are those of the text. Assumes nothing.
use Rattle.std.proofs.Common.{◌≡◌, ℕ, suc, ◌+◌, ◌≤◌, eqb, List, [], ◌∷◌, ◌++◌, map, length, take, drop, sym, refl, ap, ◌∙◌, arith}
use Rattle.std.proofs.lemmas.List.{take-map, drop-map, take_at, drop_at}
use Rattle.std.proofs.lemmas.Bool.{eq-eqb, ne_eqb, cond-true, cond-false}
use Rattle.script.specs.declared.places.Place.{Place}
use Rattle.script.specs.declared.reading.Entry.{Entry}
use Rattle.script.specs.Places.{places}
use Rattle.script.specs.Lines.{Row, row, rows, Cell, cell, cells_from, cells}
use Rattle.script.specs.Scan.{cell_at}
use Rattle.script.specs.Reading.{entry_of, entries}
use Rattle.script.specs.Laws.{cell_of}
use Rattle.script.proofs.Split.{places_cells}
use Rattle.entries.specs.Fields.{rest_of_line, lines}
use Rattle.checker.specs.Verdict.{number_on, numbered, LinesOfText, LinesNumbered}
use Rattle.checker.proofs.Splits.{lines_split}

pub cells_count : (n k : ℕ) (fs : List (List ℕ)) → length (cells_from n k fs) ≡ length fs
cells_count n k [] = refl
cells_count n k (f ∷ fs) = ap suc (cells_count n (k + 1) fs)

entry_cells : (text : List ℕ) (ps : List Place) → map (cell_of text) (map (entry_of text) ps) ≡ map (cell_at text) ps
entry_cells text [] = refl
entry_cells text (p ∷ ps) = ap (λ (cs : List Cell). cell_at text p ∷ cs) (entry_cells text ps)

module _ (text : List ℕ) where
  -- before the next line
  next_fresh : (n : ℕ) (rs : List Row) (es : List Entry) → map (cell_of text) es ≡ cells n rs → rest_of_line es ≡ 0
  next_fresh n rs [] e = refl
  next_fresh n [] (x ∷ es) e = cc
  next_fresh n (row f fs ∷ rs) (x ∷ es) e =
      let q : cell_of text x ≡ cell n 1 f = cc in
      cond-true (eqb x.place.field 1) _ _ (eq-eqb x.place.field 1 (ap (λ (c : Cell). c.field) q))

  -- so many fields are left of a line
  rest_is : (n k : ℕ) (fs : List (List ℕ)) (rs : List Row) (es : List Entry) → 2 ≤ k → map (cell_of text) es ≡ cells_from n k fs ++ cells (n + 1) rs → rest_of_line es ≡ length fs
  rest_is n k [] rs es h e = next_fresh (n + 1) rs es e
  rest_is n k (f ∷ fs) rs [] h e = cc
  rest_is n k (f ∷ fs) rs (x ∷ es) h e =
      let q : cell_of text x ≡ cell n k f = cc in
      let t : map (cell_of text) es ≡ cells_from n (k + 1) fs ++ cells (n + 1) rs = cc in
      let d : x.place.field ≡ k = ap (λ (c : Cell). c.field) q in
      let r : rest_of_line es ≡ length fs = rest_is n (k + 1) fs rs es (omega arith) t in
      cond-false (eqb x.place.field 1) _ _ (ne_eqb x.place.field 1 (λ z. omega arith)) ∙ omega arith

  by_lines : (n : ℕ) (rs : List Row) (es : List Entry) → map (cell_of text) es ≡ cells n rs → map (map (cell_of text)) (lines es) ≡ numbered n rs
  by_lines n [] [] e = refl
  by_lines n [] (x ∷ es) e = cc
  by_lines n (row f fs ∷ rs) [] e = cc
  by_lines n (row f fs ∷ rs) (x ∷ es) e =
      let q : cell_of text x ≡ cell n 1 f = cc in
      let t : map (cell_of text) es ≡ cells_from n 2 fs ++ cells (n + 1) rs = cc in
      let m : rest_of_line es ≡ length fs = rest_is n 2 fs rs es (omega arith) t in
      let c : length (cells_from n 2 fs) ≡ rest_of_line es = cells_count n 2 fs ∙ sym m in
      let a : map (cell_of text) (take (rest_of_line es) es) ≡ cells_from n 2 fs = sym (take-map (cell_of text) (rest_of_line es) es) ∙ ap (take (rest_of_line es)) t ∙ take_at (cells_from n 2 fs) (cells (n + 1) rs) (rest_of_line es) c in
      let b : map (cell_of text) (drop (rest_of_line es) es) ≡ cells (n + 1) rs = sym (drop-map (cell_of text) (rest_of_line es) es) ∙ ap (drop (rest_of_line es)) t ∙ drop_at (cells_from n 2 fs) (cells (n + 1) rs) (rest_of_line es) c in
      ap (map (map (cell_of text))) (lines_split x es)
      ∙ ap (λ (y : Cell). (y ∷ map (cell_of text) (take (rest_of_line es) es)) ∷ map (map (cell_of text)) (lines (drop (rest_of_line es) es))) q
      ∙ ap (λ (ys : List Cell). (cell n 1 f ∷ ys) ∷ map (map (cell_of text)) (lines (drop (rest_of_line es) es))) a
      ∙ ap (λ (ls : List (List Cell)). (cell n 1 f ∷ cells_from n 2 fs) ∷ ls) (by_lines (n + 1) rs (drop (rest_of_line es) es) b)

  -- the number of a line
  number_in : (n m : ℕ) (rs : List Row) (before : List (List Entry)) (l : List Entry) (after : List (List Entry)) → m ≡ length before + n → map (map (cell_of text)) (before ++ l ∷ after) ≡ numbered n rs → number_on l ≡ m
  number_in n m [] [] l after q e = cc
  number_in n m [] (x ∷ xs) l after q e = cc
  number_in n m (row f fs ∷ rs) [] [] after q e = cc
  number_in n m (row f fs ∷ rs) [] (x ∷ l) after q e =
      let c : cell_of text x ≡ cell n 1 f = cc in
      ap (λ (y : Cell). y.line) c ∙ omega arith
  number_in n m (row f fs ∷ rs) (x ∷ xs) l after q e =
      let t : map (map (cell_of text)) (xs ++ l ∷ after) ≡ numbered (n + 1) rs = cc in
      number_in (n + 1) m rs xs l after (omega arith) t

pub lines_of_text : LinesOfText
lines_of_text text h = by_lines text 1 (rows text) (entries text) (entry_cells text (places text) ∙ places_cells text h)

pub lines_numbered : LinesNumbered
lines_numbered text h before l after s = number_in text 1 (length before + 1) (rows text) before l after refl (ap (map (map (cell_of text))) (sym s) ∙ lines_of_text text h)
