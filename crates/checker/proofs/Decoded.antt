-- The lines that rows stand for are those of the entries. Assumes nothing.
use Rattle.std.proofs.Common.{◌≡◌, ℕ, zero, suc, ◌+◌, ◌-◌, Bool, true, false, cond, List, [], ◌∷◌, ◌++◌, map, length, take, drop, Option, sym, refl, ap, ◌∙◌, arith}
use Rattle.std.proofs.lemmas.List.{drop-drop, drop-map, take-map}
use Rattle.script.specs.declared.words.LineWord.{LineWord}
use Rattle.script.specs.declared.places.Place.{Place}
use Rattle.script.specs.declared.reading.Entry.{Entry}
use Rattle.motion.specs.Lines.{Line}
use Rattle.entries.specs.Fields.{fresh, onto, lines, first_word, head_of, second_place}
use Rattle.entries.specs.Decoding.{place_at, place_of, before_items, line_by, line_of, part, row_by, rows_from, row_line, rows_lines}

-- the entries of all lines, one after the other
abbrev pub flat : List (List Entry) → List Entry
flat [] = []
flat (l ∷ ls) = l ++ flat ls

flat_onto : (e : Entry) (ls : List (List Entry)) → flat (onto e ls) ≡ e ∷ flat ls
flat_onto e [] = refl
flat_onto e (l ∷ ls) = refl

pub flat_lines : (es : List Entry) → flat (lines es) ≡ es
flat_lines [] = refl
flat_lines (e ∷ es) = by (fresh es) ∙ ap (λ (l : List Entry). e ∷ l) (flat_lines es)
  where
    by : (b : Bool) → flat (cond b ((e ∷ []) ∷ lines es) (onto e (lines es))) ≡ e ∷ flat (lines es)
    by true = refl
    by false = flat_onto e (lines es)

pub line_joined : (es line rest : List Entry) → lines es ≡ line ∷ lines rest → es ≡ line ++ rest
line_joined es line rest h = sym (flat_lines es) ∙ ap flat h ∙ ap (λ (l : List Entry). line ++ l) (flat_lines rest)

-- a line cut out of what begins with it
whole : (l r : List Entry) → take (length l) (l ++ r) ≡ l
whole [] r = refl
whole (x ∷ l) r = ap (λ (m : List Entry). x ∷ m) (whole l r)

take_nothing : (n : ℕ) (xs : List Entry) → n ≡ 0 → take n xs ≡ []
take_nothing n xs e = ap (λ (k : ℕ). take k xs) e

cut : (k : ℕ) (l r : List Entry) → take (length l - k) (drop k (l ++ r)) ≡ drop k l
cut zero l r = let e : length l - 0 ≡ length l = omega arith in ap (λ (n : ℕ). take n (l ++ r)) e ∙ whole l r
cut (suc k) [] r = take_nothing (0 - suc k) (drop (suc k) r) (omega arith)
cut (suc k) (x ∷ l) r = let e : suc (length l) - suc k ≡ length l - k = omega arith in ap (λ (n : ℕ). take n (drop k (l ++ r))) e ∙ cut k l r

behind : (l r : List Entry) → drop (length l) (l ++ r) ≡ r
behind [] r = refl
behind (x ∷ l) r = behind l r

module _ (text : List ℕ) (names : List Place) (es : List Entry) where
  part_line : (at k : ℕ) (l r : List Entry) → drop at es ≡ l ++ r → part (at + k) (at + length l) es ≡ drop k l
  part_line at k l r e =
      let n : at + length l - (at + k) ≡ length l - k = omega arith in
      ap (λ (m : ℕ). take m (drop (at + k) es)) n
      ∙ ap (take (length l - k)) (sym (drop-drop k at es) ∙ ap (drop k) e)
      ∙ cut k l r

  part_places : (from to : ℕ) → part from to (map (place_of text names) es) ≡ map (place_of text names) (part from to es)
  part_places from to = ap (take (to - from)) (drop-map (place_of text names) from es) ∙ take-map (place_of text names) (to - from) (drop from es)

  by_row : (w : LineWord) (x : Option ℕ) (at : ℕ) (l r : List Entry) → drop at es ≡ l ++ r → row_line es (map (place_of text names) es) (row_by w x at (length l)) ≡ line_by w x (drop (before_items w) l) (map (place_of text names) (drop (before_items w) l))
  by_row w x at l r e =
      let p : part (at + before_items w) (at + length l) es ≡ drop (before_items w) l = part_line at (before_items w) l r e in
      ap (λ (m : List Entry). line_by w x m (part (at + before_items w) (at + length l) (map (place_of text names) es))) p
      ∙ ap (λ (m : List (Option ℕ)). line_by w x (drop (before_items w) l) m) (part_places (at + before_items w) (at + length l) ∙ ap (map (place_of text names)) p)

  rows_decoded : (at : ℕ) (ls : List (List Entry)) → drop at es ≡ flat ls → rows_lines es (map (place_of text names) es) (rows_from text names at ls) ≡ map (line_of text names) ls
  rows_decoded at [] e = refl
  rows_decoded at (l ∷ ls) e =
      let n : drop (at + length l) es ≡ flat ls = sym (drop-drop (length l) at es) ∙ ap (drop (length l)) e ∙ behind l (flat ls) in
      ap (λ (v : Line). v ∷ rows_lines es (map (place_of text names) es) (rows_from text names (at + length l) ls)) (by_row (first_word (head_of l).token) (place_at text names (second_place l)) at l (flat ls) e)
      ∙ ap (λ (vs : List Line). line_of text names l ∷ vs) (rows_decoded (at + length l) ls n)

  -- the lines that the rows of these entries stand for, over the entries and their places, are those of the entries
  pub decoded : rows_lines es (map (place_of text names) es) (rows_from text names 0 (lines es)) ≡ map (line_of text names) (lines es)
  decoded = rows_decoded 0 (lines es) (sym (flat_lines es))
