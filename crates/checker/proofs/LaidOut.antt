-- Rows and places, as they are laid out one after the other. Assumes nothing.
use Rattle.std.proofs.Common.{◌≡◌, ℕ, ◌+◌, ◌<◌, List, [], ◌∷◌, ◌++◌, length, take, set, sym, ap, ◌∙◌, append_assoc}
use Rattle.std.proofs.lemmas.List.{take_more_set}
use Rattle.script.specs.declared.places.Place.{Place}
use Rattle.script.specs.declared.reading.Entry.{Entry}
use Rattle.entries.specs.declared.rows.Row.{Row}
use Rattle.entries.specs.Fields.{lines}
use Rattle.entries.specs.Decoding.{row_of, rows_from}

-- a row more, for the first of the lines that are left
pub row_more : (text : List ℕ) (names : List Place) (at : ℕ) (es line rest : List Entry) (rows : List Row) (n : ℕ) (r : Row) (all : List Row) → lines es ≡ line ∷ lines rest → n < length rows → r ≡ row_of text names at line → take n rows ++ rows_from text names at (lines es) ≡ all → take (n + 1) (set rows n r) ++ rows_from text names (at + length line) (lines rest) ≡ all
row_more text names at es line rest rows n r all c h e p =
    ap (λ (l : List Row). l ++ rows_from text names (at + length line) (lines rest)) (take_more_set rows n r h)
    ∙ append_assoc (take n rows) (r ∷ []) (rows_from text names (at + length line) (lines rest))
    ∙ ap (λ (v : Row). take n rows ++ (v ∷ rows_from text names (at + length line) (lines rest))) e
    ∙ ap (λ (ls : List (List Entry)). take n rows ++ rows_from text names at ls) (sym c)
    ∙ p
