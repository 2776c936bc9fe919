-- What a cursor has still to give. Assumes nothing.
use Rattle.std.proofs.Common.{◌≡◌, ℕ, suc, ◌+◌, ◌≤◌, Bool, true, false, cond, eqb, List, [], ◌∷◌, map, length, Some, None, Option, sym, refl, ap, ◌∙◌, arith}
use Rattle.std.specs.Prelude.{⊤}
use Rattle.std.specs.Iterator.{MakesProgress, item_count}
use Rattle.script.specs.declared.places.Place.{Place}
use Rattle.script.specs.declared.places.Cursor.{Cursor}
use Rattle.script.specs.declared.tokens.Field.{Field}
use Rattle.script.specs.Places.{walk, place, places, left, Classified}
use Rattle.script.specs.Reading.{entry_of, entries}
use Rattle.script.specs.Ahead.{read_as, entries_left, Gives}

-- the places that a cursor over this text has still to give
abbrev pub ahead : List ℕ → Cursor → List Place
ahead text c = left text c.line c.field c.at

no_more : (t u : Bool) (p : Place) (b : ℕ) (bs : List ℕ) (xs ys zs : List Place) → length xs ≤ length bs → length ys ≤ length bs → length zs ≤ length bs → length (cond t (p ∷ xs) (cond u (p ∷ ys) zs)) ≤ length (b ∷ bs)
no_more true u p b bs xs ys zs h k l = omega arith
no_more false true p b bs xs ys zs h k l = omega arith
no_more false false p b bs xs ys zs h k l = omega arith

-- there are no more fields than bytes
pub walk_short : (line field from at : ℕ) (bs : List ℕ) → length (walk line field from at bs) ≤ length bs
walk_short line field from at [] = omega arith
walk_short line field from at (b ∷ bs) =
    no_more (eqb b 10) (eqb b 44) (place (line + 1) (field + 1) from at) b bs _ _ _ (walk_short (line + 1) 0 (at + 1) (at + 1) bs) (walk_short line (field + 1) (at + 1) (at + 1) bs) (walk_short line field from (at + 1) bs)

-- a cursor that gives nothing has nothing more to give
pub gives_nothing : (s : Cursor) (r : Option (Field × Place)) → r ≡ None → left s.text.now s.line s.field s.at ≡ [] → Gives s r s
gives_nothing s r e f =
    let g : entries_left s ≡ [] = ap (map (entry_of s.text.now)) f in
    rw e (record { first = (g, g); text = refl; given = sym f; over = f; field = tt })

-- a cursor that gives a field stands behind it
pub gives_field : (s t : Cursor) (x : Field × Place) → t.text.now ≡ s.text.now → x.1 ∷ left s.text.now t.line t.field t.at ≡ left s.text.now s.line s.field s.at → Classified s.text.now (Some x) → Gives s (Some x) t
gives_field s t x e f c =
    record { first = ap (map (entry_of s.text.now)) (sym f) ∙ rw (c.0, e); text = e; given = f; over = tt; field = c }

pub one_less : (s t : Cursor) (x : Field × Place) → entries_left s ≡ read_as x ∷ entries_left t → MakesProgress {A = Field × Place} (λ _. ⊤) (item_count entries_left) s (Some x) t
one_less s t x e =
    let l : length (entries_left s) ≡ suc (length (entries_left t)) = ap length e in
    record { on = λ _. (tt, tt, omega arith); keeps = tt; rests = λ _. tt }

-- at the beginning of a text
pub entries_at_start : (text : List ℕ) (s : Cursor) → s.text.now ≡ text → left s.text.now s.line s.field s.at ≡ places text → entries_left s ≡ entries text
entries_at_start text s e f = ap (map (entry_of s.text.now)) f ∙ rw e
