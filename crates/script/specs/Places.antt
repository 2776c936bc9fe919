-- The fields of a text and their places, as a cursor gives them. Assumes nothing.
use Rattle.std.specs.Prelude.{◌≡◌, ℕ, ◌+◌, Bool, cond, ◌&&◌, ◌||◌, List, [], ◌∷◌, length, drop, Some, None, Option, ◌==◌, nat_le, slice_range}
use Rattle.script.specs.declared.tokens.Field.{Field}
use Rattle.script.specs.declared.places.Place.{Place}
use Rattle.script.specs.Tokens.{token_of, token_in, bytes_in}

-- a comma or a line feed
abbrev pub ends_field : ℕ → Bool
ends_field b = b == 44 || b == 10

abbrev pub place : ℕ → ℕ → ℕ → ℕ → Place
place line field from to = record { line = line; field = field; from = from; to = to }

-- The places of the fields that end among these bytes: `line` lines and `field` fields of this line are before,
-- the field under way began at `from`, and the first of the bytes stands at `at`.
abbrev pub walk : ℕ → ℕ → ℕ → ℕ → List ℕ → List Place
walk line field from at [] = []
walk line field from at (b ∷ bs) = cond (b == 10)
    (place (line + 1) (field + 1) from at ∷ walk (line + 1) 0 (at + 1) (at + 1) bs)
    (cond (b == 44) (place (line + 1) (field + 1) from at ∷ walk line (field + 1) (at + 1) (at + 1) bs) (walk line field from (at + 1) bs))

-- the places that a cursor has still to give: it stands at `at`, after `line` lines and `field` fields of this line
abbrev pub left : List ℕ → ℕ → ℕ → ℕ → List Place
left text line field at = walk line field at at (drop at text)

-- the places of all fields of a text, in order
abbrev pub places : List ℕ → List Place
places text = left text 0 0 0

-- so many bytes of a text, from there on
abbrev pub part : List ℕ → ℕ → ℕ → List ℕ
part text from to = slice_range text from to

-- the bytes at a place; none, where the text has no such place
abbrev pub bytes_at : List ℕ → Place → List ℕ
bytes_at text p = cond (nat_le p.from p.to && nat_le p.to (length text)) (part text p.from p.to) []

-- what a cursor had to give, by what it gave and what it has still to give
abbrev pub yielded : Option (Field × Place) → List Place → List Place
yielded (Some x) rest = x.1 ∷ rest
yielded None rest = []

-- a cursor that gave nothing has nothing more to give
abbrev pub Over : Option (Field × Place) → List Place → Type 0
Over (Some x) rest = Unit {0}
Over None rest = rest ≡ []

-- a field that was given is the part of the text at its place, and is what these bytes are
abbrev pub Classified : List ℕ → Option (Field × Place) → Type 0
Classified text (Some x) = (token_in x.0 ≡ token_of (bytes_at text x.1)) × (bytes_in x.0 ≡ bytes_at text x.1)
Classified text None = Unit {0}
