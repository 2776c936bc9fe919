-- What a cursor has still to give, as entries. Assumes nothing.
use Rattle.std.specs.Prelude.{◌≡◌, List, map, Option}
use Rattle.std.specs.Iterator.{YieldsFirstBy}
use Rattle.script.specs.declared.tokens.Field.{Field}
use Rattle.script.specs.declared.places.Place.{Place}
use Rattle.script.specs.declared.places.Cursor.{Cursor}
use Rattle.script.specs.declared.reading.Entry.{Entry}
use Rattle.script.specs.Tokens.{token_in}
use Rattle.script.specs.Places.{left, yielded, Classified, Over}
use Rattle.script.specs.Reading.{entry_of}

-- a field that a cursor gave, as an entry
abbrev pub read_as : Field × Place → Entry
read_as x = record { place = x.1; token = token_in x.0 }

-- the entries of the fields that a cursor has still to give
abbrev pub entries_left : Cursor → List Entry
entries_left c = map (entry_of c.text.now) (left c.text.now c.line c.field c.at)

-- a cursor that stood as `s` gives this and then stands as `t`: over the same text, with the others still to give
pub record Gives (s : Cursor) (r : Option (Field × Place)) (t : Cursor) : Type 0 where
  pub first : YieldsFirstBy read_as entries_left s r t
  pub text : t.text.now ≡ s.text.now
  pub given : yielded r (left s.text.now t.line t.field t.at) ≡ left s.text.now s.line s.field s.at
  pub over : Over r (left s.text.now t.line t.field t.at)
  pub field : Classified s.text.now r
