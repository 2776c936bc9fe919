-- A table that is the same as the text's entries is made of them. Assumes nothing.
use Rattle.std.proofs.Common.{◌≡◌, ℕ, true, eqb, List, map, sym, refl, ap, rules}
use Rattle.std.specs.Bool.{Decides}
use Rattle.std.proofs.lemmas.Bool.{eqb-true, and_parts, and_from}
use Rattle.std.proofs.lemmas.Slice.Eq.{slice_eq-Decides}
use denote.Enum.Bare.{sameb, same_true, true_same}
use Rattle.script.specs.contracts.words.LineWord as line_word
use Rattle.script.specs.declared.words.LineWord.{LineWord}
use Rattle.script.specs.declared.words.Word.{Word}
use Rattle.script.specs.declared.tokens.Token.{Token}
use Rattle.script.specs.declared.numbers.Number.{Number}
use Rattle.script.specs.declared.places.Place.{Place}
use Rattle.script.specs.declared.reading.Entry.{Entry}
use Rattle.script.specs.Reading.{entry_of}
use Rattle.entries.specs.Tables.{same_word, same_number, same_token, same_place, same_entry, same_table}

line_words : (v w : LineWord) → Decides (sameb line_word.the_type v w) (v ≡ w)
line_words v w = (same_true line_word.the_type tt v w, true_same line_word.the_type v w)

places_same : (p q : Place) → Decides (same_place p q) (p ≡ q)
places_same p q = search rules

tokens_same : (s t : Token) → Decides (same_token s t) (s ≡ t)
tokens_same s t = search rules

numbers_same : (s t : Number) → Decides (same_number s t) (s ≡ t)
numbers_same s t = search rules

words_same : (s t : Word) → Decides (same_word s t) (s ≡ t)
words_same s t = search rules

pub entries_same : (d e : Entry) → Decides (same_entry d e) (d ≡ e)
entries_same d e = (there, back)
  where
    there : same_entry d e ≡ true → d ≡ e
    there h =
        let a = and_parts (same_place d.place e.place) (same_token d.token e.token) h in
        let x : d.place ≡ e.place = (places_same d.place e.place).0 a.0 in
        let y : d.token ≡ e.token = (tokens_same d.token e.token).0 a.1 in
        let r : ◌≡◌ {A = Entry} (record { place = d.place; token = d.token }) (record { place = e.place; token = e.token }) = cc in
        r

    back : d ≡ e → same_entry d e ≡ true
    back h = and_from (same_place d.place e.place) (same_token d.token e.token)
        ((places_same d.place e.place).1 (ap (λ (x : Entry). x.place) h))
        ((tokens_same d.token e.token).1 (ap (λ (x : Entry). x.token) h))

-- a table that is the same as the text's entries is these entries, one for one
pub table_own : (text : List ℕ) (ps : List Place) (es : List Entry) → same_table text ps es ≡ true → es ≡ map (entry_of text) ps
table_own text ps es h = sym ((slice_eq-Decides entries_same (map (entry_of text) ps) es (same_table text ps es) refl).0 h)

-- and the text's entries are the same as themselves
pub table_same : (text : List ℕ) (ps : List Place) → same_table text ps (map (entry_of text) ps) ≡ true
table_same text ps = (slice_eq-Decides entries_same (map (entry_of text) ps) (map (entry_of text) ps) (same_table text ps (map (entry_of text) ps)) refl).1 refl

pub same_code : (m n : ℕ) → eqb m n ≡ true → m ≡ n
same_code m n h = eqb-true m n h
