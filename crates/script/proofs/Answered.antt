-- What follows of a reading from its answer. Assumes nothing.
use Rattle.std.proofs.Common.{◌≡◌, ℕ, false, List, [], ◌∷◌, map, length, take, drop, IfOk, Ok, Err, Result, sym, refl, ap, ◌∙◌, subst, MatchResult}
use Rattle.std.proofs.lemmas.List.{length-map, take_at}
use Rattle.std.specs.List.{AllByRecursion}
use Rattle.script.specs.declared.places.Place.{Place}
use Rattle.script.specs.declared.reading.Entry.{Entry}
use Rattle.script.specs.declared.reading.Draft.{Draft}
use Rattle.script.specs.Refusals.{Refusal}
use Rattle.script.specs.Tokens.{token_of}
use Rattle.script.specs.Places.{places, bytes_at}
use Rattle.script.specs.Lines.{rows, fields_in, written}
use Rattle.script.specs.Checks.{unended}
use Rattle.script.specs.Scan.{cell_at}
use Rattle.script.specs.Reading.{read_of, scan_of, summary, entry_of, entries, filled}
use Rattle.script.specs.Laws.{Told, cell_of, Entered}
use Rattle.script.proofs.Verdict.{told, scan_is_read}
use Rattle.script.proofs.Split.{written_again, places_cells, cell_count}

-- there are as many places as fields
place_count : (text : List ℕ) → unended text ≡ false → length (places text) ≡ fields_in (rows text)
place_count text h = sym (length-map (places text) (cell_at text)) ∙ ap length (places_cells text h) ∙ cell_count 1 (rows text)

entry_cells : (text : List ℕ) (ps : List Place) → map (cell_of text) (map (entry_of text) ps) ≡ map (cell_at text) ps
entry_cells text [] = refl
entry_cells text (p ∷ ps) = ap (λ cs. cell_at text p ∷ cs) (entry_cells text ps)

entry_tokens : (text : List ℕ) (ps : List Place) → AllByRecursion (λ (e : Entry). e.token ≡ token_of (bytes_at text e.place)) (map (entry_of text) ps)
entry_tokens text [] = tt
entry_tokens text (p ∷ ps) = (refl, entry_tokens text ps)

all_entered : (text : List ℕ) → unended text ≡ false → Entered text (entries text)
all_entered text h = record { fields = entry_cells text (places text) ∙ places_cells text h; tokens = entry_tokens text (places text) }

module _ (text : List ℕ) (room : ℕ) where
  pub answer : (r : Result Draft Refusal) → summary r ≡ scan_of text room → summary r ≡ read_of text room
  answer r e = e ∙ scan_is_read text room

  pub rules : (r : Result Draft Refusal) → summary r ≡ scan_of text room → Told text room (summary r)
  rules r e = subst (Told text room) (sym (answer r e)) (told text room)

  pub again : (r : Result Draft Refusal) → summary r ≡ scan_of text room → IfOk r (λ _. written (rows text) ≡ text)
  again (Ok d) e = written_again text (rules (Ok d) e).whole.ended
  again (Err x) e = tt

module _ (text : List ℕ) (table after : List Entry) where
  pub entered : (r : Result Draft Refusal) → summary r ≡ scan_of text (length table) → MatchResult r (λ _. after ≡ filled text table) (λ _. after ≡ table) → IfOk r (λ d. Entered text (take d.fields after))
  entered (Ok d) e a =
      let ok = rules text (length table) (Ok d) e in
      let n : length (entries text) ≡ d.fields = length-map (places text) (entry_of text) ∙ place_count text ok.whole.ended ∙ sym ok.all_fields in
      let t : take d.fields after ≡ entries text = ap (take d.fields) a ∙ take_at (entries text) (drop (length (places text)) table) d.fields n in
      subst (Entered text) (sym t) (all_entered text ok.whole.ended)
  entered (Err x) e a = tt
