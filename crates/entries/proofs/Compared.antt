-- Entries compared with those of a text, one after the other. Assumes nothing.
use Rattle.std.proofs.Common.{◌≡◌, ℕ, ◌+◌, ◌<◌, Bool, false, ◌&&◌, List, ◌∷◌, length, get_or, drop, sym, ap, ◌∙◌, subst, inl, inr}
use Rattle.std.proofs.lemmas.List.{at_drop_more}
use Rattle.std.proofs.lemmas.Bool.{cases_Bool}
use Rattle.script.specs.declared.tokens.Field.{Field}
use Rattle.script.specs.declared.tokens.Token.{Token}
use Rattle.script.specs.declared.places.Place.{Place}
use Rattle.script.specs.declared.reading.Entry.{Entry}
use Rattle.script.specs.Tokens.{token_of, token_in}
use Rattle.script.specs.Places.{bytes_at}
use Rattle.script.specs.Reading.{entry_of}
use Rattle.entries.specs.Tables.{same_entry, same_table}
use Rattle.entries.proofs.Owned.{entries_same}

-- a field, as the cursor gave it over the text `t`
module _ (text t : List ℕ) (its : t ≡ text) (before after : List ℕ → List Place) (p : Place) (field : Field) (given : p ∷ after t ≡ before t) (said : token_in field ≡ token_of (bytes_at t p)) where
  entry_there : record { place = p; token = token_in field } ≡ entry_of text p
  entry_there = ap (λ (k : Token). record { place = p; token = k }) (said ∙ ap (λ (s : List ℕ). token_of (bytes_at s p)) its)

  module _ (es : List Entry) (i : ℕ) (d : Entry) (more : i < length es) where
    same_turn : same_table text (before text) (drop i es) ≡ (same_entry (entry_of text p) (get_or es i d) && same_table text (after text) (drop (i + 1) es))
    same_turn =
        ap (λ (l : List Place). same_table text l (drop i es)) (sym (subst (λ (s : List ℕ). p ∷ after s ≡ before s) its given))
        ∙ at_drop_more (λ (l : List Entry). same_table text (p ∷ after text) l) es i d more

    pub same_on : get_or es i d ≡ record { place = p; token = token_in field } → same_table text (before text) (drop i es) ≡ same_table text (after text) (drop (i + 1) es)
    same_on e = same_turn ∙ ap (λ (b : Bool). b && same_table text (after text) (drop (i + 1) es)) ((entries_same (entry_of text p) (get_or es i d)).1 (sym (e ∙ entry_there)))

    pub same_off : (get_or es i d ≡ record { place = p; token = token_in field } → ⊥) → same_table text (before text) (drop i es) ≡ false
    same_off k =
        let f : same_entry (entry_of text p) (get_or es i d) ≡ false = elim (cases_Bool (same_entry (entry_of text p) (get_or es i d))) [
          | inl t ↦ absurd (k (sym ((entries_same (entry_of text p) (get_or es i d)).0 t) ∙ sym entry_there))
          | inr f ↦ f
        ] in
        same_turn ∙ ap (λ (b : Bool). b && same_table text (after text) (drop (i + 1) es)) f
