-- Piles of sorts as what waits. Assumes nothing.
use Rattle.std.proofs.Common.{◌≡◌, ℕ, ◌+◌, ◌<◌, List, [], ◌∷◌, ◌++◌, length, reverse, get_or, take, drop, Some, None, Option, sym, refl, ap, ◌∙◌}
use Rattle.std.specs.Bool.{Decides}
use Rattle.std.proofs.lemmas.List.{at_drop_more, reverse-append, reverse-reverse}
use Rattle.std.proofs.Math.Seq.{take-append_seam}
use denote.Enum.Bare.{sameb, same_true, true_same}
use Rattle.script.specs.declared.reading.Entry.{Entry}
use Rattle.entries.specs.contracts.sorts.Sort.{the_type}
use Rattle.entries.specs.declared.sorts.Sort.{Sort}
use Rattle.entries.specs.declared.sorts.Sort.TheVariants.{Number, Truth}
use Rattle.entries.specs.Sorts.{of_sorts, after_item, after_items, and_then}

-- what `==` says of two sorts
pub sorts_same : (s t : Sort) → Decides (sameb the_type s t) (s ≡ t)
sorts_same s t = (same_true the_type tt s t, true_same the_type s t)

-- operands on top give way, and others do not
gave : (os : List Sort) (s : Sort) (rest : List Sort) → of_sorts os s (os ++ rest) ≡ Some (s ∷ rest)
gave [] s rest = refl
gave (Number ∷ os) s rest = gave os s rest
gave (Truth ∷ os) s rest = gave os s rest

stood : (os : List Sort) (s : Sort) (waits : List Sort) → ((rest : List Sort) → waits ≡ os ++ rest → ⊥) → of_sorts os s waits ≡ None
stood [] s waits h = absurd (h waits refl)
stood (Number ∷ os) s [] h = refl
stood (Number ∷ os) s (Truth ∷ waits) h = refl
stood (Number ∷ os) s (Number ∷ waits) h = stood os s waits (λ rest e. h rest (ap (λ (l : List Sort). Number ∷ l) e))
stood (Truth ∷ os) s [] h = refl
stood (Truth ∷ os) s (Number ∷ waits) h = refl
stood (Truth ∷ os) s (Truth ∷ waits) h = stood os s waits (λ rest e. h rest (ap (λ (l : List Sort). Truth ∷ l) e))

module _ (items operands : List Sort) (s : Sort) where
  pub given : (front new : List Sort) → items ≡ front ++ operands → new ≡ take (length front) items ++ s ∷ [] → Some (reverse new) ≡ of_sorts (reverse operands) s (reverse items)
  given front new e n =
      ap (λ (l : List Sort). Some (reverse l)) (n ∙ ap (λ (l : List Sort). l ++ s ∷ []) (ap (take (length front)) e ∙ take-append_seam front operands))
      ∙ ap Some (reverse-append front (s ∷ []))
      ∙ sym (gave (reverse operands) s (reverse front))
      ∙ ap (of_sorts (reverse operands) s) (sym (ap reverse e ∙ reverse-append front operands))

  pub not_given : ((front : List Sort) → items ≡ front ++ operands → ⊥) → None ≡ of_sorts (reverse operands) s (reverse items)
  not_given h = sym (stood (reverse operands) s (reverse items) (λ rest e. h (reverse rest)
      (sym (reverse-reverse items) ∙ ap reverse e ∙ reverse-append (reverse operands) rest ∙ ap (λ (l : List Sort). reverse rest ++ l) (reverse-reverse operands))))

-- one item more
pub turn : (es : List Entry) (i : ℕ) (d : Entry) (waits : List Sort) (o : Option (List Sort)) → i < length es → o ≡ after_item (get_or es i d).token waits → after_items (drop i es) waits ≡ and_then o (after_items (drop (i + 1) es))
turn es i d waits o h e =
    at_drop_more (λ (xs : List Entry). after_items xs waits) es i d h ∙ ap (λ (v : Option (List Sort)). and_then v (after_items (drop (i + 1) es))) (sym e)
