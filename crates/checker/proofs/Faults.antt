-- Each line passes, or its first fault is told; so of lines in a row. Assumes nothing.
use Rattle.std.proofs.Common.{◌≡◌, ℕ, Bool, true, false, cond, not, List, [], ◌∷◌, ◌++◌, Some, None, Ok, Err, Option, Result, refl, ap, ◌∙◌}
use Rattle.std.proofs.lemmas.Bool.{and_parts, and_from, not-false, not_from_true, cond-true, cond-false}
use Rattle.std.specs.List.{list_all}
use Rattle.script.specs.declared.places.Place.{Place}
use Rattle.script.specs.declared.reading.Entry.{Entry}
use Rattle.script.specs.Places.{bytes_at}
use Rattle.script.specs.Checks.{and_then}
use Rattle.number.specs.declared.Pair.{Pair}
use Rattle.number.specs.Frac.{Frac}
use Rattle.checker.specs.Refusals.{Refusal}
use Rattle.checker.specs.declared.lines.Past.{Past}
use Rattle.entries.specs.Fields.{second_place, not_held, unheld}
use Rattle.checker.specs.Conditions.{variable, after_var, first_unknown, after_rate, after_block, items_wrong, line_check, lines_check}
use Rattle.checker.specs.Verdict.{word_on, number_on, uses, upward, declared_above, open_above, var_wrong, all_declared, rate_wrong, block_wrong, all_held, Right, Fault, by_9, by_10, by_11, by_12, by_13, by_14, Passing}
use Rattle.checker.proofs.Passing.{passes_line}
use Rattle.checker.proofs.Above as above
use Rattle.checker.proofs.Above.{Knows, first_bad}

-- in a row: all pass, or there is a first that does not
module _ {A : Type 0} (ok : A → Bool) (field : A → ℕ) where
  none_bad : (xs : List A) → list_all ok xs ≡ true → first_bad ok field xs ≡ None
  none_bad [] h = refl
  none_bad (x ∷ xs) h =
      let b = and_parts (ok x) (list_all ok xs) h in
      let t : ok x ≡ true = b.0 in
      rw t (none_bad xs b.1)

  bad_at : (before : List A) (x : A) (after : List A) → list_all ok before ≡ true → ok x ≡ false → first_bad ok field (before ++ x ∷ after) ≡ Some (field x)
  bad_at [] x after h u = rw u
  bad_at (y ∷ ys) x after h u =
      let b = and_parts (ok y) (list_all ok ys) h in
      let t : ok y ≡ true = b.0 in
      rw t (bad_at ys x after b.1 u)

data Sift {A : Type 0} (ok : A → Bool) (xs : List A) : Type 0 where
  all_ok : list_all ok xs ≡ true → Sift ok xs
  first_not : (before : List A) (x : A) (after : List A) → xs ≡ before ++ x ∷ after → list_all ok before ≡ true → ok x ≡ false → Sift ok xs

sift : {A : Type 0} (ok : A → Bool) (xs : List A) → Sift ok xs
sift ok [] = all_ok refl
sift {A} ok (x ∷ xs) = by (ok x) refl (sift ok xs)
  where
    onto : ok x ≡ true → Sift ok xs → Sift ok (x ∷ xs)
    onto t (all_ok h) = all_ok (and_from (ok x) (list_all ok xs) t h)
    onto t (first_not before y after e h u) = first_not (x ∷ before) y after (ap (λ (l : List A). x ∷ l) e) (and_from (ok x) (list_all ok before) t h) u

    by : (b : Bool) → ok x ≡ b → Sift ok xs → Sift ok (x ∷ xs)
    by true t s = onto t s
    by false t s = first_not [] x xs refl refl t

-- one line ------------------------------------------------------------------------

module _ (means : Pair → Option Frac) (code : Frac → Option Pair) where
  abbrev holds : Entry → Bool
  holds e = not (not_held means code e.token)

  by_held : (es : List Entry) → unheld means code es ≡ first_bad holds (λ (e : Entry). e.place.field) es
  by_held [] = refl
  by_held (e ∷ es) = go (not_held means code e.token) (by_held es)
    where
      go : (b : Bool) → unheld means code es ≡ first_bad holds (λ (e : Entry). e.place.field) es → cond b (Some e.place.field) (unheld means code es) ≡ cond (not b) (first_bad holds (λ (e : Entry). e.place.field) es) (Some e.place.field)
      go true ih = refl
      go false ih = ih

  module _ (text : List ℕ) (us : List (List Entry)) (p : Past) (k : Knows text us p) (l : List Entry) where
    abbrev after : Past
    after = above.nested text us p k (number_on l) l (word_on l)

    abbrev named : Past
    named = above.named text us p k (number_on l) l (word_on l)

    abbrev rated : Past
    rated = above.rated text us p k (number_on l) l (word_on l) (variable text p (second_place l))

    var_ok : var_wrong text us (word_on l) l ≡ false → after_var text p (word_on l) (number_on l) (second_place l) ≡ Ok named
    var_ok h = above.by_var text us p k (number_on l) l (word_on l) ∙ cond-false _ _ _ h

    declared_ok : all_declared text us (uses (word_on l) l) ≡ true → first_unknown text named (word_on l) l ≡ None
    declared_ok h = above.by_uses text us p k (number_on l) l (word_on l) ∙ none_bad _ _ (uses (word_on l) l) h

    held_ok : all_held means code l ≡ true → unheld means code l ≡ None
    held_ok h = by_held l ∙ none_bad _ _ l h

    rate_ok : all_declared text us (uses (word_on l) l) ≡ true → rate_wrong text us (word_on l) l ≡ false → after_rate named (word_on l) (number_on l) (variable text named (second_place l)) ≡ Ok rated
    rate_ok d h = above.by_rate text us p k (number_on l) l (word_on l) d ∙ cond-false _ _ _ h

    block_ok : block_wrong (word_on l) (open_above us) ≡ false → after_block rated (word_on l) (number_on l) ≡ Ok after
    block_ok h = above.by_block text us p k (number_on l) l (word_on l) ∙ cond-false _ _ _ h

    pub right_is : Right means code text us l → line_check means code text p l ≡ Ok after
    right_is h = passes_line means code text p (word_on l) (number_on l) l after (record {
      named = named;
      rated = rated;
      var_in_place = var_ok h.var_placed;
      declared = declared_ok h.declared;
      held = held_ok h.held;
      rate_in_place = rate_ok h.declared h.rate_placed;
      nested = block_ok h.nested;
      items = h.items;
    })

    pub right_knows : Right means code text us l → Knows text (l ∷ us) after
    right_knows h = above.knows_more text us p k (number_on l) l (word_on l) h.var_placed h.declared h.rate_placed h.nested

    pub fault_is : (e : Refusal) → Fault means code text us l e → line_check means code text p l ≡ Err e
    fault_is e (by_9 h) =
        let a : after_var text p (word_on l) (number_on l) (second_place l) ≡ Err e = above.by_var text us p k (number_on l) l (word_on l) ∙ cond-true _ _ _ h in
        rw a
    fault_is e (by_10 v before field at behind s h u) =
        let a = var_ok v in
        let b : first_unknown text named (word_on l) l ≡ Some field = above.by_uses text us p k (number_on l) l (word_on l) ∙ ap (above.first_use text us p k (number_on l) l) s ∙ bad_at _ _ before (field, at) behind h u in
        rw (a, b)
    fault_is e (by_11 v d before x behind s h u) =
        let a = var_ok v in
        let b = declared_ok d in
        let c : unheld means code l ≡ Some x.place.field = by_held l ∙ ap (first_bad holds (λ (e : Entry). e.place.field)) s ∙ bad_at _ _ before x behind h (not_from_true _ u) in
        rw (a, b, c)
    fault_is e (by_12 v d h r) =
        let a = var_ok v in
        let b = declared_ok d in
        let c = held_ok h in
        let f : after_rate named (word_on l) (number_on l) (variable text named (second_place l)) ≡ Err e = above.by_rate text us p k (number_on l) l (word_on l) d ∙ cond-true _ _ _ r in
        rw (a, b, c, f)
    fault_is e (by_13 v d h r m) =
        let a = var_ok v in
        let b = declared_ok d in
        let c = held_ok h in
        let f = rate_ok d r in
        let g : after_block rated (word_on l) (number_on l) ≡ Err e = above.by_block text us p k (number_on l) l (word_on l) ∙ cond-true _ _ _ m in
        rw (a, b, c, f, g)
    fault_is e (by_14 v d h r m i) =
        let a = var_ok v in
        let b = declared_ok d in
        let c = held_ok h in
        let f = rate_ok d r in
        let g = block_ok m in
        rw (a, b, c, f, g, i)

  module _ (text : List ℕ) where
    -- a line passes, or it has a fault
    data LineJudged (us : List (List Entry)) (l : List Entry) : Type 0 where
      in_order : Right means code text us l → LineJudged us l
      at_fault : (e : Refusal) → Fault means code text us l e → LineJudged us l

    module _ (us : List (List Entry)) (l : List Entry) where
      on_items : (b : Bool) → items_wrong (word_on l) l ≡ b → var_wrong text us (word_on l) l ≡ false → all_declared text us (uses (word_on l) l) ≡ true → all_held means code l ≡ true → rate_wrong text us (word_on l) l ≡ false → block_wrong (word_on l) (open_above us) ≡ false → LineJudged us l
      on_items true i v d h r m = at_fault _ (by_14 v d h r m i)
      on_items false i v d h r m = in_order (record { var_placed = v; declared = d; held = h; rate_placed = r; nested = m; items = i })

      on_block : (b : Bool) → block_wrong (word_on l) (open_above us) ≡ b → var_wrong text us (word_on l) l ≡ false → all_declared text us (uses (word_on l) l) ≡ true → all_held means code l ≡ true → rate_wrong text us (word_on l) l ≡ false → LineJudged us l
      on_block true m v d h r = at_fault _ (by_13 v d h r m)
      on_block false m v d h r = on_items (items_wrong (word_on l) l) refl v d h r m

      on_rate : (b : Bool) → rate_wrong text us (word_on l) l ≡ b → var_wrong text us (word_on l) l ≡ false → all_declared text us (uses (word_on l) l) ≡ true → all_held means code l ≡ true → LineJudged us l
      on_rate true r v d h = at_fault _ (by_12 v d h r)
      on_rate false r v d h = on_block (block_wrong (word_on l) (open_above us)) refl v d h r

      on_numbers : Sift holds l → var_wrong text us (word_on l) l ≡ false → all_declared text us (uses (word_on l) l) ≡ true → LineJudged us l
      on_numbers (first_not before e behind s h u) v d = at_fault _ (by_11 v d before e behind s h (not-false _ u))
      on_numbers (all_ok h) v d = on_rate (rate_wrong text us (word_on l) l) refl v d h

      on_names : Sift (λ (u : ℕ × Place). declared_above text us (bytes_at text u.1)) (uses (word_on l) l) → var_wrong text us (word_on l) l ≡ false → LineJudged us l
      on_names (first_not before x behind s h u) v = at_fault _ (by_10 v before x.0 x.1 behind s h u)
      on_names (all_ok d) v = on_numbers (sift holds l) v d

      on_var : (b : Bool) → var_wrong text us (word_on l) l ≡ b → LineJudged us l
      on_var true v = at_fault _ (by_9 v)
      on_var false v = on_names (sift _ (uses (word_on l) l)) v

      judge : LineJudged us l
      judge = on_var (var_wrong text us (word_on l) l) refl

    -- lines in a row --------------------------------------------------------------------

    pub all_right_is : (us : List (List Entry)) (p : Past) → Knows text us p → (ls : List (List Entry)) → Passing means code text us ls → (q : Past) × (lines_check means code text p ls ≡ Ok q) × Knows text (upward us ls) q
    all_right_is us p k [] h = (p, refl, k)
    all_right_is us p k (l ∷ ls) h =
        let a = all_right_is (l ∷ us) (after text us p k l) (right_knows text us p k l h.0) ls h.1 in
        (a.0, ap (λ (r : Result Past Refusal). and_then r (λ (q : Past). lines_check means code text q ls)) (right_is text us p k l h.0) ∙ a.1, a.2)

    pub fault_in : (us : List (List Entry)) (p : Past) → Knows text us p → (before : List (List Entry)) (l : List Entry) (behind : List (List Entry)) (e : Refusal) → Passing means code text us before → Fault means code text (upward us before) l e → lines_check means code text p (before ++ l ∷ behind) ≡ Err e
    fault_in us p k [] l behind e h f = ap (λ (r : Result Past Refusal). and_then r (λ (q : Past). lines_check means code text q behind)) (fault_is text us p k l e f)
    fault_in us p k (m ∷ ms) l behind e h f =
        ap (λ (r : Result Past Refusal). and_then r (λ (q : Past). lines_check means code text q (ms ++ l ∷ behind))) (right_is text us p k m h.0)
        ∙ fault_in (m ∷ us) (after text us p k m) (right_knows text us p k m h.0) ms l behind e h.1 f

    -- all lines pass, or there is a first that does not
    pub data GoneThrough (us ls : List (List Entry)) : Type 0 where
      clear : Passing means code text us ls → GoneThrough us ls
      broken : (before : List (List Entry)) (l : List Entry) (behind : List (List Entry)) (e : Refusal) → ls ≡ before ++ l ∷ behind → Passing means code text us before → Fault means code text (upward us before) l e → GoneThrough us ls

    onto : (us : List (List Entry)) (l : List Entry) (ls : List (List Entry)) → Right means code text us l → GoneThrough (l ∷ us) ls → GoneThrough us (l ∷ ls)
    onto us l ls h (clear a) = clear (h, a)
    onto us l ls h (broken before m behind e s a f) = broken (l ∷ before) m behind e (ap (λ (ms : List (List Entry)). l ∷ ms) s) (h, a) f

    by_judge : (us : List (List Entry)) (l : List Entry) (ls : List (List Entry)) → LineJudged us l → GoneThrough (l ∷ us) ls → GoneThrough us (l ∷ ls)
    by_judge us l ls (in_order h) g = onto us l ls h g
    by_judge us l ls (at_fault e f) g = broken [] l ls e refl tt f

    pub go_through : (us ls : List (List Entry)) → GoneThrough us ls
    go_through us [] = clear tt
    go_through us (l ∷ ls) = by_judge us l ls (judge us l) (go_through (l ∷ us) ls)
