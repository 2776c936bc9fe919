-- One turn of each loop over entries or places. Assumes nothing.
use Rattle.std.proofs.Common.{◌≡◌, ℕ, ◌+◌, ◌<◌, ◌≤◌, Bool, true, false, cond, ◌||◌, eqb, List, [], ◌∷◌, length, get_or, drop, find, Some, option_map, refl, arith}
use Rattle.std.proofs.lemmas.List.{at_drop_more, at_drop_all}
use Rattle.std.proofs.lemmas.Bool.Decides.{nat_tests}
use Rattle.script.specs.declared.reading.Entry.{Entry}
use Rattle.entries.specs.Fields.{rest_of_line, first_field}

-- a test decides between two
pub on_true : {A : Type 0} (x y : A) (b : Bool) → b ≡ true → cond b x y ≡ x
on_true x y b p = rw p

pub on_false : {A : Type 0} (x y : A) (b : Bool) → b ≡ false → cond b x y ≡ y
on_false x y b p = rw p

-- the end of a line
module _ (es : List Entry) (i : ℕ) (d : Entry) where
  pub line_more : i < length es → ((get_or es i d).place.field ≡ 1 → ⊥) → i + rest_of_line (drop i es) ≡ i + 1 + rest_of_line (drop (i + 1) es)
  line_more h e =
      let p : rest_of_line (drop i es) ≡ cond (eqb (get_or es i d).place.field 1) 0 (rest_of_line (drop (i + 1) es) + 1) = at_drop_more rest_of_line es i d h in
      grind (arith, nat_tests)

  pub line_here : i < length es → (get_or es i d).place.field ≡ 1 → i + rest_of_line (drop i es) ≡ i
  line_here h e =
      let p : rest_of_line (drop i es) ≡ cond (eqb (get_or es i d).place.field 1) 0 (rest_of_line (drop (i + 1) es) + 1) = at_drop_more rest_of_line es i d h in
      grind (arith, nat_tests)

pub line_none : (es : List Entry) (i : ℕ) → length es ≤ i → i + rest_of_line (drop i es) ≡ i
line_none es i h = let p : rest_of_line (drop i es) ≡ 0 = at_drop_all rest_of_line es i h in omega arith

-- the first that passes, found by the library
pub found_field : (test : Entry → Bool) (es : List Entry) → option_map (λ e. e.place.field) (find test es) ≡ first_field test es
found_field test [] = refl
found_field test (e ∷ es) = by (test e) (found_field test es)
  where
    by : (b : Bool) → option_map (λ (d : Entry). d.place.field) (find test es) ≡ first_field test es → option_map (λ (d : Entry). d.place.field) (cond b (Some e) (find test es)) ≡ cond b (Some e.place.field) (first_field test es)
    by true h = refl
    by false h = h

pub or_true : (b c : Bool) → b ≡ true → (b || c) ≡ true
or_true b c p = rw p

pub or_false : (b c : Bool) → b ≡ false → (b || c) ≡ c
or_false b c p = rw p
