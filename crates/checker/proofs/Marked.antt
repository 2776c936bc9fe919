-- Sets of names as they are marked, and the parts that touch them. Assumes nothing.
use Rattle.std.proofs.Common.{◌≡◌, ℕ, zero, suc, Bool, true, false, not, ◌||◌, eqb, List, [], ◌∷◌, ◌++◌, length, get_or, replicate, Option, sym, refl, ap, ◌∙◌, arith}
use Rattle.std.proofs.lemmas.Bool.Decides.{nat_tests}
use Rattle.std.specs.List.{list_any}
use Rattle.script.specs.declared.reading.Entry.{Entry}
use Rattle.motion.specs.Chains.{among, touch, touches}
use Rattle.entries.specs.Decoding.{parts_of, factor_of}
use Rattle.checker.specs.Chains.{is_empty, Marks}

pub none_there : (n x : ℕ) → get_or (replicate n false) x false ≡ false
none_there zero x = refl
none_there (suc n) zero = refl
none_there (suc n) (suc x) = none_there n x

-- the parts of a rate, two entries at a time
module _ (level : List ℕ) where
  pub touch_two : (b : Bool) (es rest two : List Entry) (xs others pair : List (Option ℕ)) (d : Entry) (x : Option ℕ) → es ≡ two ++ rest → xs ≡ pair ++ others → length two ≡ 2 → length pair ≡ 2 → b ≡ touch level (factor_of (get_or two 1 d).token (get_or pair 1 x)) → touches level (parts_of es xs) ≡ (b || touches level (parts_of rest others))
  touch_two b es rest [] xs others pair d x p q n m h = absurd (omega arith)
  touch_two b es rest (c ∷ []) xs others pair d x p q n m h = absurd (omega arith)
  touch_two b es rest (c ∷ e ∷ k ∷ two) xs others pair d x p q n m h = absurd (omega arith)
  touch_two b es rest (c ∷ e ∷ []) xs others [] d x p q n m h = absurd (omega arith)
  touch_two b es rest (c ∷ e ∷ []) xs others (y ∷ []) d x p q n m h = absurd (omega arith)
  touch_two b es rest (c ∷ e ∷ []) xs others (y ∷ z ∷ w ∷ pair) d x p q n m h = absurd (omega arith)
  touch_two b es rest (c ∷ e ∷ []) xs others (y ∷ z ∷ []) d x p q n m h =
      ap (λ (l : List Entry). touches level (parts_of l xs)) p
      ∙ ap (λ (l : List (Option ℕ)). touches level (parts_of (c ∷ e ∷ rest) l)) q
      ∙ ap (λ (v : Bool). v || touches level (parts_of rest others)) (sym h)

-- one is marked
self_among : (y : ℕ) (ys : List ℕ) → among y (y ∷ ys) ≡ true
self_among y ys = let e : eqb y y ≡ true = grind (arith, nat_tests) in rw e

module _ (e : Bool → Bool) (yes : e true ≡ true) (no : e false ≡ false) where
  none_any : (bs : List Bool) → ((x : ℕ) → get_or bs x false ≡ false) → list_any e bs ≡ false
  none_any [] h = refl
  none_any (b ∷ bs) h = let p : b ≡ false = h 0 in rw (p, no) (none_any bs (λ x. h (suc x)))

  one_any : (bs : List Bool) (x : ℕ) → get_or bs x false ≡ true → list_any e bs ≡ true
  one_any [] x h = cc
  one_any (b ∷ bs) zero h = let p : b ≡ true = h in rw (p, yes)
  one_any (b ∷ bs) (suc x) h = let p : list_any e bs ≡ true = one_any bs x h in grind (arith, nat_tests)

  pub any_marked : (bs : List Bool) (xs : List ℕ) → Marks bs xs → list_any e bs ≡ not (is_empty xs)
  any_marked bs [] m = none_any bs m
  any_marked bs (y ∷ ys) m = one_any bs y (m y ∙ self_among y ys)

-- marked are all of these but those that are left
abbrev pub Marking : List Bool → List ℕ → List ℕ → Type 0
Marking level left all = (x : ℕ) → (get_or level x false || among x left) ≡ among x all
