-- One turn of the loop over all bytes of a text. Assumes nothing.
use Rattle.std.proofs.Common.{◌≡◌, ℕ, ◌+◌, ◌<◌, ◌≤◌, Bool, true, false, cond, eqb, List, length, get_or, drop, Some, None, Option, sym, refl, ap, ◌∙◌, arith}
use Rattle.std.proofs.lemmas.List.{at_drop_more, at_drop_all}
use Rattle.std.proofs.lemmas.Bool.Decides.{nat_tests}
use Rattle.script.specs.declared.checks.Spot.{Spot}
use Rattle.script.specs.Checks.{sooner, feeds, allowed, stray, spot}
use Rattle.script.specs.Surveys.{noted}

-- what is found first, where a test decides of the first of what is left
pub sooner_by : {A : Type 0} (s : Option A) (t : Bool) (x : Option A) (y : A) → sooner s (cond t x (Some y)) ≡ sooner (sooner s (cond t None (Some y))) x
sooner_by (Some a) t x y = refl
sooner_by None true x y = refl
sooner_by None false x y = refl

pub sooner_none : {A : Type 0} (s : Option A) → s ≡ sooner s None
sooner_none (Some a) = refl
sooner_none None = refl

-- line feeds
module _ (text : List ℕ) (i n : ℕ) (within : i < length text) where
  one : feeds (drop i text) ≡ cond (eqb (get_or text i 0) 10) (feeds (drop (i + 1) text) + 1) (feeds (drop (i + 1) text))
  one = at_drop_more feeds text i 0 within

  pub feed_more : get_or text i 0 ≡ 10 → n + feeds (drop i text) ≡ n + 1 + feeds (drop (i + 1) text)
  feed_more h = let p = one in grind (arith, nat_tests)

  pub feed_same : (get_or text i 0 ≡ 10 → ⊥) → n + feeds (drop i text) ≡ n + feeds (drop (i + 1) text)
  feed_same h = let p = one in grind (arith, nat_tests)

pub feed_all : (text : List ℕ) (i n : ℕ) → length text ≤ i → n + feeds (drop i text) ≡ n
feed_all text i n h = let p : feeds (drop i text) ≡ 0 = at_drop_all feeds text i h in omega arith

-- the first byte that is not allowed
module _ (found : Option Spot) (line field : ℕ) (text : List ℕ) (i : ℕ) (within : i < length text) (after : Option Spot) (is : after ≡ noted found (get_or text i 0) line field) where
  abbrev onward : Option Spot
  onward = cond (eqb (get_or text i 0) 10) (stray (line + 1) 0 (drop (i + 1) text))
      (cond (eqb (get_or text i 0) 44) (stray line (field + 1) (drop (i + 1) text)) (stray line field (drop (i + 1) text)))

  turn : sooner found (stray line field (drop i text)) ≡ sooner after onward
  turn =
      ap (sooner found) (at_drop_more (stray line field) text i 0 within)
      ∙ sooner_by found (allowed (get_or text i 0)) onward (spot (line + 1) (field + 1))
      ∙ ap (λ s. sooner s onward) (sym is)

  pub note_feed : get_or text i 0 ≡ 10 → sooner found (stray line field (drop i text)) ≡ sooner after (stray (line + 1) 0 (drop (i + 1) text))
  note_feed h = let k : eqb (get_or text i 0) 10 ≡ true = grind (arith, nat_tests) in turn ∙ rw k

  pub note_comma : (get_or text i 0 ≡ 10 → ⊥) → get_or text i 0 ≡ 44 → sooner found (stray line field (drop i text)) ≡ sooner after (stray line (field + 1) (drop (i + 1) text))
  note_comma h h' =
      let k : eqb (get_or text i 0) 10 ≡ false = grind (arith, nat_tests) in
      let k' : eqb (get_or text i 0) 44 ≡ true = grind (arith, nat_tests) in
      turn ∙ rw (k, k')

  pub note_plain : (get_or text i 0 ≡ 10 → ⊥) → (get_or text i 0 ≡ 44 → ⊥) → sooner found (stray line field (drop i text)) ≡ sooner after (stray line field (drop (i + 1) text))
  note_plain h h' =
      let k : eqb (get_or text i 0) 10 ≡ false = grind (arith, nat_tests) in
      let k' : eqb (get_or text i 0) 44 ≡ false = grind (arith, nat_tests) in
      turn ∙ rw (k, k')

pub note_all : (found : Option Spot) (line field : ℕ) (text : List ℕ) (i : ℕ) → length text ≤ i → sooner found (stray line field (drop i text)) ≡ found
note_all found line field text i h = ap (sooner found) (at_drop_all (stray line field) text i h) ∙ sym (sooner_none found)
