-- One turn of each loop. Assumes nothing.
use Rattle.std.proofs.Common.{suc, not, ◌⊎◌, ◌||◌, inl, inr, ◌≡◌, ℕ, ◌+◌, ◌-◌, ◌*◌, ◌<◌, ◌≤◌, Bool, true, false, cond, ◌&&◌, eqb, leb, List, [], ◌∷◌, length, get_or, take, drop, Some, None, Option, sym, refl, ap, ◌∙◌, arith}
use Rattle.std.proofs.lemmas.List.{at_drop_more, at_drop_all, take_rest, drop-drop, length-drop, get_or-drop}
use Rattle.std.proofs.lemmas.List.Quantifiers.{position-Some}
use Rattle.std.proofs.lemmas.Bool.Decides.{nat_tests}
use Rattle.std.proofs.lemmas.List.Recursion.{is_position_or_len, same_from_clauses}
use Rattle.std.specs.List.{list_all, position, position_or_len}
use Rattle.script.specs.declared.places.Place.{Place}
use Rattle.script.specs.declared.numbers.Number.{Number}
use Rattle.script.specs.Numbers.{digit, most, digits_from, digit_run, before_slash, over, fraction}
use Rattle.script.specs.Tokens.{letter, all_letters}
use Rattle.script.specs.Places.{place, walk, left, ends_field, part, bytes_at}
use Rattle.script.proofs.Found.{none_found, one_found}

-- letters
pub letters_all : (bs : List ℕ) → all_letters bs ≡ list_all letter bs
letters_all bs = same_from_clauses all_letters (list_all letter) (λ b t. letter b && t) refl (λ _ _. refl) (λ _ _. refl) bs

-- digits
module _ (value : ℕ) (bs : List ℕ) (i : ℕ) (within : i < length bs) where
  next : ℕ
  next = value * 10 + (get_or bs i 0 - 48)

  turn : digits_from value (drop i bs) ≡ cond (digit (get_or bs i 0)) (cond (leb next most) (digits_from next (drop (i + 1) bs)) None) None
  unfolding next
  turn = at_drop_more (digits_from value) bs i 0 within

  pub no_digit : (t : Bool) → t ≡ digit (get_or bs i 0) → t ≡ false → digits_from value (drop i bs) ≡ None
  no_digit t p q = let e : digit (get_or bs i 0) ≡ false = cc in turn ∙ rw e

  pub too_large : (t : Bool) → t ≡ digit (get_or bs i 0) → t ≡ true → most < value * 10 + (get_or bs i 0 - 48) → digits_from value (drop i bs) ≡ None
  unfolding next
  too_large t p q h = let e : digit (get_or bs i 0) ≡ true = cc in let f : leb (value * 10 + (get_or bs i 0 - 48)) most ≡ false = grind (arith, nat_tests) in turn ∙ rw (e, f)

  pub one_digit : (t : Bool) → t ≡ digit (get_or bs i 0) → t ≡ true → value * 10 + (get_or bs i 0 - 48) ≤ most → digits_from value (drop i bs) ≡ digits_from (value * 10 + (get_or bs i 0 - 48)) (drop (i + 1) bs)
  unfolding next
  one_digit t p q h = let e : digit (get_or bs i 0) ≡ true = cc in let f : leb (value * 10 + (get_or bs i 0 - 48)) most ≡ true = grind (arith, nat_tests) in turn ∙ rw (e, f)

-- the first slash
slash_is : (bs : List ℕ) → before_slash bs ≡ position_or_len (λ b. eqb b 47) bs
slash_is bs = is_position_or_len before_slash (λ b. eqb b 47) refl (λ b rest. ap (cond (eqb b 47) 0) (omega arith)) bs

-- a number with no slash, and one that its first slash parts, as the code cuts it
pub in_whole : (minus : Bool) (bs : List ℕ) → position (λ b. eqb b 47) bs ≡ None → fraction minus bs ≡ over minus (digit_run bs) (Some 1)
in_whole minus bs h =
    let e : before_slash bs ≡ length bs = slash_is bs ∙ none_found (λ b. eqb b 47) bs h in
    let f : eqb (before_slash bs) (length bs) ≡ true = grind (arith, nat_tests) in
    rw f

pub in_parts : (minus : Bool) (bs : List ℕ) (at : ℕ) (top bottom : Option ℕ) (r : Option Number) → position (λ b. eqb b 47) bs ≡ Some at → top ≡ digit_run (take at bs) → bottom ≡ digit_run (take (length bs - (at + 1)) (drop (at + 1) bs)) → r ≡ over minus top bottom → r ≡ fraction minus bs
in_parts minus bs at top bottom r h t b p =
    let k = one_found (λ b. eqb b 47) bs at h in
    let e : before_slash bs ≡ at = slash_is bs ∙ k.0 in
    let lt = k.1 in
    let b' : bottom ≡ digit_run (drop (at + 1) bs) = b ∙ ap digit_run (take_rest bs (at + 1)) in
    let f : eqb at (length bs) ≡ false = grind (arith, nat_tests) in
    p ∙ rw (t, b', e, f)

-- a walk over bytes that end no field, to the first that ends one
walk_on : (line field from at b : ℕ) (bs : List ℕ) (n m : ℕ) (t : Bool) → ends_field b ≡ t → m ≡ cond (not t) (1 + n) 0 → walk line field from (at + 1) bs ≡ walk line field from (at + 1 + n) (drop n bs) → walk line field from at (b ∷ bs) ≡ walk line field from (at + m) (drop m (b ∷ bs))
walk_on line field from at b bs n m true e f h = let g : at + 0 ≡ at = omega arith in rw (f, g)
walk_on line field from at b bs n m false e f h =
    let p : eqb b 10 ≡ false = grind arith in
    let q : eqb b 44 ≡ false = grind arith in
    let g : at + suc n ≡ at + 1 + n = omega arith in
    let k : m ≡ suc n = omega arith in
    rw (p, q, k, g) h

walk_to : (line field from at : ℕ) (bs : List ℕ) → walk line field from at bs ≡ walk line field from (at + position_or_len ends_field bs) (drop (position_or_len ends_field bs) bs)
walk_to line field from at [] = refl
walk_to line field from at (b ∷ bs) = walk_on line field from at b bs (position_or_len ends_field bs) _ (ends_field b) refl refl (walk_to line field from (at + 1) bs)

ends_of : (b : ℕ) (t : Bool) → eqb b 10 ≡ t → (eqb b 44 || t) ≡ true → (b ≡ 10) ⊎ (b ≡ 44)
ends_of b true e h = inl (grind (arith, nat_tests))
ends_of b false e h = inr (grind (arith, nat_tests))

ends_by : (b : ℕ) → ends_field b ≡ true → (b ≡ 10) ⊎ (b ≡ 44)
ends_by b h = ends_of b (eqb b 10) refl h

module _ (text : List ℕ) (at : ℕ) (rest : List ℕ) (is : rest ≡ drop at text) where
  -- nothing ends a field there
  pub none_left : (line field : ℕ) → position ends_field rest ≡ None → left text line field at ≡ []
  none_left line field h =
      let n = none_found ends_field rest h in
      ap (walk line field at at) (sym is) ∙ walk_to line field at at rest ∙ at_drop_all (walk line field at (at + position_or_len ends_field rest)) rest (position_or_len ends_field rest) (omega arith)

  -- so many bytes stand there before the end of a field
  pub record FieldAt (k : ℕ) : Type 0 where
    pub within : at + k < length text
    pub walks : (line field : ℕ) → left text line field at ≡ walk line field at (at + k) (drop (at + k) text)
    pub ended : (get_or text (at + k) 0 ≡ 10) ⊎ (get_or text (at + k) 0 ≡ 44)

  pub field_at : (k : ℕ) → position ends_field rest ≡ Some k → FieldAt k
  field_at k h =
      let n = one_found ends_field rest k h in
      let l = length-drop at text in
      let m = ap length is in
      let lt = n.1 in
      let there : get_or rest k 0 ≡ get_or text (at + k) 0 = ap (λ xs. get_or xs k 0) is ∙ get_or-drop at text k 0 in
      record {
        within = omega arith;
        walks = λ line field. ap (walk line field at at) (sym is) ∙ walk_to line field at at rest ∙ ap (λ j. walk line field at (at + j) (drop j rest)) n.0 ∙ ap (walk line field at (at + k)) (ap (drop k) is ∙ drop-drop k at text);
        ended = ends_by _ (ap ends_field (sym there) ∙ (position-Some ends_field rest k 0 h).1);
      }

-- a walk over one byte
module _ (line field from : ℕ) (text : List ℕ) (i : ℕ) (within : i < length text) where
  step : walk line field from i (drop i text) ≡ cond (eqb (get_or text i 0) 10)
      (place (line + 1) (field + 1) from i ∷ walk (line + 1) 0 (i + 1) (i + 1) (drop (i + 1) text))
      (cond (eqb (get_or text i 0) 44) (place (line + 1) (field + 1) from i ∷ walk line (field + 1) (i + 1) (i + 1) (drop (i + 1) text)) (walk line field from (i + 1) (drop (i + 1) text)))
  step = at_drop_more (walk line field from i) text i 0 within

  pub walk_plain : (get_or text i 0 ≡ 10 → ⊥) → (get_or text i 0 ≡ 44 → ⊥) → walk line field from i (drop i text) ≡ walk line field from (i + 1) (drop (i + 1) text)
  walk_plain h k =
      let e : eqb (get_or text i 0) 10 ≡ false = grind (arith, nat_tests) in
      let f : eqb (get_or text i 0) 44 ≡ false = grind (arith, nat_tests) in
      step ∙ rw (e, f)

  pub walk_feed : get_or text i 0 ≡ 10 → walk line field from i (drop i text) ≡ (place (line + 1) (field + 1) from i ∷ walk (line + 1) 0 (i + 1) (i + 1) (drop (i + 1) text))
  walk_feed h = let e : eqb (get_or text i 0) 10 ≡ true = grind (arith, nat_tests) in step ∙ rw e

  pub walk_comma : get_or text i 0 ≡ 44 → walk line field from i (drop i text) ≡ (place (line + 1) (field + 1) from i ∷ walk line (field + 1) (i + 1) (i + 1) (drop (i + 1) text))
  walk_comma h =
      let e : eqb (get_or text i 0) 10 ≡ false = grind (arith, nat_tests) in
      let f : eqb (get_or text i 0) 44 ≡ true = grind (arith, nat_tests) in
      step ∙ rw (e, f)

pub walk_all : (line field from : ℕ) (text : List ℕ) (i : ℕ) → length text ≤ i → walk line field from i (drop i text) ≡ []
walk_all line field from text i h = at_drop_all (walk line field from i) text i h

-- the bytes at a place that the text has
pub bytes_within : (text : List ℕ) (p : Place) → p.from ≤ p.to → p.to ≤ length text → part text p.from p.to ≡ bytes_at text p
bytes_within text p h k =
    let e : (leb p.from p.to && leb p.to (length text)) ≡ true = grind (arith, nat_tests) in
    sym (rw e)
