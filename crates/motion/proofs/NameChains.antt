-- The rule on chains of names is the rule of no walk of five names.
use Rattle.std.proofs.Common.{◌≡◌, ℕ, zero, suc, ◌<◌, ◌≤◌, Bool, true, false, cond, ◌||◌, eqb, ◌⊎◌, List, [], ◌∷◌, length, sym, refl, ap, subst, inl, inr, arith, eqb-true}
use borrow.Author.Tests.{eqb-false, clash}
use Rattle.std.proofs.lemmas.Bool.{or_parts, or_from}
use Rattle.number.specs.Frac.{Frac}
use Rattle.motion.specs.Lines.{Part, Rate, var}
use Rattle.motion.specs.Chains.{Has, has, has_behind, Names, names, names_behind, Depends, Walk, alone, onto, among}
use Rattle.motion.specs.Stretches.{fall, four, five}
use Rattle.motion.specs.NameChains.{Chain, single, link, Different, last, Returns, Breaks, BreaksRule, ChainsRuled, RuleKept, RepeatsAlike, circle_one, circle_two, ChainExamples}
use Rattle.motion.proofs.Chains.{shallow_told}

-- the names before the first x
abbrev before : ℕ → List ℕ → List ℕ
before x [] = []
before x (y ∷ ys) = cond (eqb x y) [] (y ∷ before x ys)

none_before : (x : ℕ) (ys : List ℕ) → among x (before x ys) ≡ false
none_before x [] = refl
none_before x (y ∷ ys) = by (eqb x y) refl (none_before x ys)
  where
    by : (b : Bool) → eqb x y ≡ b → among x (before x ys) ≡ false → among x (cond b [] (y ∷ before x ys)) ≡ false
    by true e ih = refl
    by false e ih = or_from (eqb x y) (among x (before x ys)) e ih

still_none : (z x : ℕ) (ys : List ℕ) → among z ys ≡ false → among z (before x ys) ≡ false
still_none z x [] e = refl
still_none z x (y ∷ ys) e = let (p, q) = or_parts (eqb z y) (among z ys) e in by (eqb x y) p (still_none z x ys q)
  where
    by : (b : Bool) → eqb z y ≡ false → among z (before x ys) ≡ false → among z (cond b [] (y ∷ before x ys)) ≡ false
    by true p ih = refl
    by false p ih = or_from (eqb z y) (among z (before x ys)) p ih

still_different : (x : ℕ) (ys : List ℕ) → Different ys → Different (before x ys)
still_different x [] d = tt
still_different x (y ∷ ys) (n, d) = by (eqb x y) (still_none y x ys n) (still_different x ys d)
  where
    by : (b : Bool) → among y (before x ys) ≡ false → Different (before x ys) → Different (cond b [] (y ∷ before x ys))
    by true n d = tt
    by false n d = (n, d)

-- a chain of different names that returns
abbrev Circle : List Rate → Type 0
Circle rs = (xs : List ℕ) × Different xs × (Chain rs xs × Returns rs xs)

module _ {rs : List Rate} where
  chain_rated : {x : ℕ} {xs : List ℕ} → Chain rs (x ∷ xs) → (ps : List Part) × Has x ps rs
  chain_rated (single {ps = ps} h) = (ps, h)
  chain_rated (link d c) = (d.parts, d.rated)

  -- From a chain to a walk: along it, or round it for ever.
  along : (k : ℕ) {x : ℕ} {xs : List ℕ} → Chain rs (x ∷ xs) → k ≤ length xs → Walk rs (suc k) x
  along zero c h = alone (chain_rated c).1
  along (suc k) (single g) h = absurd (omega arith)
  along (suc k) (link d c) h = onto d (along k c (omega arith))

  round : {x : ℕ} {xs : List ℕ} → Chain rs (x ∷ xs) → Depends rs (last x xs) x →
      (k : ℕ) {z : ℕ} {zs : List ℕ} → Chain rs (z ∷ zs) → Depends rs (last z zs) x → Walk rs (suc k) z
  round c b zero e f = alone (chain_rated e).1
  round c b (suc k) (single h) f = onto f (round c b k c b)
  round c b (suc k) (link d e) f = onto d (round c b k e f)

  broken_walk : (xs : List ℕ) → Breaks rs xs → (x : ℕ) × Walk rs 5 x
  broken_walk [] (c, b) = elim c [ ]
  broken_walk (x ∷ xs) (c, inl b) = (x, round c b 4 c b)
  broken_walk (x ∷ xs) (c, inr h) = (x, along 4 c (omega arith))

  -- From a walk to its names, which are different or have a circle among them.
  walked : (k : ℕ) {x : ℕ} → Walk rs (suc k) x → (xs : List ℕ) × Chain rs (x ∷ xs) × (length xs ≡ k)
  walked zero (alone h) = ([], single h, refl)
  walked zero (onto d w) = elim w [ ]
  walked (suc k) (onto {y = y} d w) = let (ys, c, e) = walked k w in (y ∷ ys, link d c, ap suc e)

  cut : {z x : ℕ} {ys : List ℕ} → Chain rs (z ∷ ys) → among x ys ≡ true → Chain rs (z ∷ before x ys) × Depends rs (last z (before x ys)) x
  cut (single h) e = absurd (clash e)
  cut {z} {x} (link {y = y} {ys = ys} d c) e = by (eqb x y) refl e (cut c)
    where
      by : (b : Bool) → eqb x y ≡ b → (b || among x ys) ≡ true → (among x ys ≡ true → Chain rs (y ∷ before x ys) × Depends rs (last y (before x ys)) x) →
          Chain rs (z ∷ cond b [] (y ∷ before x ys)) × Depends rs (last z (cond b [] (y ∷ before x ys))) x
      by true i e ih = (single d.rated, subst (Depends rs z) (sym (eqb-true x y i)) d)
      by false i e ih = let (c', f) = ih e in (link d c', f)

  circle_or : {x : ℕ} {xs : List ℕ} → Chain rs (x ∷ xs) → Different (x ∷ xs) ⊎ Circle rs
  circle_or (single h) = inl (refl, tt)
  circle_or (link {x = x} {y = y} {ys = ys} d c) = by (circle_or c)
    where
      by_among : (b : Bool) → among x (y ∷ ys) ≡ b → Different (y ∷ ys) → Different (x ∷ y ∷ ys) ⊎ Circle rs
      by_among true e n = inr (x ∷ before x (y ∷ ys), (none_before x (y ∷ ys), still_different x (y ∷ ys) n), cut (link d c) e)
      by_among false e n = inl (e, n)

      by : Different (y ∷ ys) ⊎ Circle rs → Different (x ∷ y ∷ ys) ⊎ Circle rs
      by (inl n) = by_among (among x (y ∷ ys)) refl n
      by (inr z) = inr z

  walk_broken : (x : ℕ) → Walk rs 5 x → BreaksRule rs
  walk_broken x w = let (xs, c, e) = walked 4 w in by xs c e (circle_or c)
    where
      by : (xs : List ℕ) → Chain rs (x ∷ xs) → length xs ≡ 4 → Different (x ∷ xs) ⊎ Circle rs → BreaksRule rs
      by xs c e (inl n) = (x ∷ xs, n, (c, inr (omega arith)))
      by xs c e (inr (zs, n, (c', r))) = (zs, n, (c', inl r))

pub chains_ruled : ChainsRuled
chains_ruled rs = ((λ (xs, n, b). broken_walk xs b), walk_broken)

pub rule_kept : RuleKept
rule_kept rs = ((λ h b. let (x, w) = (chains_ruled rs).0 b in h x w), λ h x w. h (walk_broken x w))

pub repeats_alike : RepeatsAlike
repeats_alike rs = ((λ (xs, n, b). (xs, b)), λ (xs, b). let (x, w) = broken_walk xs b in walk_broken x w)

-- The chain of five names: each depends on the next only, so none returns.
named_var : {y z : ℕ} {c : Frac} → Names y (record { coefficient = c; of = var z } ∷ []) → y ≡ z
named_var names = refl
named_var (names_behind n) = elim n [ ]

five_next : {x y : ℕ} {ps : List Part} → Has x ps five → Names y ps → y ≡ suc x
five_next has n = named_var n
five_next (has_behind has) n = named_var n
five_next (has_behind (has_behind has)) n = named_var n
five_next (has_behind (has_behind (has_behind has))) n = named_var n
five_next (has_behind (has_behind (has_behind (has_behind has)))) (names_behind n) = elim n [ ]
five_next (has_behind (has_behind (has_behind (has_behind (has_behind h))))) n = elim h [ ]

five_rises : {x : ℕ} {xs : List ℕ} → Chain five (x ∷ xs) → x ≤ last x xs
five_rises (single h) = omega arith
five_rises (link d c) = omega (arith, five_next d.rated d.named, five_rises c)

five_open : (xs : List ℕ) → Chain five xs → Returns five xs → ⊥
five_open [] c d = d
five_open (x ∷ xs) c d = omega (arith, five_next d.rated d.named, five_rises c)

-- The circles: a chain has no more different names than there are rates.
circle_one_rated : {x : ℕ} {ps : List Part} → Has x ps circle_one → x ≡ 0
circle_one_rated has = refl
circle_one_rated (has_behind h) = elim h [ ]

circle_one_short : (xs : List ℕ) → Chain circle_one xs → Different xs → length xs ≤ 1
circle_one_short [] c n = omega arith
circle_one_short (x ∷ []) c n = omega arith
circle_one_short (x ∷ y ∷ zs) (link d c) (n, m) =
    let q : x ≡ y = omega (arith, circle_one_rated d.rated, circle_one_rated d.other) in
    absurd (eqb-false x y (or_parts (eqb x y) (among x zs) n).0 q)

circle_two_rated : {x : ℕ} {ps : List Part} → Has x ps circle_two → x < 2
circle_two_rated has = omega arith
circle_two_rated (has_behind has) = omega arith
circle_two_rated (has_behind (has_behind h)) = elim h [ ]

circle_two_short : (xs : List ℕ) → Chain circle_two xs → Different xs → length xs ≤ 2
circle_two_short [] c n = omega arith
circle_two_short (x ∷ []) c n = omega arith
circle_two_short (x ∷ y ∷ []) c n = omega arith
circle_two_short (x ∷ y ∷ z ∷ zs) (link d (link e c)) (n, m) =
    let (p, q) = or_parts (eqb x y) (among x (z ∷ zs)) n in
    let r = eqb-false x y p in
    let s = eqb-false x z (or_parts (eqb x z) (among x zs) q).0 in
    let t = eqb-false y z (or_parts (eqb y z) (among y zs) m.0).0 in
    omega (arith, r, s, t, circle_two_rated d.rated, circle_two_rated e.rated, circle_two_rated e.other)

-- The chains themselves.
depends : {rs : List Rate} {x y : ℕ} {ps qs : List Part} → Has x ps rs → Names y ps → Has y qs rs → Depends rs x y
depends {ps = ps} {qs = qs} h n g = record { parts = ps; rated = h; named = n; others = qs; other = g }

-- the rates at the places 1 to 4
at_1 : {r : Rate} {rs : List Rate} {x : ℕ} {ps : List Part} → Has x ps (r ∷ record { name = x; parts = ps } ∷ rs)
at_1 = has_behind has

at_2 : {r s : Rate} {rs : List Rate} {x : ℕ} {ps : List Part} → Has x ps (r ∷ s ∷ record { name = x; parts = ps } ∷ rs)
at_2 = has_behind at_1

at_3 : {r s t : Rate} {rs : List Rate} {x : ℕ} {ps : List Part} → Has x ps (r ∷ s ∷ t ∷ record { name = x; parts = ps } ∷ rs)
at_3 = has_behind at_2

at_4 : {r s t u : Rate} {rs : List Rate} {x : ℕ} {ps : List Part} → Has x ps (r ∷ s ∷ t ∷ u ∷ record { name = x; parts = ps } ∷ rs)
at_4 = has_behind at_3

five_chain : Chain five (0 ∷ 1 ∷ 2 ∷ 3 ∷ 4 ∷ [])
five_chain = link (depends has names at_1) (link (depends at_1 names at_2) (link (depends at_2 names at_3) (link (depends at_3 names at_4) (single at_4))))

one_round : Chain circle_one (0 ∷ []) × Returns circle_one (0 ∷ [])
one_round = (single has, depends has names has)

two_round : Chain circle_two (0 ∷ 1 ∷ []) × Returns circle_two (0 ∷ 1 ∷ [])
two_round = (link (depends has names at_1) (single at_1), depends at_1 names has)

pub chain_examples : ChainExamples
chain_examples = record {
  fall_chain = link (depends has names at_1) (single at_1);
  fall_keeps = (rule_kept fall).0 ((shallow_told fall).1 refl);
  four_chain = link (depends has names at_1) (link (depends at_1 names at_2) (link (depends at_2 names at_3) (single at_3)));
  four_keeps = (rule_kept four).0 ((shallow_told four).1 refl);
  five_chain = five_chain;
  five_breaks = (0 ∷ 1 ∷ 2 ∷ 3 ∷ 4 ∷ [], (refl, (refl, (refl, (refl, (refl, tt))))), (five_chain, inr (omega arith)));
  five_open = five_open;
  circle_one_chain = one_round;
  circle_one_breaks = (0 ∷ [], (refl, tt), (one_round.0, inl one_round.1));
  circle_one_short = circle_one_short;
  circle_two_chain = two_round;
  circle_two_breaks = (0 ∷ 1 ∷ [], (refl, (refl, tt)), (two_round.0, inl two_round.1));
  circle_two_short = circle_two_short;
}
