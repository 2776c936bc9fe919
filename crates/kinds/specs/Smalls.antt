-- The laws of the kind of small whole numbers, and what its code computes.
use Rattle.std.specs.Prelude.{◌≡◌, ◌<◌, ◌≤◌, cond, ◌&&◌, T, ◌⊎◌, ℤ, pos, negsuc, ◌-ℤ◌, nat_abs, Some, None, Ok, Err, Option, Result, FitsSigned, ◌==◌, ◌≢◌, nat_le, refl}
use Rattle.std.proofs.Common.{sym, ap, ap₂, subst, ◌∙◌, inl, inr, arith, leb→le, le→leb, eqb→eq}
use Rattle.std.specs.Int.{w64}
use Rattle.std.proofs.lemmas.Int.{ints, to_z-of_z}
use Rattle.number.specs.declared.Pair.{Pair}
use Rattle.number.specs.declared.Fault.{Fault}
use Rattle.number.specs.declared.Fault.TheVariants.{NotHeld}
use Rattle.number.specs.Frac.{Frac, norm, whole}
use Rattle.number.specs.Kind.{Holds, held, taken, in_terms, of_one}
use Rattle.number.proofs.Fracs.{frac_same, whole_is}
use Rattle.number.proofs.Ops.{b64}
use Rattle.number.proofs.Tests.{two_t, join_t, is_true, chosen}
use Rattle.kinds.specs.Small.{marked, is_small, small_of, small_pair}
use Rattle.kinds.specs.Lowest.{Lowest}

abbrev pair_at : ℤ → Pair
pair_at z = record { a = pos 7; b = pos 3 -ℤ z }

twice : (z : ℤ) → pos 3 -ℤ (pos 3 -ℤ z) ≡ z
twice z = omega (arith, ints)

-- 3 - z, as the code computes it
pub shifted : (z : ℤ) → FitsSigned w64 z → nat_abs z ≤ 2000 → b64 (pos 3 -ℤ b64 z) ≡ pos 3 -ℤ z
shifted z f h =
    let g : FitsSigned w64 (pos 3 -ℤ z) = omega (arith, ints) in
    ap (λ x. b64 (pos 3 -ℤ x)) (to_z-of_z w64 z f) ∙ to_z-of_z w64 (pos 3 -ℤ z) g

-- ---- the pair of a fraction
code_some : (q : Frac) → q.den ≡ 1 → nat_abs q.num ≤ 1000 → small_pair q ≡ Some (pair_at q.num)
unfolding small_pair
code_some q e h =
    ap (λ b. cond b (Some (pair_at q.num)) None) (is_true _ (join_t (q.den == 1) (nat_le (nat_abs q.num) 1000) (subst (λ n. T (n == 1)) (sym e) tt) (le→leb _ _ h)))

code_from : (q : Frac) (p : Pair) → small_pair q ≡ Some p → (q.den ≡ 1) × (nat_abs q.num ≤ 1000) × (pair_at q.num ≡ p)
unfolding small_pair
code_from q p e =
    let c = chosen (q.den == 1 && nat_le (nat_abs q.num) 1000) (pair_at q.num) p e in
    let t = two_t (q.den == 1) (nat_le (nat_abs q.num) 1000) c.0 in
    (eqb→eq q.den 1 t.0, leb→le _ _ t.1, c.1)

code_none : (q : Frac) → ((q.den ≢ 1) ⊎ (1000 < nat_abs q.num)) → Err NotHeld ≡ held (small_pair q)
code_none q h = by (small_pair q) refl h
  where
    by : (o : Option Pair) → small_pair q ≡ o → ((q.den ≢ 1) ⊎ (1000 < nat_abs q.num)) → Err NotHeld ≡ held o
    by None e h = refl
    by (Some p) e (inl h) = absurd (h (code_from q p e).0)
    by (Some p) e (inr h) = absurd (omega (arith, (code_from q p e).1))

-- ---- the fraction of a pair
mark_is : (a : ℤ) → T (marked a) → a ≡ pos 7
mark_is (pos n) t = ap pos (eqb→eq n 7 t)
mark_is (negsuc n) t = absurd t

means_some : (p : Pair) → p.a ≡ pos 7 → nat_abs (pos 3 -ℤ p.b) ≤ 1000 → small_of p ≡ Some (whole (pos 3 -ℤ p.b))
unfolding small_of
means_some p e h =
    ap (λ b. cond b (Some (whole (pos 3 -ℤ p.b))) None) (is_true _ (join_t (marked p.a) (nat_le (nat_abs (pos 3 -ℤ p.b)) 1000) (subst (λ a. T (marked a)) (sym e) tt) (le→leb _ _ h)))

means_from : (p : Pair) (q : Frac) → small_of p ≡ Some q → (p.a ≡ pos 7) × (nat_abs (pos 3 -ℤ p.b) ≤ 1000) × (whole (pos 3 -ℤ p.b) ≡ q)
unfolding small_of
means_from p q e =
    let c = chosen (is_small p) (whole (pos 3 -ℤ p.b)) q e in
    let t = two_t (marked p.a) (nat_le (nat_abs (pos 3 -ℤ p.b)) 1000) c.0 in
    (mark_is p.a t.0, leb→le _ _ t.1, c.1)

-- ---- the laws
whole_of : (q : Frac) → q.den ≡ 1 → whole q.num ≡ q
whole_of q e = let w = whole_is q.num in frac_same _ q w.0 (w.1 ∙ sym e)

back : (q : Frac) (p : Pair) → small_pair q ≡ Some p → small_of p ≡ Some q
back q p e =
    let c = code_from q p e in
    let z : ℤ = q.num in
    subst (λ (r : Pair). small_of r ≡ Some q) c.2
    (means_some (pair_at z) refl (subst (λ x. nat_abs x ≤ 1000) (sym (twice z)) c.1) ∙ ap Some (ap whole (twice z) ∙ whole_of q c.0))

forth : (p : Pair) (q : Frac) → small_of p ≡ Some q → small_pair q ≡ Some p
forth p q e =
    let m = means_from p q e in
    let z : ℤ = pos 3 -ℤ p.b in
    let w = whole_is z in
    let n : q.num ≡ z = sym (ap (λ (r : Frac). r.num) m.2) ∙ w.0 in
    let d : q.den ≡ 1 = sym (ap (λ (r : Frac). r.den) m.2) ∙ w.1 in
    code_some q d (subst (λ x. nat_abs x ≤ 1000) (sym n) m.1) ∙ ap₂ (λ x y. Some (record { a = x; b = y })) (sym m.0) (ap (λ x. pos 3 -ℤ x) n ∙ twice p.b)

wholes : (z : ℤ) → nat_abs z ≤ 1000 → (p : Pair) × (small_pair (whole z) ≡ Some p)
wholes z h =
    let w = whole_is z in
    (pair_at (whole z).num, code_some (whole z) w.1 (subst (λ x. nat_abs x ≤ 1000) (sym w.0) h))

small : (q : Frac) (p : Pair) → small_pair q ≡ Some p → (nat_abs q.num ≤ 2147483647) × (q.den ≤ 2147483647)
small q p e = let c = code_from q p e in (omega (arith, c.1), omega (arith, c.0))

pub smalls_held : Holds small_of small_pair
smalls_held = record { back = back; forth = forth; wholes = wholes; small = small }

-- ---- taking
module _ (n d : ℤ) (p : Pair) (L : Lowest n d p) where
  pub take_no : ((p.b ≢ pos 1) ⊎ (1000 < nat_abs p.a)) → Err NotHeld ≡ taken small_of small_pair n d
  take_no h = by h ∙ sym (L.taken_by small_of small_pair)
    where
      by : ((p.b ≢ pos 1) ⊎ (1000 < nat_abs p.a)) → Err NotHeld ≡ held (small_pair (norm n (nat_abs d)))
      by (inl h) = code_none (norm n (nat_abs d)) (inl (λ e. h (sym L.den ∙ ap pos e)))
      by (inr h) = code_none (norm n (nat_abs d)) (inr (subst (λ x. 1000 < nat_abs x) (sym L.num) h))

  pub take_yes : (b : ℤ) → p.b ≡ pos 1 → nat_abs p.a ≤ 1000 → b ≡ pos 3 -ℤ p.a → Ok (record { a = pos 7; b = b }) ≡ taken small_of small_pair n d
  take_yes b e h eb =
      let one : (norm n (nat_abs d)).den ≡ 1 = ap nat_abs (L.den ∙ e) in
      ap (λ x. Ok (record { a = pos 7; b = x })) (eb ∙ ap (λ x. pos 3 -ℤ x) (sym L.num))
      ∙ ap held (sym (code_some (norm n (nat_abs d)) one (subst (λ x. nat_abs x ≤ 1000) (sym L.num) h))) ∙ sym (L.taken_by small_of small_pair)

-- ---- lowest terms
pub terms_no : (p : Pair) → ((p.a ≢ pos 7) ⊎ (1000 < nat_abs (pos 3 -ℤ p.b))) → Err NotHeld ≡ in_terms small_of p
terms_no p h = by (small_of p) refl h
  where
    by : (o : Option Frac) → small_of p ≡ o → ((p.a ≢ pos 7) ⊎ (1000 < nat_abs (pos 3 -ℤ p.b))) → ◌≡◌ {A = Result (ℤ × ℤ) Fault} (Err NotHeld) (of_one (λ x. Ok (x.num, pos x.den)) o)
    by None e h = refl
    by (Some q) e (inl h) = absurd (h (means_from p q e).0)
    by (Some q) e (inr h) = absurd (omega (arith, (means_from p q e).1))

pub terms_yes : (p : Pair) (a : ℤ) → p.a ≡ pos 7 → nat_abs (pos 3 -ℤ p.b) ≤ 1000 → a ≡ pos 3 -ℤ p.b → Ok (a, pos 1) ≡ in_terms small_of p
terms_yes p a e h ea =
    let w = whole_is (pos 3 -ℤ p.b) in
    ap₂ (λ x y. Ok (x, pos y)) (ea ∙ sym w.0) (sym w.1) ∙ sym (ap (of_one (λ x. Ok (x.num, pos x.den))) (means_some p e h))
