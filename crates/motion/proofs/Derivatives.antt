-- Derivatives are linear; without a walk of five names the fifth is 0; and where it is 0, n ticks and then m are n + m ticks.
use Rattle.std.proofs.Common.{◌≡◌, ℕ, zero, suc, ◌+◌, Bool, true, false, cond, eqb, List, [], ◌∷◌, pos, sym, refl, ap, ◌∙◌, subst, ap₂, eqb-true}
use mathlib.Core.Path.{fun_ext}
use Rattle.number.specs.Gcd.{gcd, steps}
use Rattle.number.specs.Lowest.{lowest}
use Rattle.number.specs.Frac.{Frac, naught, norm, whole, add, mul, scale, horner}
use Rattle.number.proofs.Solve.{var as at, ◌⊕◌, ◌⊗◌, solve}
use Rattle.number.proofs.Laws.{frac_ring, scale_add, scale_mul}
use Rattle.number.proofs.Flow.{flow as horner_joins}
use Rattle.motion.specs.Lines.{Part, Rate, Of, one, var}
use Rattle.motion.specs.Flow.{parts_of}
use Rattle.motion.specs.Derivatives.{weighted, derive, Dk}
use Rattle.motion.specs.Chains.{Has, has, has_behind, Names, names, names_behind, Walk, alone, onto, Shallow}
use Rattle.motion.proofs.Chains.{walk_rated}

-- after n ticks
unfoldable pub flown : List Rate → (Of → Frac) → ℕ → Of → Frac
flown rs f n o = horner (Dk rs 0 f o) (Dk rs 1 f o) (Dk rs 2 f o) (Dk rs 3 f o) (Dk rs 4 f o) n

-- Sums are linear.
pub zero_is : whole (pos 0) ≡ naught
unfolding whole naught norm lowest gcd steps
zero_is = refl

pub none_add : (a : Frac) → add naught a ≡ a
none_add = frac_ring.plus_none

pub add_none : (a : Frac) → add a naught ≡ a
add_none a = frac_ring.plus_comm a naught ∙ none_add a

pub scale_none : (n k : ℕ) → scale naught n k ≡ naught
unfolding scale
scale_none n k = frac_ring.times_none (norm (pos n) k)

pub mul_none : (c : Frac) → mul c naught ≡ naught
mul_none c = frac_ring.times_comm c naught ∙ frac_ring.times_none c

pub horner_still : (a : Frac) (n : ℕ) → horner a naught naught naught naught n ≡ a
unfolding horner
horner_still a n = simp (scale_none, add_none)

weighted_add : (f g : Of → Frac) (ps : List Part) → weighted (λ o. add (f o) (g o)) ps ≡ add (weighted f ps) (weighted g ps)
unfolding weighted
weighted_add f g [] = sym (none_add naught)
weighted_add f g (p ∷ ps) =
    let c = p.coefficient in
    let a = f p.of in
    let b = g p.of in
    ap (add (mul c (add a b))) (weighted_add f g ps)
    ∙ solve frac_ring (c ∷ a ∷ b ∷ weighted f ps ∷ weighted g ps ∷ []) (at 0 ⊗ (at 1 ⊕ at 2) ⊕ (at 3 ⊕ at 4)) ((at 0 ⊗ at 1 ⊕ at 3) ⊕ (at 0 ⊗ at 2 ⊕ at 4)) refl

pub weighted_scale : (f : Of → Frac) (n k : ℕ) (ps : List Part) → weighted (λ o. scale (f o) n k) ps ≡ scale (weighted f ps) n k
unfolding weighted
weighted_scale f n k [] = sym (scale_none n k)
weighted_scale f n k (p ∷ ps) =
    let c = p.coefficient in
    let a = f p.of in
    ap (add (mul c (scale a n k))) (weighted_scale f n k ps)
    ∙ sym (scale_add (mul c a) (weighted f ps) n k ∙ ap (λ (z : Frac). add z (scale (weighted f ps) n k)) (scale_mul c a n k))

weighted_horner : (a b c d e : Of → Frac) (n : ℕ) (ps : List Part) → weighted (λ o. horner (a o) (b o) (c o) (d o) (e o) n) ps ≡ horner (weighted a ps) (weighted b ps) (weighted c ps) (weighted d ps) (weighted e ps) n
unfolding horner
weighted_horner a b c d e n ps =
    with_next a (λ o. add (b o) (scale (add (c o) (scale (add (d o) (scale (e o) n 4)) n 3)) n 2)) 1 _
    (with_next b (λ o. add (c o) (scale (add (d o) (scale (e o) n 4)) n 3)) 2 _
    (with_next c (λ o. add (d o) (scale (e o) n 4)) 3 _
    (with_next d e 4 _ refl)))
  where
    with_next : (f g : Of → Frac) (k : ℕ) (z : Frac) → weighted g ps ≡ z → weighted (λ o. add (f o) (scale (g o) n k)) ps ≡ add (weighted f ps) (scale z n k)
    with_next f g k z h = weighted_add f (λ o. scale (g o) n k) ps ∙ ap (add (weighted f ps)) (weighted_scale g n k ps ∙ ap (λ (y : Frac). scale y n k) h)

derive_horner : (rs : List Rate) (a b c d e : Of → Frac) (n : ℕ) → derive rs (λ o. horner (a o) (b o) (c o) (d o) (e o) n) ≡ (λ o. horner (derive rs a o) (derive rs b o) (derive rs c o) (derive rs d o) (derive rs e o) n)
unfolding derive
derive_horner rs a b c d e n = fun_ext by
  where
    by : (o : Of) → derive rs (λ o. horner (a o) (b o) (c o) (d o) (e o) n) o ≡ horner (derive rs a o) (derive rs b o) (derive rs c o) (derive rs d o) (derive rs e o) n
    by one = sym (horner_still naught n)
    by (var x) = weighted_horner a b c d e n (parts_of x rs)

-- Where no walk has five names, the fifth Dk is naught.
pub unrated : (x : ℕ) (rs : List Rate) → ((ps : List Part) → Has x ps rs → ⊥) → parts_of x rs ≡ []
unrated x [] h = refl
unrated x (r ∷ rs) h = by (eqb r.name x) refl (unrated x rs (λ ps k. h ps (has_behind k)))
  where
    by : (b : Bool) → eqb r.name x ≡ b → parts_of x rs ≡ [] → (cond b r.parts (parts_of x rs)) ≡ []
    by true e ih = absurd (h r.parts (subst (λ (y : ℕ). Has y r.parts (r ∷ rs)) (eqb-true r.name x e) has))
    by false e ih = ih

rated : (x y : ℕ) (rs : List Rate) → Names y (parts_of x rs) → Has x (parts_of x rs) rs
rated x y [] h = elim h [ ]
rated x y (r ∷ rs) h = by (eqb r.name x) refl (rated x y rs) h
  where
    by : (b : Bool) → eqb r.name x ≡ b → (Names y (parts_of x rs) → Has x (parts_of x rs) rs) →
        Names y (cond b r.parts (parts_of x rs)) → Has x (cond b r.parts (parts_of x rs)) (r ∷ rs)
    by true e ih k = subst (λ (y : ℕ). Has y r.parts (r ∷ rs)) (eqb-true r.name x e) has
    by false e ih k = has_behind (ih k)

part_none : (f : Of → Frac) (c : Frac) (o : Of) (ps : List Part) → f one ≡ naught → ((y : ℕ) → Names y (record { coefficient = c; of = o } ∷ ps) → f (var y) ≡ naught) → mul c (f o) ≡ naught
part_none f c one ps e h = ap (mul c) e ∙ mul_none c
part_none f c (var y) ps e h = ap (mul c) (h y names) ∙ mul_none c

weighted_none : (f : Of → Frac) (ps : List Part) → f one ≡ naught → ((y : ℕ) → Names y ps → f (var y) ≡ naught) → weighted f ps ≡ naught
unfolding weighted
weighted_none f [] e h = refl
weighted_none f (p ∷ ps) e h =
    ap₂ add (part_none f p.coefficient p.of ps e h) (weighted_none f ps e (λ y k. h y (names_behind k))) ∙ none_add naught

module _ (rs : List Rate) (f : Of → Frac) where
  no_walk : (k x : ℕ) → (Walk rs (suc k) x → ⊥) → Dk rs (suc k) f (var x) ≡ naught
  unfolding Dk derive weighted
  no_walk zero x h = ap (weighted f) (unrated x rs (λ ps k. h (alone k)))
  no_walk (suc k) x h =
      weighted_none (Dk rs (suc k) f) (parts_of x rs) refl (λ y n. no_walk k y (λ w.
      let (qs, o) = walk_rated w in
      h (onto (record { parts = parts_of x rs; rated = rated x y rs n; named = n; others = qs; other = o }) w)))

  pub shallow_fifth : Shallow rs → (o : Of) → Dk rs 5 f o ≡ naught
  unfolding Dk derive
  shallow_fifth shallow one = refl
  shallow_fifth shallow (var x) = no_walk 4 x (shallow x)

  module _ (fifth : (o : Of) → Dk rs 5 f o ≡ naught) where
    none_above : (g : Of → Frac) → ((o : Of) → g o ≡ naught) → (o : Of) → derive rs g o ≡ naught
    unfolding derive
    none_above g h one = refl
    none_above g h (var x) = weighted_none g (parts_of x rs) (h one) (λ y n. h (var y))

    sixth : (o : Of) → Dk rs 6 f o ≡ naught
    unfolding Dk
    sixth = none_above (Dk rs 5 f) fifth

    seventh : (o : Of) → Dk rs 7 f o ≡ naught
    unfolding Dk
    seventh = none_above (Dk rs 6 f) sixth

    eighth : (o : Of) → Dk rs 8 f o ≡ naught
    unfolding Dk
    eighth = none_above (Dk rs 7 f) seventh

    -- the k-th Dk of what n ticks lead to
    later : ℕ → ℕ → Of → Frac
    later n k o = horner (Dk rs k f o) (Dk rs (suc k) f o) (Dk rs (suc (suc k)) f o) (Dk rs (suc (suc (suc k))) f o) (Dk rs (suc (suc (suc (suc k)))) f o) n

    derivative_flown : (n k : ℕ) → Dk rs k (flown rs f n) ≡ later n k
    unfolding Dk flown later
    derivative_flown n zero = refl
    derivative_flown n (suc k) = ap (derive rs) (derivative_flown n k) ∙ derive_horner rs _ _ _ _ _ n

    pub flown_on : (n m : ℕ) (o : Of) → flown rs (flown rs f n) m o ≡ flown rs f (n + m) o
    unfolding flown later
    flown_on n m o =
        let d0 = Dk rs 0 f o in
        let d1 = Dk rs 1 f o in
        let d2 = Dk rs 2 f o in
        let d3 = Dk rs 3 f o in
        let d4 = Dk rs 4 f o in
        let e5 = fifth o in
        let e6 = sixth o in
        let e7 = seventh o in
        let e8 = eighth o in
        (λ i. horner (derivative_flown n 0 i o) (derivative_flown n 1 i o) (derivative_flown n 2 i o) (derivative_flown n 3 i o) (derivative_flown n 4 i o) m)
        ∙ (λ i. horner (horner d0 d1 d2 d3 d4 n) (horner d1 d2 d3 d4 (e5 i) n) (horner d2 d3 d4 (e5 i) (e6 i) n) (horner d3 d4 (e5 i) (e6 i) (e7 i) n) (horner d4 (e5 i) (e6 i) (e7 i) (e8 i) n) m)
        ∙ ap (λ (z : Frac). horner (horner d0 d1 d2 d3 d4 n) (horner d1 d2 d3 d4 naught n) (horner d2 d3 d4 naught naught n) (horner d3 d4 naught naught naught n) z m) (horner_still d4 n)
        ∙ horner_joins d0 d1 d2 d3 d4 n m
