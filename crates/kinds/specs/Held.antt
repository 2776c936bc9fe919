-- The laws of the kind of fractions.
use Rattle.std.specs.Prelude.{◌≡◌, ℕ, ◌≤◌, Bool, true, false, cond, ◌&&◌, T, ℤ, pos, negsuc, Some, None, nat_le, unsigned_abs, refl}
use Rattle.std.proofs.Common.{sym, ap, ap₂, subst, ◌∙◌, arith, leb→le, le→leb}
use Rattle.number.specs.declared.Pair.{Pair}
use Rattle.number.specs.Frac.{Frac, lowest, whole}
use Rattle.kinds.specs.Fractions.{within, within_lowest, made, frac_of, pair_from, pair_of}
use Rattle.number.specs.Kind.{Holds}
use Rattle.number.proofs.Fracs.{frac_same, whole_is}
use Rattle.number.proofs.Tests.{two_t, join_t, is_true}
use Rattle.std.proofs.lemmas.Option.{none-some}

pub made_some : (a : ℤ) (d : ℕ) (b : Bool) (f : T b → T (lowest a d)) (q : Frac) → T b → q.num ≡ a → q.den ≡ d → made a d b f ≡ Some q
unfolding made
made_some a d true f q t e h = ap Some (frac_same _ q (sym e) (sym h))
made_some a d false f q t e h = absurd t

pub made_from : (a : ℤ) (d : ℕ) (b : Bool) (f : T b → T (lowest a d)) (q : Frac) → made a d b f ≡ Some q → T b × (q.num ≡ a) × (q.den ≡ d)
unfolding made
made_from a d true f q e =
    let s : record { num = a; den = d; low = f tt } ≡ q = cc in
    (tt, sym (ap (λ (r : Frac). r.num) s), sym (ap (λ (r : Frac). r.den) s))
made_from a d false f q e = absurd (none-some q e)

pub pair_some : (q : Frac) → T (nat_le (unsigned_abs q.num) 2147483647 && nat_le q.den 2147483647) → pair_of q ≡ Some (pair_from q.num q.den)
unfolding pair_of
pair_some q t = ap (λ b. cond b (Some (pair_from q.num q.den)) None) (is_true _ t)

pub pair_from_code : (q : Frac) (p : Pair) → pair_of q ≡ Some p → T (nat_le (unsigned_abs q.num) 2147483647 && nat_le q.den 2147483647) × (pair_from q.num q.den ≡ p)
unfolding pair_of
pair_from_code q p e = by (nat_le (unsigned_abs q.num) 2147483647 && nat_le q.den 2147483647) e
  where
    by : (b : Bool) → cond b (Some (pair_from q.num q.den)) None ≡ Some p → T b × (pair_from q.num q.den ≡ p)
    by true e = (tt, cc)
    by false e = absurd (none-some p e)

back : (q : Frac) (p : Pair) → pair_of q ≡ Some p → frac_of p ≡ Some q
unfolding frac_of
back q p e =
    let h = pair_from_code q p e in
    let n : ℤ = q.num in
    let d : ℕ = q.den in
    let t = two_t (nat_le (unsigned_abs n) 2147483647) (nat_le d 2147483647) h.0 in
    let in_range : T (within n (pos d)) = join_t (nat_le (unsigned_abs n) 2147483647) (nat_le d 2147483647 && lowest n d) t.0 (join_t (nat_le d 2147483647) (lowest n d) t.1 q.low) in
    subst (λ (r : Pair). frac_of r ≡ Some q) h.1 (made_some n d (within n (pos d)) (within_lowest n (pos d)) q in_range refl refl)

forth : (p : Pair) (q : Frac) → frac_of p ≡ Some q → pair_of q ≡ Some p
unfolding frac_of
forth p q e =
    let h = made_from p.a (unsigned_abs p.b) (within p.a p.b) (within_lowest p.a p.b) q e in
    by p.a p.b h.0 h.1 h.2
  where
    by : (a b : ℤ) → T (within a b) → q.num ≡ a → q.den ≡ unsigned_abs b → pair_of q ≡ Some (record { a = a; b = b })
    by a (pos d) t en ed =
        let s = two_t (nat_le (unsigned_abs a) 2147483647) (nat_le d 2147483647 && lowest a d) t in
        let u = two_t (nat_le d 2147483647) (lowest a d) s.1 in
        let ok : T (nat_le (unsigned_abs q.num) 2147483647 && nat_le q.den 2147483647) = join_t _ _ (subst (λ x. T (nat_le (unsigned_abs x) 2147483647)) (sym en) s.0) (subst (λ x. T (nat_le x 2147483647)) (sym ed) u.0) in
        pair_some q ok ∙ ap₂ (λ x y. Some (pair_from x y)) en ed
    by a (negsuc d) t en ed = absurd t

wholes : (z : ℤ) → unsigned_abs z ≤ 1000 → (p : Pair) × (pair_of (whole z) ≡ Some p)
wholes z h =
    let e = whole_is z in
    let n : ℤ = (whole z).num in
    let d : ℕ = (whole z).den in
    let small : unsigned_abs n ≤ 2147483647 = subst (λ x. unsigned_abs x ≤ 2147483647) (sym e.0) (omega arith) in
    let one : d ≤ 2147483647 = omega (arith, e.1) in
    (pair_from n d, pair_some (whole z) (join_t _ _ (le→leb (unsigned_abs n) 2147483647 small) (le→leb d 2147483647 one)))

small : (q : Frac) (p : Pair) → pair_of q ≡ Some p → (unsigned_abs q.num ≤ 2147483647) × (q.den ≤ 2147483647)
small q p e =
    let t = two_t (nat_le (unsigned_abs q.num) 2147483647) (nat_le q.den 2147483647) (pair_from_code q p e).0 in
    (leb→le _ _ t.0, leb→le _ _ t.1)

pub fractions_held : Holds frac_of pair_of
fractions_held = record { back = back; forth = forth; wholes = wholes; small = small }
