-- The laws of the kind of thousandths.
use Rattle.std.specs.Prelude.{◌≡◌, ℕ, ◌*◌, ◌/◌, ◌%◌, ◌≤◌, true, cond, ◌&&◌, T, [], ◌∷◌, ℤ, pos, negsuc, ◌*ℤ◌, Some, None, ◌==◌, nat_le, unsigned_abs, refl}
use Rattle.std.proofs.Common.{sym, ap, ap₂, subst, ◌∙◌, arith, leb→le, le→leb, eqb→eq}
use Rattle.std.specs.Int.{◌∣◌}
use Rattle.std.proofs.Math.Nat as N
use Rattle.number.specs.declared.Pair.{Pair}
use Rattle.number.specs.Gcd.{gcd}
use Rattle.number.specs.Divisors.{gcd_right}
use Rattle.number.specs.Frac.{Frac, norm, whole}
use Rattle.kinds.specs.Thousandths.{counts, thousand_of, count_from, counted, count_of}
use Rattle.number.specs.Kind.{Holds}
use Rattle.number.proofs.Ints.{int_ring, cancel, abs_times}
use Rattle.number.proofs.Solve.{var, ◌⊗◌, solve}
use Rattle.number.proofs.Fracs.{as_self, as_norm, same, norm_cross, den_pos, whole_is}
use Rattle.number.proofs.Tests.{two_t, is_true, chosen}

-- 1000 is d times a number
pub record Parts (d : ℕ) : Type 0 where
  pub whole_parts : d * (1000 / d) ≡ 1000

parts_of : (d : ℕ) → 1000 % d ≡ 0 → Parts d
parts_of d e = record { whole_parts = omega (arith, N.div-add-mod 1000 d) }

pub counted_some : (a : ℤ) (d : ℕ) → 1000 % d ≡ 0 → unsigned_abs a * (1000 / d) ≤ 2147483647 → counted a d ≡ Some (count_from (a *ℤ pos (1000 / d)))
unfolding counted
counted_some a d e h = ap₂ (λ s t. cond (s && t) (Some (count_from (a *ℤ pos (1000 / d)))) None) (is_true _ (subst (λ x. T (x == 0)) (sym e) tt)) (is_true _ (le→leb _ _ h))

pub counted_from : (a : ℤ) (d : ℕ) (p : Pair) → counted a d ≡ Some p → (1000 % d ≡ 0) × (unsigned_abs a * (1000 / d) ≤ 2147483647) × (count_from (a *ℤ pos (1000 / d)) ≡ p)
unfolding counted
counted_from a d p e =
    let c = chosen (1000 % d == 0 && nat_le (unsigned_abs a * (1000 / d)) 2147483647) (count_from (a *ℤ pos (1000 / d))) p e in
    let t = two_t (1000 % d == 0) (nat_le (unsigned_abs a * (1000 / d)) 2147483647) c.0 in
    (eqb→eq (1000 % d) 0 t.0, leb→le _ _ t.1, c.1)

is_one : (d : ℕ) → T (d == 1) → d ≡ 1
is_one d t = eqb→eq d 1 t

-- what a pair of thousandths is
pub counts_facts : (a b : ℤ) → T (counts a b) → (unsigned_abs a ≤ 2147483647) × (b ≡ pos 1)
counts_facts a (pos d) t =
    let s = two_t (nat_le (unsigned_abs a) 2147483647) (d == 1) t in
    (leb→le _ _ s.0, ap pos (eqb→eq d 1 s.1))
counts_facts a (negsuc d) t = absurd t

pub counts_yes : (a b : ℤ) → unsigned_abs a ≤ 2147483647 → b ≡ pos 1 → counts a b ≡ true
counts_yes a b h e = ap (counts a) e ∙ ap (λ s. s && true) (is_true _ (le→leb _ _ h))

-- num * (1000 / den) thousandths are num / den
back_is : (q : Frac) → Parts q.den → norm (q.num *ℤ pos (1000 / q.den)) 1000 ≡ q
back_is q k =
    let n : ℤ = q.num in
    let d : ℤ = pos q.den in
    let m : ℤ = pos (1000 / q.den) in
    same _ q (n *ℤ m) 1000 n q.den (as_norm (n *ℤ m) 1000 (omega arith)) (as_self q)
    (solve int_ring (n ∷ d ∷ m ∷ []) ((var 0 ⊗ var 2) ⊗ var 1) (var 0 ⊗ (var 1 ⊗ var 2)) refl ∙ ap (λ x. n *ℤ pos x) k.whole_parts)

back : (q : Frac) (p : Pair) → count_of q ≡ Some p → thousand_of p ≡ Some q
unfolding thousand_of
back q p e =
    let c = counted_from q.num q.den p e in
    let n : ℤ = q.num *ℤ pos (1000 / q.den) in
    let small : unsigned_abs n ≤ 2147483647 = omega (arith, abs_times q.num (1000 / q.den)) in
    subst (λ (r : Pair). thousand_of r ≡ Some q) c.2
    (ap (λ b. cond b (Some (norm n 1000)) None) (counts_yes n (pos 1) small refl) ∙ ap Some (back_is q (parts_of q.den c.0)))

-- the denominator of a / 1000 divides 1000
den_divides : (a : ℤ) → (norm a 1000).den ∣ 1000
unfolding norm
den_divides a =
    let g : ℕ = gcd (unsigned_abs a) 1000 in
    subst (λ x. (1000 / g) ∣ x) (N.mul-div_cancel' g (gcd_right (unsigned_abs a) 1000)) (N.dvd-mul_left (1000 / g) g)

forth_is : (a : ℤ) (q : Frac) → norm a 1000 ≡ q → (1000 % q.den ≡ 0) × (q.num *ℤ pos (1000 / q.den) ≡ a)
forth_is a q e = subst (λ (r : Frac). (1000 % r.den ≡ 0) × (r.num *ℤ pos (1000 / r.den) ≡ a)) e (rest, counts_a)
  where
    rest : 1000 % (norm a 1000).den ≡ 0
    rest = N.mod-eq-zero_of_dvd (norm a 1000).den (den_divides a)

    counts_a : (norm a 1000).num *ℤ pos (1000 / (norm a 1000).den) ≡ a
    counts_a =
        let r : Frac = norm a 1000 in
        let n : ℤ = r.num in
        let d : ℤ = pos r.den in
        let m : ℤ = pos (1000 / r.den) in
        cancel (n *ℤ m) a r.den (den_pos r)
        (solve int_ring (n ∷ d ∷ m ∷ []) ((var 0 ⊗ var 2) ⊗ var 1) (var 0 ⊗ (var 1 ⊗ var 2)) refl ∙ ap (λ x. n *ℤ pos x) (parts_of r.den rest).whole_parts ∙ norm_cross a 1000 (omega arith))

forth : (p : Pair) (q : Frac) → thousand_of p ≡ Some q → count_of q ≡ Some p
unfolding thousand_of
forth p q e =
    let c = chosen (counts p.a p.b) (norm p.a 1000) q e in
    let f = counts_facts p.a p.b c.0 in
    let g = forth_is p.a q c.1 in
    let fits : unsigned_abs q.num * (1000 / q.den) ≤ 2147483647 = subst (λ x. x ≤ 2147483647) (sym (sym (abs_times q.num (1000 / q.den)) ∙ ap unsigned_abs g.1)) f.0 in
    counted_some q.num q.den g.0 fits ∙ ap₂ (λ x y. Some (record { a = x; b = y })) g.1 (sym f.1)

wholes : (z : ℤ) → unsigned_abs z ≤ 1000 → (p : Pair) × (count_of (whole z) ≡ Some p)
wholes z h =
    let e = whole_is z in
    (count_from (z *ℤ pos 1000), ap₂ counted e.0 e.1 ∙ counted_some z 1 refl (omega arith))

pub counted_small : (q : Frac) (p : Pair) → count_of q ≡ Some p → (unsigned_abs q.num ≤ 2147483647) × (q.den ≤ 2147483647)
counted_small q p e =
    let c = counted_from q.num q.den p e in
    let low : q.den ≤ 1000 = N.le_of_dvd (omega arith) (N.dvd_of_mod-eq-zero q.den c.0) in
    let one : 1 ≤ 1000 / q.den = (N.le-div_iff_mul-le (den_pos q)).1 (omega arith) in
    (omega (arith, N.mul-le-mul (N.le_refl (unsigned_abs q.num)) one), omega arith)

pub thousandths_held : Holds thousand_of count_of
thousandths_held = record { back = back; forth = forth; wholes = wholes; small = counted_small }
