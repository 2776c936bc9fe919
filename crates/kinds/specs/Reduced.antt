-- What the kind of fractions computes.
use Rattle.std.specs.Prelude.{◌≡◌, ℕ, zero, suc, ◌*◌, ◌/◌, ◌%◌, ◌^◌, ◌<◌, ◌≤◌, Bool, true, false, cond, ◌&&◌, T, ◌⊎◌, ℤ, pos, negsuc, neg_ℤ, ◌≤ℤ◌, Some, None, Ok, Err, FitsSigned, ◌==◌, int_div, nat_eq, nat_le, unsigned_abs, refl}
use Rattle.std.proofs.Common.{sym, ap, ap₂, subst, ◌∙◌, inl, inr, arith, leb→le, of_z, to_z}
use Rattle.std.specs.Int.{◌∣◌, w64}
use Rattle.std.proofs.Math.Nat as N
use Rattle.std.proofs.lemmas.Int.{ints, to_z-of_z, to_z_pos}
use Rattle.number.specs.declared.Fault.TheVariants.{NotHeld}
use Rattle.number.specs.Gcd.{gcd, steps}
use Rattle.number.specs.Divisors.{gcd_left, gcd_right, gcd_greatest, gcd_pos}
use Rattle.number.specs.Frac.{Frac, lowest, norm}
use Rattle.kinds.specs.Fractions.{within, pair_from, pair_of}
use Rattle.number.specs.Kind.{held}
use Rattle.number.proofs.Tests.{two_t}
use Rattle.std.proofs.lemmas.Bool.{le-leb, lt-leb}

pub gcd_zero : (a : ℕ) → gcd a 0 ≡ a
unfolding gcd steps
gcd_zero a = refl

-- Euclid's rule
pub gcd_step : (a b : ℕ) → gcd b (a % b) ≡ gcd a b
gcd_step a b =
    let x : ℕ = gcd b (a % b) in
    let y : ℕ = gcd a b in
    let xb : x ∣ b = gcd_left b (a % b) in
    let xa : x ∣ a = (N.dvd-mod_iff x xb).0 (gcd_right b (a % b)) in
    let yr : y ∣ a % b = (N.dvd-mod_iff y (gcd_right a b)).1 (gcd_left a b) in
    N.dvd_antisymm (unit (gcd a b) x (gcd_greatest a b 1 x (times x a xa) (times x b xb))) (unit (gcd b (a % b)) y (gcd_greatest b (a % b) 1 y (times y b (gcd_right a b)) (times y (a % b) yr)))
  where
    times : (d n : ℕ) → d ∣ n → d ∣ n * 1
    times d n h = subst (λ x. d ∣ x) (omega arith) h

    unit : (n d : ℕ) → d ∣ n * 1 → d ∣ n
    unit n d h = subst (λ x. d ∣ x) (omega arith) h

-- where b divides a it is their divisor
pub gcd_whole : (a b : ℕ) → a % b ≡ 0 → b ≡ gcd a b
gcd_whole a b e = sym (gcd_zero b) ∙ ap (gcd b) (sym e) ∙ gcd_step a b

-- ---- which pairs are numbers
no_and : (a : Bool) → false ≡ (a && false)
no_and true = refl
no_and false = refl

pub within_facts : (a b : ℤ) → T (within a b) → (pos 1 ≤ℤ b) × (unsigned_abs b ≤ 2147483647) × (unsigned_abs a ≤ 2147483647)
unfolding lowest
within_facts a (negsuc d) t = absurd t
within_facts a (pos d) t =
    let s = two_t (nat_le (unsigned_abs a) 2147483647) _ t in
    let u = two_t (nat_le d 2147483647) _ s.1 in
    let v = two_t (nat_le 1 d) _ u.1 in
    let low : 1 ≤ d = leb→le 1 d v.0 in
    (omega (arith, ints), leb→le d 2147483647 u.0, leb→le (unsigned_abs a) 2147483647 s.0)

pub within_yes : (a b : ℤ) (g : ℕ) → pos 1 ≤ℤ b → unsigned_abs b ≤ 2147483647 → unsigned_abs a ≤ 2147483647 → g ≡ gcd (unsigned_abs a) (unsigned_abs b) → (g == 1) ≡ within a b
unfolding lowest
within_yes a (negsuc d) g p hb ha e = absurd (omega (arith, ints))
within_yes a (pos d) g p hb ha e =
    ap (λ x. nat_eq x 1) e ∙ sym (ap₂ (λ s t. s && (t && (nat_le 1 d && gcd (unsigned_abs a) d == 1))) (le-leb (unsigned_abs a) 2147483647 ha) (le-leb d 2147483647 hb) ∙ ap (λ t. t && gcd (unsigned_abs a) d == 1) (le-leb 1 d (omega (arith, ints))))

-- ---- lowest terms
norm_num : (z : ℤ) (d : ℕ) → 0 < d → (norm z d).num ≡ int_div z (pos (gcd (unsigned_abs z) d))
unfolding norm
norm_num z zero h = absurd (omega arith)
norm_num z (suc d) h = refl

norm_den : (z : ℤ) (d : ℕ) → 0 < d → (norm z d).den ≡ d / gcd (unsigned_abs z) d
unfolding norm
norm_den z zero h = absurd (omega arith)
norm_den z (suc d) h = refl

pub held_yes : (q : Frac) (a : ℤ) (b : ℕ) → q.num ≡ a → q.den ≡ b → unsigned_abs a ≤ 2147483647 → b ≤ 2147483647 → Ok (pair_from a b) ≡ held (pair_of q)
unfolding pair_of
held_yes q a b ea eb ha hb =
    sym (ap₂ (λ x y. held (cond (nat_le (unsigned_abs x) 2147483647 && nat_le y 2147483647) (Some (pair_from x y)) None)) ea eb ∙ ap₂ (λ s t. held (cond (s && t) (Some (pair_from a b)) None)) (le-leb _ _ ha) (le-leb _ _ hb))

pub held_no : (q : Frac) (a : ℤ) (b : ℕ) → q.num ≡ a → q.den ≡ b → (2147483647 < unsigned_abs a) ⊎ (2147483647 < b) → Err NotHeld ≡ held (pair_of q)
unfolding pair_of
held_no q a b ea eb (inl h) =
    sym (ap₂ (λ x y. held (cond (nat_le (unsigned_abs x) 2147483647 && nat_le y 2147483647) (Some (pair_from x y)) None)) ea eb ∙ ap (λ s. held (cond (s && nat_le b 2147483647) (Some (pair_from a b)) None)) (lt-leb _ _ h))
held_no q a b ea eb (inr h) =
    sym (ap₂ (λ x y. held (cond (nat_le (unsigned_abs x) 2147483647 && nat_le y 2147483647) (Some (pair_from x y)) None)) ea eb ∙ ap (λ t. held (cond (nat_le (unsigned_abs a) 2147483647 && t) (Some (pair_from a b)) None)) (lt-leb _ _ h) ∙ ap (λ t. held (cond t (Some (pair_from a b)) None)) (sym (no_and (nat_le (unsigned_abs a) 2147483647))))

neg_fits : (m n : ℕ) → m ≤ suc n → n < 2 ^ 63 → FitsSigned w64 (neg_ℤ (pos m))
neg_fits zero n h k = omega (arith, ints)
neg_fits (suc m) n h k = omega (arith, ints)

pub quot_fits : (n : ℤ) (g : ℕ) → FitsSigned w64 n → FitsSigned w64 (int_div n (pos g))
quot_fits (pos n) g f = record { sfits = omega (arith, f.sfits, N.div-le_self n g) }
quot_fits (negsuc n) g f = neg_fits (suc n / g) n (N.div-le_self (suc n) g) f.sfits

pub quot_back : (n : ℤ) (g : ℕ) → FitsSigned w64 n → g < 2 ^ 63 → to_z w64 (of_z w64 (int_div (to_z w64 (of_z w64 n)) (to_z w64 g))) ≡ int_div n (pos g)
quot_back n g f h =
    ap₂ (λ x y. to_z w64 (of_z w64 (int_div x y))) (to_z-of_z w64 n f) (to_z_pos w64 g h) ∙ to_z-of_z w64 (int_div n (pos g)) (quot_fits n g f)

quot_den : (d : ℤ) (g : ℕ) → pos 1 ≤ℤ d → int_div d (pos g) ≡ pos (unsigned_abs d / g)
quot_den (pos d) g h = refl
quot_den (negsuc d) g h = absurd (omega (arith, ints))

pub common_small : (n d : ℤ) (g : ℕ) → FitsSigned w64 d → pos 1 ≤ℤ d → g ≡ gcd (unsigned_abs n) (unsigned_abs d) → (0 < g) × (g < 2 ^ 63)
common_small n d g f h e =
    let p : 0 < unsigned_abs d = omega (arith, ints) in
    let q : unsigned_abs d < 2 ^ 63 = omega (arith, ints) in
    (omega (arith, e, gcd_pos (unsigned_abs n) (unsigned_abs d) p), omega (arith, e, N.le_of_dvd p (gcd_right (unsigned_abs n) (unsigned_abs d))))

module _ (n d : ℤ) (g : ℕ) (h : pos 1 ≤ℤ d) (e : g ≡ gcd (unsigned_abs n) (unsigned_abs d)) where
  num_is : (norm n (unsigned_abs d)).num ≡ int_div n (pos g)
  num_is = norm_num n (unsigned_abs d) (omega (arith, ints)) ∙ ap (λ x. int_div n (pos x)) (sym e)

  den_is : (norm n (unsigned_abs d)).den ≡ unsigned_abs d / g
  den_is = norm_den n (unsigned_abs d) (omega (arith, ints)) ∙ ap (λ x. unsigned_abs d / x) (sym e)

  pub reduced_yes : (a b : ℤ) → a ≡ int_div n (pos g) → b ≡ int_div d (pos g) → unsigned_abs a ≤ 2147483647 → unsigned_abs b ≤ 2147483647 → Ok (record { a = a; b = b }) ≡ held (pair_of (norm n (unsigned_abs d)))
  reduced_yes a b ea eb ha hb =
      let m : b ≡ pos (unsigned_abs d / g) = eb ∙ quot_den d g h in
      ap (λ y. Ok (record { a = a; b = y })) m ∙ held_yes (norm n (unsigned_abs d)) a (unsigned_abs d / g) (num_is ∙ sym ea) den_is ha (subst (λ y. unsigned_abs y ≤ 2147483647) m hb)

  pub reduced_no : (a b : ℤ) → a ≡ int_div n (pos g) → b ≡ int_div d (pos g) → (2147483647 < unsigned_abs a) ⊎ (2147483647 < unsigned_abs b) → Err NotHeld ≡ held (pair_of (norm n (unsigned_abs d)))
  reduced_no a b ea eb k =
      let m : b ≡ pos (unsigned_abs d / g) = eb ∙ quot_den d g h in
      held_no (norm n (unsigned_abs d)) a (unsigned_abs d / g) (num_is ∙ sym ea) den_is (subst (λ y. (2147483647 < unsigned_abs a) ⊎ (2147483647 < unsigned_abs y)) m k)

pub quot_nonneg : (d : ℤ) (g : ℕ) → pos 1 ≤ℤ d → pos 0 ≤ℤ int_div d (pos g)
quot_nonneg d g h = let e = quot_den d g h in omega (arith, ints)
