-- Laws of the greatest common divisor: what shows that a reduced fraction is in lowest terms. Nothing here is to be believed, all is proved.
use Rattle.std.specs.Prelude.{◌≡◌, ℕ, zero, suc, ◌+◌, ◌*◌, ◌/◌, ◌%◌, ◌<◌}
use Rattle.std.proofs.Common.{sym, ap, subst, ◌∙◌, arith}
use Rattle.std.specs.Int.{◌∣◌}
use Rattle.std.proofs.Math.Nat as N
use Rattle.number.specs.Gcd.{steps, gcd}

-- the rest is below the bound of the next step
less : (a b k : ℕ) → suc b < suc k → a % suc b < k
less a b k h = omega (arith, N.mod-lt a {m = suc b} (omega arith))

-- what divides a * c and b * c divides gcd a b * c
steps_greatest : (k a b c d : ℕ) → b < k → d ∣ a * c → d ∣ b * c → d ∣ steps k a b * c
unfolding steps
steps_greatest zero a b c d h p q = p
steps_greatest (suc k) a zero c d h p q = p
steps_greatest (suc k) a (suc b) c d h p q =
    let m : ℕ = suc b in
    let e : a * c ≡ (a / m) * (m * c) + (a % m) * c = omega (arith, ap (λ x. x * c) (N.div-add-mod' a m)) in
    let t : d ∣ (a / m) * (m * c) + (a % m) * c = subst (λ x. d ∣ x) e p in
    let s : d ∣ (a / m) * (m * c) = N.dvd-mul_left_of_dvd d q (a / m) in
    steps_greatest k m (a % m) c d (less a b k h) q ((N.dvd-add_iff_right d s).1 t)

-- it divides both
steps_divides : (k a b : ℕ) → b < k → (steps k a b ∣ a) × (steps k a b ∣ b)
unfolding steps
steps_divides zero a b h = absurd (omega arith)
steps_divides (suc k) a zero h = (N.dvd_refl a, N.dvd-zero a)
steps_divides (suc k) a (suc b) h =
    let m : ℕ = suc b in
    let r = steps_divides k m (a % m) (less a b k h) in
    ((N.dvd-mod_iff (steps k m (a % m)) r.0).0 r.1, r.0)

pub gcd_greatest : (a b c d : ℕ) → d ∣ a * c → d ∣ b * c → d ∣ gcd a b * c
unfolding gcd
gcd_greatest a b c d p q = steps_greatest (suc b) a b c d (omega arith) p q

pub gcd_left : (a b : ℕ) → gcd a b ∣ a
unfolding gcd
gcd_left a b = (steps_divides (suc b) a b (omega arith)).0

pub gcd_right : (a b : ℕ) → gcd a b ∣ b
unfolding gcd
gcd_right a b = (steps_divides (suc b) a b (omega arith)).1

pub gcd_pos : (a b : ℕ) → 0 < b → 0 < gcd a b
gcd_pos a b h = N.pos_of_dvd_of_pos (gcd_right a b) h

-- the law of Gauss
pub gauss : (a b c : ℕ) → gcd b a ≡ 1 → a ∣ b * c → a ∣ c
gauss a b c e h =
    subst (λ x. a ∣ x) (ap (λ x. x * c) e ∙ omega arith) (gcd_greatest b a c a h (N.dvd-mul_right a c))

-- lowest terms are unique
pub unique_den : (n d n' d' : ℕ) → gcd n d ≡ 1 → gcd n' d' ≡ 1 → n * d' ≡ n' * d → d ≡ d'
unique_den n d n' d' e e' x =
    N.dvd_antisymm
    (gauss d n d' e (subst (λ y. d ∣ y) (sym x) (N.dvd-mul_left d n')))
    (gauss d' n' d e' (subst (λ y. d' ∣ y) x (N.dvd-mul_left d' n)))

-- what is left after the division by the common divisor has none
pub gcd_reduced : (a b : ℕ) → 0 < b → gcd (a / gcd a b) (b / gcd a b) ≡ 1
gcd_reduced a b h =
    let g : ℕ = gcd a b in
    let p : 0 < g = gcd_pos a b h in
    let x : ℕ = gcd (a / g) (b / g) in
    let ea : g * (a / g) ≡ a = N.mul-div_cancel' g (gcd_left a b) in
    let eb : g * (b / g) ≡ b = N.mul-div_cancel' g (gcd_right a b) in
    let da : g * x ∣ a * 1 = subst (λ y. g * x ∣ y) (ea ∙ omega arith) (N.mul-dvd-mul_left x g (gcd_left (a / g) (b / g))) in
    let db : g * x ∣ b * 1 = subst (λ y. g * x ∣ y) (eb ∙ omega arith) (N.mul-dvd-mul_left x g (gcd_right (a / g) (b / g))) in
    N.eq-one_of_dvd-one (N.dvd_of_mul-dvd-mul_left x p (gcd_greatest a b 1 (g * x) da db))
