-- What the operations of a kind compute on lowest terms is what their contracts say, for any kind.
use Rattle.std.proofs.Common.{◌≡◌, ℕ, zero, suc, ◌*◌, ◌<◌, ◌≤◌, Bool, true, false, cond, ◌&&◌, T, eqb, leb, ◌⊎◌, ℤ, pos, negsuc, ◌+ℤ◌, ◌-ℤ◌, ◌*ℤ◌, neg_ℤ, nat_abs, ◌≤ℤ◌, ◌<ℤ◌, Some, None, Ok, Err, Option, Result, sym, refl, ap, ◌∙◌, subst, ap₂, inl, inr, arith, w64, SFits, to_z, of_z}
use native.Mathlib.Nat as N
use lib.Dec.{eqb-suc-zero}
use lib.Signed.{lt_z, le_z}
use Rattle.std.proofs.lemmas.Int.{ints, to_z-of_z, to_z_pos}
use Rattle.number.specs.declared.Pair.{Pair}
use Rattle.number.specs.declared.Fault.{Fault}
use Rattle.number.specs.declared.Fault.TheVariants.{NotHeld, ZeroDivisor}
use Rattle.number.specs.Frac.{Frac, norm, add, sub, neg, mul, div, flip, inverse, scale, less, at_most}
use Rattle.number.specs.Kind.{Holds, held, taken, of_one, of_two, exact2, divided, scaled, in_terms, asked2, is_naught}
use Rattle.number.proofs.Fracs.{as_norm, as_self, as_add, as_mul, den_pos}
use Rattle.number.proofs.Ints.{neg_out, neg_right, abs_of_neg}
use Rattle.number.proofs.Products.{abs_product, long_fits}
use Rattle.number.proofs.Tests.{le_z_yes}
use Rattle.std.proofs.lemmas.Bool.{le-leb, lt-leb}

-- to the bits of an i64 and back
abbrev pub b64 : ℤ → ℤ
b64 z = to_z w64 (of_z w64 z)

-- a / b are the lowest terms of the number p
pub record Read (means : Pair → Option Frac) (p : Pair) (a b : ℤ) : Type 0 where
  pub low : pos 1 ≤ℤ b
  pub den : nat_abs b ≤ 2147483647
  pub num : nat_abs a ≤ 2147483647
  pub fit_a : SFits w64 a
  pub fit_b : SFits w64 b
  pub frac : Frac
  pub is : means p ≡ Some frac
  pub num_is : frac.num ≡ a
  pub den_is : pos frac.den ≡ b

pub small_fits : (z : ℤ) → nat_abs z ≤ 2147483647 → SFits w64 z
small_fits z h = omega (arith, ints)

pub size : (z : ℤ) → SFits w64 z → nat_abs z ≤ 2147483647 → nat_abs (b64 z) ≤ 2147483647
size z f h = subst (λ x. nat_abs x ≤ 2147483647) (sym (to_z-of_z w64 z f)) h

-- ---- the products
prod_back : (a b r : ℤ) → SFits w64 a → SFits w64 b → nat_abs r ≤ 4611686014132420609 → r ≡ b64 a *ℤ b64 b → b64 r ≡ a *ℤ b
prod_back a b r fa fb h e =
    to_z-of_z w64 r (long_fits r h) ∙ e ∙ ap₂ ◌*ℤ◌ (to_z-of_z w64 a fa) (to_z-of_z w64 b fb)

prod_pos : (a b : ℤ) → pos 1 ≤ℤ a → pos 1 ≤ℤ b → pos 1 ≤ℤ (a *ℤ b)
prod_pos (pos a) (pos b) ha hb =
    let p : 0 < a * b = N.mul-pos {m = a} {n = b} (omega (arith, ints)) (omega (arith, ints)) in omega (arith, ints)
prod_pos (pos a) (negsuc b) ha hb = absurd (omega (arith, ints))
prod_pos (negsuc a) (pos b) ha hb = absurd (omega (arith, ints))
prod_pos (negsuc a) (negsuc b) ha hb = absurd (omega (arith, ints))

pub sum_fits : (r s : ℤ) → nat_abs r ≤ 4611686014132420609 → nat_abs s ≤ 4611686014132420609 → SFits w64 (b64 r +ℤ b64 s)
sum_fits r s hr hs = let fr = long_fits r hr in let fs = long_fits s hs in omega (arith, ints)

pub sub_fits : (r s : ℤ) → nat_abs r ≤ 4611686014132420609 → nat_abs s ≤ 4611686014132420609 → SFits w64 (b64 r -ℤ b64 s)
sub_fits r s hr hs = let fr = long_fits r hr in let fs = long_fits s hs in omega (arith, ints)

pub zero_less_fits : (s : ℤ) → nat_abs s ≤ 4611686014132420609 → SFits w64 (pos 0 -ℤ b64 s)
zero_less_fits s hs = let fs = long_fits s hs in omega (arith, ints)

sum_back : (r s x y : ℤ) → nat_abs r ≤ 4611686014132420609 → nat_abs s ≤ 4611686014132420609 → b64 r ≡ x → b64 s ≡ y → b64 (b64 r +ℤ b64 s) ≡ x +ℤ y
sum_back r s x y hr hs er es = to_z-of_z w64 _ (sum_fits r s hr hs) ∙ ap₂ ◌+ℤ◌ er es

sub_back : (r s x y : ℤ) → nat_abs r ≤ 4611686014132420609 → nat_abs s ≤ 4611686014132420609 → b64 r ≡ x → b64 s ≡ y → b64 (b64 r -ℤ b64 s) ≡ x -ℤ y
sub_back r s x y hr hs er es = to_z-of_z w64 _ (sub_fits r s hr hs) ∙ ap₂ ◌-ℤ◌ er es

zero_less_back : (s y : ℤ) → nat_abs s ≤ 4611686014132420609 → b64 s ≡ y → b64 (pos 0 -ℤ b64 s) ≡ neg_ℤ y
zero_less_back s y hs es = to_z-of_z w64 _ (zero_less_fits s hs) ∙ ap (λ z. pos 0 -ℤ z) es ∙ omega (arith, ints)

pub flip_pos : (z : ℤ) (d : ℕ) → pos 1 ≤ℤ z → flip z d ≡ norm (pos d) (nat_abs z)
unfolding flip
flip_pos (pos n) d h = refl
flip_pos (negsuc n) d h = absurd (omega (arith, ints))

pub flip_neg : (z : ℤ) (d : ℕ) → z <ℤ pos 0 → flip z d ≡ norm (neg_ℤ (pos d)) (nat_abs z)
unfolding flip
flip_neg (pos n) d h = absurd (omega (arith, ints))
flip_neg (negsuc n) d h = refl

not_naught : (z : ℤ) → ¬ (z ≡ pos 0) → eqb (nat_abs z) 0 ≡ false
not_naught (pos zero) h = absurd (h refl)
not_naught (pos (suc n)) h = eqb-suc-zero n
not_naught (negsuc n) h = eqb-suc-zero n

-- ---- the operations on fractions, by lowest terms
module _ (x y : Frac) (a b c d : ℤ) (xa : x.num ≡ a) (xb : pos x.den ≡ b) (yc : y.num ≡ c) (yd : pos y.den ≡ d) where
  add_is : add x y ≡ norm (a *ℤ d +ℤ c *ℤ b) (nat_abs (b *ℤ d))
  unfolding add
  add_is = λ i. norm (xa i *ℤ yd i +ℤ yc i *ℤ xb i) (nat_abs (xb i *ℤ yd i))

  mul_is : mul x y ≡ norm (a *ℤ c) (nat_abs (b *ℤ d))
  unfolding mul
  mul_is = λ i. norm (xa i *ℤ yc i) (nat_abs (xb i *ℤ yd i))

  less_is : less x y ≡ lt_z (a *ℤ d) (c *ℤ b)
  unfolding less
  less_is = λ i. lt_z (xa i *ℤ yd i) (yc i *ℤ xb i)

  at_most_is : at_most x y ≡ le_z (a *ℤ d) (c *ℤ b)
  unfolding at_most
  at_most_is = λ i. le_z (xa i *ℤ yd i) (yc i *ℤ xb i)

  pub sub_is : sub x y ≡ norm (a *ℤ d -ℤ c *ℤ b) (nat_abs (b *ℤ d))
  unfolding sub neg
  sub_is =
      (as_add x (neg y) x.num x.den (neg_ℤ y.num) y.den (as_self x) (as_norm (neg_ℤ y.num) y.den (den_pos y))).is
      ∙ ap (λ t. norm (x.num *ℤ pos y.den +ℤ t) (x.den * y.den)) (neg_out y.num (pos x.den))
      ∙ (λ i. norm (xa i *ℤ yd i -ℤ yc i *ℤ xb i) (nat_abs (xb i *ℤ yd i)))

  dens : x.den * nat_abs y.num ≡ nat_abs (b *ℤ c)
  dens = sym (abs_product (pos x.den) y.num) ∙ ap₂ (λ s t. nat_abs (s *ℤ t)) xb yc

  div_pos : pos 1 ≤ℤ c → div x y ≡ norm (a *ℤ d) (nat_abs (b *ℤ c))
  unfolding div inverse
  div_pos h =
      let up : pos 1 ≤ℤ y.num = subst (λ z. pos 1 ≤ℤ z) (sym yc) h in
      let above : 0 < nat_abs y.num = omega (arith, ints) in
      ap (mul x) (flip_pos y.num y.den up)
      ∙ (as_mul x (norm (pos y.den) (nat_abs y.num)) x.num x.den (pos y.den) (nat_abs y.num) (as_self x) (as_norm (pos y.den) (nat_abs y.num) above)).is
      ∙ ap₂ norm (ap₂ ◌*ℤ◌ xa yd) dens

  div_neg : c <ℤ pos 0 → div x y ≡ norm (neg_ℤ (a *ℤ d)) (nat_abs (neg_ℤ (b *ℤ c)))
  unfolding div inverse
  div_neg h =
      let down : y.num <ℤ pos 0 = subst (λ z. z <ℤ pos 0) (sym yc) h in
      let above : 0 < nat_abs y.num = omega (arith, ints) in
      let m : ℤ = neg_ℤ (pos y.den) in
      ap (mul x) (flip_neg y.num y.den down)
      ∙ (as_mul x (norm m (nat_abs y.num)) x.num x.den m (nat_abs y.num) (as_self x) (as_norm m (nat_abs y.num) above)).is
      ∙ ap₂ norm (neg_right x.num (pos y.den) ∙ ap neg_ℤ (ap₂ ◌*ℤ◌ xa yd)) (dens ∙ sym (abs_of_neg (b *ℤ c)))

scale_is : (x : Frac) (a b : ℤ) (n k : ℕ) → x.num ≡ a → pos x.den ≡ b → 1 ≤ k → scale x n k ≡ norm (a *ℤ pos n) (nat_abs (b *ℤ pos k))
unfolding scale
scale_is x a b n k xa xb h =
    (as_mul x (norm (pos n) k) x.num x.den (pos n) k (as_self x) (as_norm (pos n) k h)).is
    ∙ (λ i. norm (xa i *ℤ pos n) (nat_abs (xb i *ℤ pos k)))

module _ (means : Pair → Option Frac) (code : Frac → Option Pair) where
  abbrev told : Frac → Result (ℤ × ℤ) Fault
  told x = Ok (x.num, pos x.den)

  -- what the lowest terms that a kind gives back are
  pub read : Holds means code → (p : Pair) (a b : ℤ) → Ok (a, b) ≡ in_terms means p → Read means p a b
  read laws p a b e = by (means p) refl e
    where
      by : (o : Option Frac) → means p ≡ o → Ok (a, b) ≡ of_one told o → Read means p a b
      by None m e = let z : ◌≡◌ {A = ℕ} 0 1 = cc in absurd (omega arith)
      by (Some x) m e =
          let same : ◌≡◌ {A = ℤ × ℤ} (x.num, pos x.den) (a, b) = cc in
          let ea : x.num ≡ a = ap (λ (t : ℤ × ℤ). t.0) same in
          let eb : pos x.den ≡ b = ap (λ (t : ℤ × ℤ). t.1) same in
          let s = laws.small x p (laws.forth p x m) in
          let up = den_pos x in
          let ha : nat_abs a ≤ 2147483647 = subst (λ z. nat_abs z ≤ 2147483647) ea s.0 in
          let hb : nat_abs b ≤ 2147483647 = subst (λ z. nat_abs z ≤ 2147483647) eb s.1 in
          record {
            low = subst (λ z. pos 1 ≤ℤ z) eb (omega (arith, ints));
            den = hb;
            num = ha;
            fit_a = small_fits a ha;
            fit_b = small_fits b hb;
            frac = x;
            is = m;
            num_is = ea;
            den_is = eb;
          }

  -- both terms are small, as the code holds them
  pub sizes : Holds means code → (p : Pair) (a b : ℤ) → Ok (a, b) ≡ in_terms means p → (nat_abs (b64 a) ≤ 2147483647) × (nat_abs (b64 b) ≤ 2147483647)
  sizes laws p a b e = let P = read laws p a b e in (size a P.fit_a P.num, size b P.fit_b P.den)

  abbrev outcome : ℤ → ℤ → Result Pair Fault
  outcome n d = held (code (norm n (nat_abs d)))

  taken_is : (n d : ℤ) → pos 1 ≤ℤ d → taken means code n d ≡ outcome n d
  taken_is n d h = ap (λ t. cond t (outcome n d) (Err NotHeld)) (le_z_yes (pos 1) d h)

  abbrev via : (Frac → Frac → Frac) → Frac → Frac → Result Pair Fault
  via op x y = held (code (op x y))

  abbrev quot_of : Frac → Frac → Result Pair Fault
  quot_of x y = cond (is_naught y) (Err ZeroDivisor) (held (code (div x y)))

  module _ (p q : Pair) (a b c d : ℤ) (P : Read means p a b) (Q : Read means q c d) where
    both_of : {A : Type 0} (f : Frac → Frac → Result A Fault) → f P.frac Q.frac ≡ of_two f (means p) (means q)
    both_of f = sym (ap₂ (of_two f) P.is Q.is)

    -- the product of the denominators
    below : (t : ℤ) → nat_abs t ≤ 4611686014132420609 → t ≡ b64 b *ℤ b64 d → pos 1 ≤ℤ b64 t
    below t h e = subst (λ z. pos 1 ≤ℤ z) (sym (prod_back b d t P.fit_b Q.fit_b h e)) (prod_pos b d P.low Q.low)

    pub returns_add : (r s t : ℤ) (z : Result Pair Fault) → nat_abs r ≤ 4611686014132420609 → nat_abs s ≤ 4611686014132420609 → nat_abs t ≤ 4611686014132420609 → r ≡ b64 a *ℤ b64 d → s ≡ b64 c *ℤ b64 b → t ≡ b64 b *ℤ b64 d → z ≡ taken means code (b64 (b64 r +ℤ b64 s)) (b64 t) → z ≡ exact2 means code add p q
    returns_add r s t z hr hs ht er es et e =
        let br = prod_back a d r P.fit_a Q.fit_b hr er in
        let bs = prod_back c b s Q.fit_a P.fit_b hs es in
        let bt = prod_back b d t P.fit_b Q.fit_b ht et in
        e ∙ taken_is _ _ (below t ht et) ∙ ap₂ outcome (sum_back r s _ _ hr hs br bs) bt ∙ ap (λ x. held (code x)) (sym (add_is P.frac Q.frac a b c d P.num_is P.den_is Q.num_is Q.den_is)) ∙ both_of (via add)

    pub returns_sub : (r s t : ℤ) (z : Result Pair Fault) → nat_abs r ≤ 4611686014132420609 → nat_abs s ≤ 4611686014132420609 → nat_abs t ≤ 4611686014132420609 → r ≡ b64 a *ℤ b64 d → s ≡ b64 c *ℤ b64 b → t ≡ b64 b *ℤ b64 d → z ≡ taken means code (b64 (b64 r -ℤ b64 s)) (b64 t) → z ≡ exact2 means code sub p q
    returns_sub r s t z hr hs ht er es et e =
        let br = prod_back a d r P.fit_a Q.fit_b hr er in
        let bs = prod_back c b s Q.fit_a P.fit_b hs es in
        let bt = prod_back b d t P.fit_b Q.fit_b ht et in
        e ∙ taken_is _ _ (below t ht et) ∙ ap₂ outcome (sub_back r s _ _ hr hs br bs) bt ∙ ap (λ x. held (code x)) (sym (sub_is P.frac Q.frac a b c d P.num_is P.den_is Q.num_is Q.den_is)) ∙ both_of (via sub)

    pub returns_mul : (r t : ℤ) (z : Result Pair Fault) → nat_abs r ≤ 4611686014132420609 → nat_abs t ≤ 4611686014132420609 → r ≡ b64 a *ℤ b64 c → t ≡ b64 b *ℤ b64 d → z ≡ taken means code (b64 r) (b64 t) → z ≡ exact2 means code mul p q
    returns_mul r t z hr ht er et e =
        let br = prod_back a c r P.fit_a Q.fit_a hr er in
        let bt = prod_back b d t P.fit_b Q.fit_b ht et in
        e ∙ taken_is _ _ (below t ht et) ∙ ap₂ outcome br bt ∙ ap (λ x. held (code x)) (sym (mul_is P.frac Q.frac a b c d P.num_is P.den_is Q.num_is Q.den_is)) ∙ both_of (via mul)

    pub divides_no : c ≡ pos 0 → Err ZeroDivisor ≡ divided means code p q
    divides_no e =
        sym (ap (λ z. cond (eqb (nat_abs z) 0) (Err ZeroDivisor) (held (code (div P.frac Q.frac)))) (Q.num_is ∙ e)) ∙ both_of quot_of

    divides : (w : Result Pair Fault) → ¬ (c ≡ pos 0) → w ≡ held (code (div P.frac Q.frac)) → w ≡ divided means code p q
    divides w h e =
        e ∙ sym (ap (λ t. cond t (Err ZeroDivisor) (held (code (div P.frac Q.frac)))) (ap (λ z. eqb (nat_abs z) 0) Q.num_is ∙ not_naught c h)) ∙ both_of quot_of

    pub returns_div_pos : (r t : ℤ) (z : Result Pair Fault) → pos 1 ≤ℤ c → nat_abs r ≤ 4611686014132420609 → nat_abs t ≤ 4611686014132420609 → r ≡ b64 a *ℤ b64 d → t ≡ b64 b *ℤ b64 c → z ≡ taken means code (b64 r) (b64 t) → z ≡ divided means code p q
    returns_div_pos r t z h hr ht er et e =
        let br = prod_back a d r P.fit_a Q.fit_b hr er in
        let bt = prod_back b c t P.fit_b Q.fit_a ht et in
        let up : pos 1 ≤ℤ b64 t = subst (λ s. pos 1 ≤ℤ s) (sym bt) (prod_pos b c P.low h) in
        divides z (λ n. omega (arith, ints)) (e ∙ taken_is _ _ up ∙ ap₂ outcome br bt ∙ ap (λ x. held (code x)) (sym (div_pos P.frac Q.frac a b c d P.num_is P.den_is Q.num_is Q.den_is h)))

    pub returns_div_neg : (r t : ℤ) (z : Result Pair Fault) → c <ℤ pos 0 → nat_abs r ≤ 4611686014132420609 → nat_abs t ≤ 4611686014132420609 → r ≡ b64 a *ℤ b64 d → t ≡ b64 b *ℤ b64 c → z ≡ taken means code (b64 (pos 0 -ℤ b64 r)) (b64 (pos 0 -ℤ b64 t)) → z ≡ divided means code p q
    returns_div_neg r t z h hr ht er et e =
        let br = prod_back a d r P.fit_a Q.fit_b hr er in
        let bt = zero_less_back t _ ht (prod_back b c t P.fit_b Q.fit_a ht et) in
        let over : pos 1 ≤ℤ neg_ℤ c = omega (arith, ints) in
        let up : pos 1 ≤ℤ b64 (pos 0 -ℤ b64 t) = subst (λ s. pos 1 ≤ℤ s) (neg_right b c ∙ sym bt) (prod_pos b (neg_ℤ c) P.low over) in
        divides z (λ n. omega (arith, ints)) (e ∙ taken_is _ _ up ∙ ap₂ outcome (zero_less_back r _ hr br) bt ∙ ap (λ x. held (code x)) (sym (div_neg P.frac Q.frac a b c d P.num_is P.den_is Q.num_is Q.den_is h)))

    pub returns_less : (r s : ℤ) → nat_abs r ≤ 4611686014132420609 → nat_abs s ≤ 4611686014132420609 → r ≡ b64 a *ℤ b64 d → s ≡ b64 c *ℤ b64 b → Ok (lt_z (b64 r) (b64 s)) ≡ asked2 means less p q
    returns_less r s hr hs er es =
        let br = prod_back a d r P.fit_a Q.fit_b hr er in
        let bs = prod_back c b s Q.fit_a P.fit_b hs es in
        ap Ok (ap₂ lt_z br bs ∙ sym (less_is P.frac Q.frac a b c d P.num_is P.den_is Q.num_is Q.den_is)) ∙ both_of (λ x y. Ok (less x y))

    pub returns_at_most : (r s : ℤ) → nat_abs r ≤ 4611686014132420609 → nat_abs s ≤ 4611686014132420609 → r ≡ b64 a *ℤ b64 d → s ≡ b64 c *ℤ b64 b → Ok (le_z (b64 r) (b64 s)) ≡ asked2 means at_most p q
    returns_at_most r s hr hs er es =
        let br = prod_back a d r P.fit_a Q.fit_b hr er in
        let bs = prod_back c b s Q.fit_a P.fit_b hs es in
        ap Ok (ap₂ le_z br bs ∙ sym (at_most_is P.frac Q.frac a b c d P.num_is P.den_is Q.num_is Q.den_is)) ∙ both_of (λ x y. Ok (at_most x y))

  module _ (p : Pair) (n k : ℕ) where
    abbrev asked : Bool → Bool → Bool → Option Frac → Result Pair Fault
    asked s t u o = cond (s && (t && u)) (of_one (λ x. held (code (scale x n k))) o) (Err NotHeld)

    refused : (s t u : Bool) (o : Option Frac) → (s ≡ false) ⊎ ((t ≡ false) ⊎ (u ≡ false)) → Err NotHeld ≡ asked s t u o
    refused false t u o h = refl
    refused true false u o h = refl
    refused true true false o h = refl
    refused true true true o (inl e) = absurd (subst T e tt)
    refused true true true o (inr (inl e)) = absurd (subst T e tt)
    refused true true true o (inr (inr e)) = absurd (subst T e tt)

    -- n or k is out of range
    pub scaled_no : (2147483647 < n) ⊎ ((k < 1) ⊎ (4 < k)) → Err NotHeld ≡ scaled means code p n k
    scaled_no (inl h) = refused (leb n 2147483647) (leb 1 k) (leb k 4) (means p) (inl (lt-leb n 2147483647 h))
    scaled_no (inr (inl h)) = refused (leb n 2147483647) (leb 1 k) (leb k 4) (means p) (inr (inl (lt-leb 1 k h)))
    scaled_no (inr (inr h)) = refused (leb n 2147483647) (leb 1 k) (leb k 4) (means p) (inr (inr (lt-leb k 4 h)))

    pub returns_scale : (a b r t : ℤ) (z : Result Pair Fault) → Read means p a b → n ≤ 2147483647 → 1 ≤ k → k ≤ 4 → nat_abs r ≤ 4611686014132420609 → nat_abs t ≤ 4611686014132420609 → r ≡ b64 a *ℤ to_z w64 n → t ≡ b64 b *ℤ to_z w64 k → z ≡ taken means code (b64 r) (b64 t) → z ≡ scaled means code p n k
    returns_scale a b r t z P hn hk hl hr ht er et e =
        let br : b64 r ≡ a *ℤ pos n = to_z-of_z w64 r (long_fits r hr) ∙ er ∙ ap₂ ◌*ℤ◌ (to_z-of_z w64 a P.fit_a) (to_z_pos w64 n (omega arith)) in
        let bt : b64 t ≡ b *ℤ pos k = to_z-of_z w64 t (long_fits t ht) ∙ et ∙ ap₂ ◌*ℤ◌ (to_z-of_z w64 b P.fit_b) (to_z_pos w64 k (omega arith)) in
        let up : pos 1 ≤ℤ b64 t = subst (λ s. pos 1 ≤ℤ s) (sym bt) (prod_pos b (pos k) P.low (omega (arith, ints))) in
        e ∙ taken_is _ _ up ∙ ap₂ outcome br bt ∙ ap (λ x. held (code x)) (sym (scale_is P.frac a b n k P.num_is P.den_is hk)) ∙ sym (λ i. asked (le-leb n 2147483647 hn i) (le-leb 1 k hk i) (le-leb k 4 hl i) (P.is i))
