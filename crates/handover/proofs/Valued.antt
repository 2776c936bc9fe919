-- The values of a bench as they are written.
use Rattle.std.proofs.Common.{◌≡◌, ℕ, suc, ◌≤◌, ◌∷◌, ◌++◌, length, ℤ, pos, negsuc, nat_abs, Some, None, Ok, decimal, Option, sym, refl, ap, ◌∙◌, ap₂, arith, w64}
use Rattle.std.specs.Fmt.{signed_decimal}
use Rattle.std.proofs.lemmas.Fmt.{length-decimal-le}
use Rattle.std.proofs.lemmas.List.{length-append}
use Rattle.std.proofs.lemmas.Int.{to_z-of_z}
use Rattle.std.proofs.lemmas.Bool.{cond_both}
use Rattle.number.specs.declared.Pair.{Pair}
use Rattle.number.specs.Frac.{Frac}
use Rattle.number.specs.Kind.{Holds, in_terms}
use Rattle.number.proofs.Ops.{read, b64}
use Rattle.handover.specs.Texts.{is_one, terms_text}
use Rattle.handover.specs.Lines.{meant_text}

-- ---- how long a value is
pub short_decimal : (n : ℕ) → n ≤ 2147483647 → length (decimal n) ≤ 10
short_decimal n h = length-decimal-le 10 n (omega arith) (omega arith) (omega arith)

short_signed : (z : ℤ) → nat_abs z ≤ 2147483647 → length (signed_decimal z) ≤ 11
short_signed (pos n) h = omega (arith, short_decimal n h)
short_signed (negsuc n) h = omega (arith, short_decimal (suc n) h)

pub short_terms : (n : ℤ) (d : ℕ) → nat_abs n ≤ 2147483647 → d ≤ 2147483647 → length (terms_text n (pos d)) ≤ 22
short_terms n d h k =
    let s = short_signed n h in
    cond_both (is_one (pos d)) (signed_decimal n) (signed_decimal n ++ 47 ∷ decimal d) (λ bs. length bs ≤ 22) (λ e. omega arith)
    (λ e. omega (arith, length-append (signed_decimal n) (47 ∷ decimal d), short_decimal d k))

-- ---- what the lowest terms of a number are written as
module _ (means : Pair → Option Frac) (code : Frac → Option Pair) (laws : Holds means code) where
  pub terms_meant : (p : Pair) (n d : ℤ) → Ok (n, d) ≡ in_terms means p → terms_text (b64 n) (b64 d) ≡ meant_text (means p)
  terms_meant p n d e =
      let r = read means code laws p n d e in
      ap₂ terms_text (to_z-of_z w64 n r.fit_a ∙ sym r.num_is) (to_z-of_z w64 d r.fit_b ∙ sym r.den_is) ∙ sym (ap meant_text r.is)

  pub meant_short : (p : Pair) → length (meant_text (means p)) ≤ 22
  meant_short p = by (means p) refl
    where
      by : (o : Option Frac) → means p ≡ o → length (meant_text o) ≤ 22
      by None m = omega arith
      by (Some q) m = let s = laws.small q p (laws.forth p q m) in short_terms q.num q.den s.0 s.1
