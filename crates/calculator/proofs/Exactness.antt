-- Where a kind replies, it gives the exact answer.
use Rattle.std.proofs.Common.{◌≡◌, Bool, true, false, cond, ℤ, pos, nat_abs, Some, Ok, Err, Option, Result, sym, refl, ap, ◌∙◌, subst, ap₂}
use lib.Signed.{le_z}
use Rattle.number.specs.declared.Pair.{Pair}
use Rattle.number.specs.declared.Fault.{Fault}
use Rattle.number.specs.declared.Fault.TheVariants.{NotHeld, ZeroDivisor}
use Rattle.number.specs.Frac.{Frac, norm, add, sub, mul, div, scale, less, at_most}
use Rattle.number.specs.Kind.{Holds, held, then, taken, of_one, of_two, exact2, divided, scaled, asked2, is_naught}
use Rattle.number.proofs.Answered.{err_ok, held_ok, exact2_means, scaled_means}
use Rattle.number.specs.declared.Operation.{Operation}
use Rattle.number.specs.declared.Operation.TheVariants.{Add, Sub, Mul, Div, Lt, Le}
use Rattle.number.specs.declared.Answer.TheVariants as answer
use Rattle.calculator.specs.declared.reading.Question.{Question}
use Rattle.calculator.specs.declared.reading.Question.TheVariants.{Take, Two, Scale}
use Rattle.calculator.specs.declared.answering.Reply.{Reply}
use Rattle.calculator.specs.declared.answering.Reply.TheVariants.{Number, Truth}
use Rattle.calculator.specs.Answering.{told, told_answer, replied2, replied, written, number_reply, exactly2, exactly, Exact}

-- a reply that is a, if it is one
abbrev Is : Reply → Result Reply Fault → Type 0
Is a (Ok b) = b ≡ a
Is a (Err e) = Unit {0}

-- what holds after each good answer holds after `then`
after : {A : Type 0} (a : Reply) (r : Result A Fault) (f : A → Result Reply Fault) → ((x : A) → r ≡ Ok x → Is a (f x)) → Is a (then r f)
after a (Ok x) f h = h x refl
after a (Err e) f h = tt

module _ (means : Pair → Option Frac) (code : Frac → Option Pair) (laws : Holds means code) where
  is_told : (p : Pair) (x : Frac) → means p ≡ Some x → Is (number_reply x) (told means p)
  is_told p x e =
      subst (Is (number_reply x)) (sym (ap (λ o. then {A = ℤ × ℤ} (of_one (λ y. Ok (y.num, pos y.den)) o) (λ t. Ok (Number t.0 t.1))) e)) refl

  taken_means : (n d : ℤ) (p : Pair) → taken means code n d ≡ Ok p → means p ≡ Some (norm n (nat_abs d))
  taken_means n d p h = by (le_z (pos 1) d) h
    where
      by : (b : Bool) → cond b (held (code (norm n (nat_abs d)))) (Err NotHeld) ≡ Ok p → means p ≡ Some (norm n (nat_abs d))
      by true e = laws.back (norm n (nat_abs d)) p (held_ok (code (norm n (nat_abs d))) p e)
      by false e = absurd (err_ok NotHeld p e)

  divided_means : (p q s : Pair) (x y : Frac) → means p ≡ Some x → means q ≡ Some y → divided means code p q ≡ Ok s → means s ≡ Some (div x y)
  divided_means p q s x y ex ey h =
      by (is_naught y) (sym (ap₂ (of_two (λ u v. cond (is_naught v) (Err ZeroDivisor) (held (code (div u v))))) ex ey) ∙ h)
    where
      by : (b : Bool) → cond b (Err ZeroDivisor) (held (code (div x y))) ≡ Ok s → means s ≡ Some (div x y)
      by true e = absurd (err_ok ZeroDivisor s e)
      by false e = laws.back (div x y) s (held_ok (code (div x y)) s e)

  asked_is : (test : Frac → Frac → Bool) (p q : Pair) (x y : Frac) (t : Bool) → means p ≡ Some x → means q ≡ Some y → asked2 means test p q ≡ Ok t → t ≡ test x y
  asked_is test p q x y t ex ey h =
      let e : Ok (test x y) ≡ Ok t = sym (ap₂ (of_two (λ u v. Ok (test u v))) ex ey) ∙ h in cc

  -- an operation that came to a number, and one that came to a truth
  as_number : (a : Reply) (r : Result Pair Fault) → Is a (then r (told means)) → Is a (then (then r (λ s. Ok (answer.Number s))) (told_answer means))
  as_number a (Ok s) h = h
  as_number a (Err e) h = h

  as_truth : (a : Reply) (r : Result Bool Fault) → Is a (then r (λ t. Ok (Truth t))) → Is a (then (then r (λ t. Ok (answer.Truth t))) (told_answer means))
  as_truth a (Ok t) h = h
  as_truth a (Err e) h = h

  is_two : (o : Operation) (p q : Pair) (x y : Frac) → means p ≡ Some x → means q ≡ Some y → Is (exactly2 o x y) (replied2 means code o p q)
  is_two Add p q x y ex ey = as_number _ (exact2 means code add p q) (after _ (exact2 means code add p q) (told means) (λ s e. is_told s (add x y) (exact2_means means code laws add p q s x y ex ey e)))
  is_two Sub p q x y ex ey = as_number _ (exact2 means code sub p q) (after _ (exact2 means code sub p q) (told means) (λ s e. is_told s (sub x y) (exact2_means means code laws sub p q s x y ex ey e)))
  is_two Mul p q x y ex ey = as_number _ (exact2 means code mul p q) (after _ (exact2 means code mul p q) (told means) (λ s e. is_told s (mul x y) (exact2_means means code laws mul p q s x y ex ey e)))
  is_two Div p q x y ex ey = as_number _ (divided means code p q) (after _ (divided means code p q) (told means) (λ s e. is_told s (div x y) (divided_means p q s x y ex ey e)))
  is_two Lt p q x y ex ey = as_truth _ (asked2 means less p q) (after _ (asked2 means less p q) (λ t. Ok (Truth t)) (λ t e. ap Truth (asked_is less p q x y t ex ey e)))
  is_two Le p q x y ex ey = as_truth _ (asked2 means at_most p q) (after _ (asked2 means at_most p q) (λ t. Ok (Truth t)) (λ t e. ap Truth (asked_is at_most p q x y t ex ey e)))

  is_reply : (q : Question) → Is (exactly q) (replied means code q)
  is_reply (Take x) = after _ (taken means code x.n x.d) (told means) (λ p e. is_told p (written x) (taken_means x.n x.d p e))
  is_reply (Two o x y) =
      after _ (taken means code x.n x.d) (λ p. then (taken means code y.n y.d) (λ q. replied2 means code o p q)) (λ p e. after _ (taken means code y.n y.d) (λ q. replied2 means code o p q) (λ q f. is_two o p q (written x) (written y) (taken_means x.n x.d p e) (taken_means y.n y.d q f)))
  is_reply (Scale x n k) =
      after _ (taken means code x.n x.d) (λ p. then (scaled means code p n k) (told means)) (λ p e. after _ (scaled means code p n k) (told means) (λ s f. is_told s (scale (written x) n k) (scaled_means means code laws p s (written x) n k (taken_means x.n x.d p e) f)))

  pub exact_reply : (q : Question) → Exact q (replied means code q)
  exact_reply q = by (replied means code q) (is_reply q)
    where
      by : (r : Result Reply Fault) → Is (exactly q) r → Exact q r
      by (Ok a) h = h
      by (Err e) h = tt
