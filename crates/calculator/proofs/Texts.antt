-- What the text functions of the library answer, in the words of the reading.
use Rattle.std.proofs.Common.{◌≡◌, ℕ, suc, ◌^◌, ◌<◌, Bool, true, cond, ◌&&◌, T, eqb, ltb, List, [], ◌∷◌, ◌++◌, length, get_or, ℤ, Some, None, Ok, Err, Option, Result, sym, refl, ap, ◌∙◌, subst, arith, le→leb, eqb→eq, leb→le, w64, Bor}
use lib.Dec.{eqb_refl}
use lib.Signed.{mag}
use Rattle.std.specs.Result.{OkIff, MatchResult, IsErrAnd, result_ok}
use Rattle.std.specs.Option.{option_map}
use Rattle.std.specs.Str.Parse.{IsNumeral, without_leading_plus, without_leading_sign, digits_value, signed_digits_value, ParsesUnsigned, ParsesSigned}
use Rattle.std.specs.Str.{all_ascii_digits}
use Rattle.std.proofs.lemmas.Str.Parse.{IsNumeralModel, numerals_by_value, tells_all_ascii_digits}
use Rattle.std.proofs.lemmas.Str.Pattern.{IsSplitOnceResult, split_parts}
use Rattle.number.proofs.Tests.{is_true, is_false, two_t, join_t}
use Rattle.calculator.specs.Reading.{both_now, onto, parted, numeral, integer_of, natural_of}

-- ---- parts
parted_at : (c : ℕ) (xs ys : List ℕ) → ((i : ℕ) → i < length xs → get_or xs i 0 ≡ c → ⊥) → parted c (xs ++ (c ∷ ys)) ≡ Some (xs, ys)
parted_at c [] ys free = ap (λ b. cond b (Some ([], ys)) (onto c (parted c ys))) (is_true (eqb c c) (eqb_refl c))
parted_at c (x ∷ xs) ys free =
    ap (λ b. cond b (Some ([], xs ++ (c ∷ ys))) (onto x (parted c (xs ++ (c ∷ ys))))) (is_false (eqb x c) (λ t. free 0 (omega arith) (eqb→eq x c t)))
    ∙ ap (onto x) (parted_at c xs ys (λ i h. free (suc i) (omega arith)))

parted_none : (c : ℕ) (bs : List ℕ) → ((i : ℕ) → i < length bs → get_or bs i 0 ≡ c → ⊥) → parted c bs ≡ None
parted_none c [] free = refl
parted_none c (x ∷ xs) free =
    ap (λ b. cond b (Some ([], xs)) (onto x (parted c xs))) (is_false (eqb x c) (λ t. free 0 (omega arith) (eqb→eq x c t)))
    ∙ ap (onto x) (parted_none c xs (λ i h. free (suc i) (omega arith)))

pub parted_is : (c : ℕ) (bs : List ℕ) (r : Option (Bor (List ℕ) × Bor (List ℕ))) → c < 128 → IsSplitOnceResult c bs r → option_map both_now r ≡ parted c bs
parted_is c bs None h s = sym (parted_none c bs (split_parts c bs None s h))
parted_is c bs (Some x) h s =
    let p = split_parts c bs (Some x) s h in
    sym (ap (parted c) p.0 ∙ parted_at c x.0.now x.1.now p.1)

-- ---- numbers
converted_is : {V E : Type 0} (r : Result V E) (P : Type 0) (v : V) (b : Bool) → (P → T b) → (T b → P) → OkIff r P v → result_ok r ≡ cond b (Some v) None
converted_is (Ok x) P v b to from h = ap Some h.1 ∙ sym (ap (λ t. cond t (Some v) None) (is_true b (to h.0)))
converted_is (Err e) P v b to from h = sym (ap (λ t. cond t (Some v) None) (is_false b (λ t. h (from t))))

own : IsNumeralModel (λ ds. all_ascii_digits ds ≡ true) (digits_value 10)
own = numerals_by_value (λ ds. all_ascii_digits ds ≡ true) tells_all_ascii_digits

to_numeral : (ds : List ℕ) → IsNumeral 10 ds → T (numeral ds)
to_numeral ds h = join_t (ltb 0 (length ds)) (all_ascii_digits ds) (le→leb 1 (length ds) h.0) (subst T (sym (own.from ds h.1)) tt)

from_numeral : (ds : List ℕ) → T (numeral ds) → IsNumeral 10 ds
from_numeral ds t = let s = two_t (ltb 0 (length ds)) (all_ascii_digits ds) t in (leb→le 1 (length ds) s.0, own.to ds (is_true (all_ascii_digits ds) s.1))

pub integer_is : {E : Type 0} (bs : List ℕ) (r : Result ℤ E) → ParsesSigned w64 10 bs r → result_ok r ≡ integer_of bs
integer_is bs r h =
    let ds : List ℕ = without_leading_sign bs in
    let z : ℤ = signed_digits_value 10 bs in
    converted_is r _ z (numeral ds && ltb (mag z) (2 ^ 63)) (λ p. join_t (numeral ds) (ltb (mag z) (2 ^ 63)) (to_numeral ds p.0) (le→leb (suc (mag z)) (2 ^ 63) p.1.sfits))
    (λ t. let s = two_t (numeral ds) (ltb (mag z) (2 ^ 63)) t in (from_numeral ds s.0, record { sfits = leb→le (suc (mag z)) (2 ^ 63) s.1 })) h

pub natural_is : {E : Type 0} (bs : List ℕ) (r : Result ℕ E) → ParsesUnsigned 32 10 bs r → result_ok r ≡ natural_of bs
natural_is bs r h =
    let ds : List ℕ = without_leading_plus bs in
    let n : ℕ = digits_value 10 ds in
    converted_is r _ n (numeral ds && ltb n (2 ^ 32)) (λ p. join_t (numeral ds) (ltb n (2 ^ 32)) (to_numeral ds p.0) (le→leb (suc n) (2 ^ 32) p.1))
    (λ t. let s = two_t (numeral ds) (ltb n (2 ^ 32)) t in (from_numeral ds s.0, leb→le (suc n) (2 ^ 32) s.1)) h

-- another error in place of the first
pub mapped_ok : {V E D : Type 0} (r : Result V E) (s : Result V D) (P : E → D → Type 0) → MatchResult r (λ x. s ≡ Ok x) (λ e. IsErrAnd s (P e)) → result_ok s ≡ result_ok r
mapped_ok (Ok x) s P h = ap result_ok h
mapped_ok (Err e) (Err d) P h = refl
mapped_ok (Err e) (Ok y) P h = absurd h
