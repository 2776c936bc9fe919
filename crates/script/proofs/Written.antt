-- Bytes are read as a number exactly where they write it. Assumes nothing.
use Rattle.std.proofs.Common.{◌≡◌, ℕ, suc, ◌+◌, ◌≤◌, Bool, true, false, cond, ◌&&◌, ◌||◌, eqb, ltb, leb, List, [], ◌∷◌, ◌++◌, length, get_or, take, drop, Some, None, Decides, Option, sym, refl, ap, ◌∙◌, arith}
use Rattle.std.proofs.lemmas.List.{take_at, drop_at, append-nil, append_assoc, length-append, length_push}
use Rattle.std.proofs.lemmas.Bool.Decides.{nat_tests}
use Rattle.std.proofs.ByRecursion.{Decides-by_and}
use Rattle.std.specs.List.{AllByRecursion}
use Rattle.script.specs.declared.numbers.Number.{Number}
use Rattle.script.specs.Numbers.{digit, most, digit_run, before_slash, over, fraction, number_of, all_digits, run_value}
use Rattle.script.specs.Numerals.{Digit, Digits, Quotient, whole, parted, number, Numeral, plain, negative, Written, NumeralsRead, NumeralsShown, NumeralsRefused}
use Rattle.script.proofs.Values.{bounded_runs}

-- a run of digits ---------------------------------------------------------------

-- no digit stands here, or a zero in front of others
abbrev bad_front : List ℕ → Bool
bad_front bs = eqb (length bs) 0 || (ltb 1 (length bs) && eqb (get_or bs 0 0) 48)

digit_decides : (b : ℕ) → Decides (digit b) (Digit b)
digit_decides b = (λ h. (grind (arith, nat_tests), grind (arith, nat_tests)), λ h. grind (arith, nat_tests))

digits_decide : (bs : List ℕ) → Decides (all_digits bs) (AllByRecursion Digit bs)
digits_decide bs = Decides-by_and digit Digit all_digits digit_decides refl (λ _ _. refl) bs

-- the four tests of a run that gives a value
record Passed (front every low : Bool) (v n : ℕ) : Type 0 where
  front_is : front ≡ false
  every_is : every ≡ true
  low_is : low ≡ true
  is : v ≡ n

passed : (front every low : Bool) (v n : ℕ) → cond front None (cond (every && low) (Some v) None) ≡ Some n → Passed front every low v n
passed true every low v n h = let z : ◌≡◌ {A = ℕ} 0 1 = cc in absurd (omega arith)
passed false true true v n h = record { front_is = refl; every_is = refl; low_is = refl; is = cc }
passed false true false v n h = let z : ◌≡◌ {A = ℕ} 0 1 = cc in absurd (omega arith)
passed false false low v n h = let z : ◌≡◌ {A = ℕ} 0 1 = cc in absurd (omega arith)

alone : (bs rest : List ℕ) → bad_front bs ≡ false → bs ≡ 48 ∷ rest → rest ≡ []
alone bs [] h e = refl
alone bs (r ∷ rest) h e =
    let l : length bs ≡ suc (suc (length rest)) = ap length e in
    let f : get_or bs 0 0 ≡ 48 = ap (λ xs. get_or xs 0 0) e in
    absurd (grind (arith, nat_tests))

good_front : (bs : List ℕ) → 1 ≤ length bs → ((rest : List ℕ) → bs ≡ 48 ∷ rest → rest ≡ []) → bad_front bs ≡ false
good_front [] h k = absurd (omega arith)
good_front (b ∷ []) h k = grind (arith, nat_tests)
good_front (b ∷ c ∷ cs) h k =
    let ne : b ≡ 48 → ⊥ = λ e. let n = k (c ∷ cs) (ap (λ x. x ∷ c ∷ cs) e) in let z : ◌≡◌ {A = ℕ} 0 1 = cc in omega arith in
    grind (arith, nat_tests)

run_is : (bs : List ℕ) → digit_run bs ≡ cond (bad_front bs) None (cond (all_digits bs && leb (run_value 0 bs) most) (Some (run_value 0 bs)) None)
run_is bs = ap (cond (bad_front bs) None) (bounded_runs bs)

run_reads : (bs : List ℕ) (n : ℕ) → digit_run bs ≡ Some n → Digits bs n
run_reads bs n h =
    let p = passed (bad_front bs) (all_digits bs) (leb (run_value 0 bs) most) (run_value 0 bs) n (sym (run_is bs) ∙ h) in
    let front = p.front_is in
    let low = p.low_is in
    let is = p.is in
    record { some = grind (arith, nat_tests); digits = (digits_decide bs).0 p.every_is; zero_alone = λ rest e. alone bs rest front e; value = is; small = grind (arith, nat_tests) }

run_back : (bs : List ℕ) (n : ℕ) → Digits bs n → digit_run bs ≡ Some n
run_back bs n d =
    let front : bad_front bs ≡ false = good_front bs d.some d.zero_alone in
    let every : all_digits bs ≡ true = (digits_decide bs).1 d.digits in
    let v = d.value in
    let s = d.small in
    let low : leb (run_value 0 bs) most ≡ true = grind (arith, nat_tests) in
    run_is bs ∙ rw (front, every, low, v)

-- the slash -----------------------------------------------------------------------

step_over : (b : ℕ) (bs : List ℕ) (k n m : ℕ) → n ≡ suc k → m ≡ suc (k + 1) → bs ≡ take k bs ++ 47 ∷ drop (k + 1) bs → (b ∷ bs) ≡ take n (b ∷ bs) ++ 47 ∷ drop m (b ∷ bs)
step_over b bs k n m p q h = rw (p, q) (ap (λ xs. b ∷ xs) h)

one_byte : (b : ℕ) (bs : List ℕ) (k : ℕ) (t : Bool) → eqb b 47 ≡ t → (t ≡ false → bs ≡ take k bs ++ 47 ∷ drop (k + 1) bs) → (b ∷ bs) ≡ take (cond t 0 (k + 1)) (b ∷ bs) ++ 47 ∷ drop (cond t 0 (k + 1) + 1) (b ∷ bs)
one_byte b bs k true e h = let f : b ≡ 47 = grind (arith, nat_tests) in ap (λ x. x ∷ bs) f
one_byte b bs k false e h = step_over b bs k (k + 1) (k + 1 + 1) (omega arith) (omega arith) (h refl)

-- the first slash parts the bytes, where there is one
slash_parts : (bs : List ℕ) → (before_slash bs ≡ length bs → ⊥) → bs ≡ take (before_slash bs) bs ++ 47 ∷ drop (before_slash bs + 1) bs
slash_parts [] h = absurd (h refl)
slash_parts (b ∷ bs) h =
    one_byte b bs (before_slash bs) (eqb b 47) refl (λ e. slash_parts bs (λ k. h (rw e (omega (arith, k)))))

-- no slash stands among digits
slash_after : (ts bs : List ℕ) → AllByRecursion Digit ts → before_slash (ts ++ bs) ≡ length ts + before_slash bs
slash_after [] bs h = omega arith
slash_after (a ∷ ts) bs h =
    let p = slash_after ts bs h.1 in
    let low = h.0.0 in
    let e : eqb a 47 ≡ false = grind (arith, nat_tests) in
    rw e (omega arith)

no_slash : (bs : List ℕ) → AllByRecursion Digit bs → before_slash bs ≡ length bs
no_slash bs h = let p = ap before_slash (sym (append-nil bs)) ∙ slash_after bs [] h in omega arith

-- the two parts ---------------------------------------------------------------------

-- the parts of a number that is made
record Made (minus : Bool) (a b : Option ℕ) (x : Number) : Type 0 where
  top : ℕ
  bottom : ℕ
  top_is : a ≡ Some top
  bottom_is : b ≡ Some bottom
  not_zero : 1 ≤ bottom
  signed : minus ≡ true → 1 ≤ top
  is : x ≡ number minus top bottom

made_by : (minus : Bool) (top bottom : ℕ) (x : Number) (t : Bool) → (eqb bottom 0 || (minus && eqb top 0)) ≡ t → cond t None (Some (number minus top bottom)) ≡ Some x → Made minus (Some top) (Some bottom) x
made_by minus top bottom x true e h = let z : ◌≡◌ {A = ℕ} 0 1 = cc in absurd (omega arith)
made_by minus top bottom x false e h =
    record { top = top; bottom = bottom; top_is = refl; bottom_is = refl; not_zero = grind (arith, nat_tests); signed = λ s. grind (arith, nat_tests); is = cc }

made : (minus : Bool) (a b : Option ℕ) (x : Number) → over minus a b ≡ Some x → Made minus a b x
made minus (Some top) (Some bottom) x h = made_by minus top bottom x (eqb bottom 0 || (minus && eqb top 0)) refl h
made minus (Some top) None x h = let z : ◌≡◌ {A = ℕ} 0 1 = cc in absurd (omega arith)
made minus None b x h = let z : ◌≡◌ {A = ℕ} 0 1 = cc in absurd (omega arith)

over_back : (minus : Bool) (top bottom : ℕ) → 1 ≤ bottom → (minus ≡ true → 1 ≤ top) → over minus (Some top) (Some bottom) ≡ Some (number minus top bottom)
over_back true top bottom h k = let l = k refl in let e : (eqb bottom 0 || eqb top 0) ≡ false = grind (arith, nat_tests) in rw e
over_back false top bottom h k = let e : (eqb bottom 0 || false) ≡ false = grind (arith, nat_tests) in rw e

-- the bytes are the two parts of a number
record Held (minus : Bool) (bs : List ℕ) (x : Number) : Type 0 where
  top : ℕ
  bottom : ℕ
  quotient : Quotient bs top bottom
  signed : minus ≡ true → 1 ≤ top
  is : x ≡ number minus top bottom

parted_at : (bs ts cs : List ℕ) (top bottom : ℕ) → bs ≡ ts ++ 47 ∷ cs → Digits ts top → Digits cs bottom → 1 ≤ bottom → Quotient bs top bottom
parted_at bs ts cs top bottom e a c h = rw e (parted a c h)

whole_at : (bs : List ℕ) (top bottom : ℕ) → bottom ≡ 1 → Digits bs top → Quotient bs top bottom
whole_at bs top bottom e d = rw e (whole d)

held_by : (minus : Bool) (bs : List ℕ) (x : Number) (t : Bool) → eqb (before_slash bs) (length bs) ≡ t → cond t (over minus (digit_run bs) (Some 1)) (over minus (digit_run (take (before_slash bs) bs)) (digit_run (drop (before_slash bs + 1) bs))) ≡ Some x → Held minus bs x
held_by minus bs x true e h =
    let m = made minus (digit_run bs) (Some 1) x h in
    let b : ◌≡◌ {A = Option ℕ} (Some 1) (Some m.bottom) = m.bottom_is in
    let one : m.bottom ≡ 1 = cc in
    record { top = m.top; bottom = m.bottom; quotient = whole_at bs m.top m.bottom one (run_reads bs m.top m.top_is); signed = m.signed; is = m.is }
held_by minus bs x false e h =
    let at = before_slash bs in
    let m = made minus (digit_run (take at bs)) (digit_run (drop (at + 1) bs)) x h in
    let ne : at ≡ length bs → ⊥ = λ f. grind (arith, nat_tests) in
    record { top = m.top; bottom = m.bottom; quotient = parted_at bs (take at bs) (drop (at + 1) bs) m.top m.bottom (slash_parts bs ne) (run_reads _ _ m.top_is) (run_reads _ _ m.bottom_is) m.not_zero; signed = m.signed; is = m.is }

held : (minus : Bool) (bs : List ℕ) (x : Number) → fraction minus bs ≡ Some x → Held minus bs x
held minus bs x h = held_by minus bs x (eqb (before_slash bs) (length bs)) refl h

fraction_whole : (minus : Bool) (bs : List ℕ) → before_slash bs ≡ length bs → fraction minus bs ≡ over minus (digit_run bs) (Some 1)
fraction_whole minus bs h = let e : eqb (before_slash bs) (length bs) ≡ true = grind (arith, nat_tests) in rw e

fraction_parted : (minus : Bool) (bs ts cs : List ℕ) (at : ℕ) → before_slash bs ≡ at → (at ≡ length bs → ⊥) → take at bs ≡ ts → drop (at + 1) bs ≡ cs → fraction minus bs ≡ over minus (digit_run ts) (digit_run cs)
fraction_parted minus bs ts cs at p ne a c = let e : eqb at (length bs) ≡ false = grind (arith, nat_tests) in rw (p, e, a, c)

drop_parted : (ts bs : List ℕ) → drop (length ts + 1) (ts ++ 47 ∷ bs) ≡ bs
drop_parted ts bs =
    let n : length (ts ++ 47 ∷ []) ≡ length ts + 1 = length_push ts 47 in
    ap (drop (length ts + 1)) (sym (append_assoc ts (47 ∷ []) bs)) ∙ drop_at (ts ++ 47 ∷ []) bs (length ts + 1) n

fraction_back : (minus : Bool) {bs : List ℕ} {top bottom : ℕ} → Quotient bs top bottom → (minus ≡ true → 1 ≤ top) → fraction minus bs ≡ Some (number minus top bottom)
fraction_back minus (whole {bs = bs} {top = top} d) k =
    fraction_whole minus bs (no_slash bs d.digits) ∙ rw (run_back bs top d) (over_back minus top 1 (omega arith) k)
fraction_back minus (parted {above = ts} {below = bs} {top = top} {bottom = bottom} a b h) k =
    let p = slash_after ts (47 ∷ bs) a.digits in
    let l = length-append ts (47 ∷ bs) in
    fraction_parted minus (ts ++ 47 ∷ bs) ts bs (length ts) (omega arith) (omega arith) (take_at ts (47 ∷ bs) (length ts) refl) (drop_parted ts bs)
    ∙ rw (run_back ts top a, run_back bs bottom b) (over_back minus top bottom h k)

-- the minus -------------------------------------------------------------------------

-- the bytes begin with a minus
abbrev begins_minus : List ℕ → Bool
begins_minus bs = ltb 0 (length bs) && eqb (get_or bs 0 0) 45

minus_first : (bs : List ℕ) → begins_minus bs ≡ true → bs ≡ 45 ∷ drop 1 bs
minus_first [] h = absurd (grind (arith, nat_tests))
minus_first (b ∷ bs) h = let e : b ≡ 45 = grind (arith, nat_tests) in ap (λ x. x ∷ bs) e

digit_first : (ts bs : List ℕ) (n : ℕ) → Digits ts n → begins_minus (ts ++ bs) ≡ false
digit_first [] bs n d = let s = d.some in absurd (omega arith)
digit_first (a ∷ ts) bs n d = let low = d.digits.0.0 in grind (arith, nat_tests)

no_minus : {bs : List ℕ} {top bottom : ℕ} → Quotient bs top bottom → begins_minus bs ≡ false
no_minus (whole {bs = bs} {top = top} d) = ap begins_minus (sym (append-nil bs)) ∙ digit_first bs [] top d
no_minus (parted {above = ts} {below = bs} {top = top} a b h) = digit_first ts (47 ∷ bs) top a

-- numerals --------------------------------------------------------------------------

numeral_at : {ts bs : List ℕ} {x y : Number} → bs ≡ ts → x ≡ y → Numeral ts y → Numeral bs x
numeral_at p q h = rw (p, q) h

reads_by : (bs : List ℕ) (x : Number) (t : Bool) → begins_minus bs ≡ t → cond t (fraction true (drop 1 bs)) (fraction false bs) ≡ Some x → Numeral bs x
reads_by bs x true e h = let k = held true (drop 1 bs) x h in numeral_at (minus_first bs e) k.is (negative k.quotient (k.signed refl))
reads_by bs x false e h = let k = held false bs x h in numeral_at refl k.is (plain k.quotient)

reads_back : {bs : List ℕ} {x : Number} → Numeral bs x → number_of bs ≡ Some x
reads_back (plain {bs = bs} q) = let e = no_minus q in rw e (fraction_back false q (λ f. let z : ◌≡◌ {A = ℕ} 0 1 = cc in absurd (omega arith)))
reads_back (negative {bs = bs} q h) = let e : begins_minus (45 ∷ bs) ≡ true = grind (arith, nat_tests) in rw e (fraction_back true q (λ f. h))

pub numerals_read : NumeralsRead
numerals_read bs x = (reads_by bs x (begins_minus bs) refl, reads_back)

-- the same of an answer that is the number of the bytes
pub written_by : (bs : List ℕ) (r : Option Number) → r ≡ number_of bs → Written bs r
written_by bs r e x = (λ h. (numerals_read bs x).0 (sym e ∙ h), λ h. e ∙ (numerals_read bs x).1 h)

-- examples --------------------------------------------------------------------------

pub numerals_shown : NumeralsShown
numerals_shown = record {
  nought = (numerals_read _ _).0 refl;
  largest = (numerals_read _ _).0 refl;
  fraction = (numerals_read _ _).0 refl;
  minus = (numerals_read _ _).0 refl;
  minus_fraction = (numerals_read _ _).0 refl;
}

none : (bs : List ℕ) → number_of bs ≡ None → (x : Number) → Numeral bs x → ⊥
none bs e x h = let f = reads_back h in let z : ◌≡◌ {A = ℕ} 0 1 = cc in omega arith

pub numerals_refused : NumeralsRefused
numerals_refused = record {
  empty = none _ refl;
  no_bottom = none _ refl;
  zero_first = none _ refl;
  too_large = none _ refl;
  zero_bottom = none _ refl;
  minus_zero = none _ refl;
}
