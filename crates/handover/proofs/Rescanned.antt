-- The fields of a line that is written.
use Rattle.std.proofs.Common.{◌≡◌, ℕ, suc, ◌+◌, ◌-◌, ◌*◌, ◌<◌, ◌≤◌, Bool, true, false, cond, eqb, ltb, leb, List, [], ◌∷◌, ◌++◌, map, length, ℤ, pos, negsuc, nat_abs, Some, None, decimal, sym, refl, ap, ◌∙◌, ap₂, arith, rules}
use Rattle.std.specs.Fmt.{signed_decimal}
use Rattle.std.specs.Char.{is_ascii_digit}
use Rattle.std.specs.List.{AllByRecursion}
use Rattle.std.proofs.lemmas.Fmt.{digits_decimal, digits_value-decimal}
use Rattle.std.proofs.lemmas.List.{append_assoc, length_push}
use Rattle.std.proofs.lemmas.Str.Parse.{IsNumeralModel, numerals_by_fold}
use Rattle.std.proofs.lemmas.Bool.{cond-true, le-leb, lt-ltb, eqb-true}
use Rattle.number.specs.declared.Pair.{Pair}
use Rattle.number.specs.Frac.{Frac}
use Rattle.kinds.specs.Fractions.{pair_from}
use Rattle.motion.specs.Machine as M
use Rattle.handover.specs.declared.scanning.Number.{Number}
use Rattle.handover.specs.Texts.{count_text, terms_text}
use Rattle.handover.specs.Lines.{fields_by, fraction_text, text_of}
use Rattle.handover.specs.Scans.{blank, number, grown, with_digit, signed_by, pair_of_number, closed, scanned}
use Rattle.handover.specs.Laws.{Small, Plain}

-- ---- a run of digits
abbrev Run : List ℕ → Type 0
Run [] = Unit {0}
Run (b ∷ bs) = (is_ascii_digit b ≡ true) × Run bs

abbrev run_value : ℕ → List ℕ → ℕ
run_value v [] = v
run_value v (b ∷ bs) = run_value (v * 10 + (b - 48)) bs

own : IsNumeralModel Run (run_value 0)
own = numerals_by_fold Run (search rules) run_value (search rules)

at_least : (v : ℕ) (bs : List ℕ) → v ≤ run_value v bs
at_least v [] = omega arith
at_least v (b ∷ bs) = omega (arith, at_least (v * 10 + (b - 48)) bs)

-- digits behind what is read of a number, above its slash or below it
run : (mk : ℕ → Number) → ((v d : ℕ) → with_digit (mk v) d ≡ mk (grown v d)) → (fs : List Pair) (v : ℕ) (bs rest : List ℕ) → Run bs → run_value v bs ≤ 2147483647 → scanned fs (mk v) (bs ++ rest) ≡ scanned fs (mk (run_value v bs)) rest
run mk grows fs v [] rest h s = refl
run mk grows fs v (b ∷ bs) rest h s =
    let d : ℕ = b - 48 in
    let small : v ≤ 214748364 = omega (arith, at_least (v * 10 + d) bs) in
    let more : with_digit (mk v) d ≡ mk (v * 10 + d) = grows v d ∙ ap mk (cond-true (leb v 214748364) (v * 10 + d) v (le-leb v 214748364 small)) in
    cond-true (is_ascii_digit b) _ _ h.0 ∙ ap (λ x. scanned fs x (bs ++ rest)) more ∙ run mk grows fs (v * 10 + d) bs rest h.1 s

decimal_run : (mk : ℕ → Number) → ((v d : ℕ) → with_digit (mk v) d ≡ mk (grown v d)) → (fs : List Pair) (n : ℕ) (rest : List ℕ) → n ≤ 2147483647 → scanned fs (mk 0) (decimal n ++ rest) ≡ scanned fs (mk n) rest
decimal_run mk grows fs n rest h =
    let e : run_value 0 (decimal n) ≡ n = digits_value-decimal own n (omega arith) in
    run mk grows fs 0 (decimal n) rest (digits_decimal own n (omega arith)) (omega (arith, e)) ∙ ap (λ k. scanned fs (mk k) rest) e

-- ---- a value
abbrev below_zero : ℤ → Bool
below_zero (pos n) = false
below_zero (negsuc n) = true

signed_run : (fs : List Pair) (z : ℤ) (rest : List ℕ) → nat_abs z ≤ 2147483647 → scanned fs blank (signed_decimal z ++ rest) ≡ scanned fs (number (below_zero z) (nat_abs z) None) rest
signed_run fs (pos n) rest h = decimal_run (λ v. number false v None) (λ v d. refl) fs n rest h
signed_run fs (negsuc n) rest h = decimal_run (λ v. number true v None) (λ v d. refl) fs (suc n) rest h

-- the number that n / d is read as
abbrev terms_number : ℤ → ℕ → Number
terms_number z d = cond (eqb d 1) (number (below_zero z) (nat_abs z) None) (number (below_zero z) (nat_abs z) (Some d))

terms_run : (fs : List Pair) (z : ℤ) (d : ℕ) (rest : List ℕ) → nat_abs z ≤ 2147483647 → d ≤ 2147483647 → scanned fs blank (terms_text z (pos d) ++ rest) ≡ scanned fs (terms_number z d) rest
terms_run fs z d rest h k = by (eqb d 1)
  where
    by : (b : Bool) → scanned fs blank (cond b (signed_decimal z) (signed_decimal z ++ 47 ∷ decimal d) ++ rest) ≡ scanned fs (cond b (number (below_zero z) (nat_abs z) None) (number (below_zero z) (nat_abs z) (Some d))) rest
    by true = signed_run fs z rest h
    by false =
        ap (scanned fs blank) (append_assoc (signed_decimal z) (47 ∷ decimal d) rest)
        ∙ signed_run fs z (47 ∷ (decimal d ++ rest)) h
        ∙ decimal_run (λ v. number (below_zero z) (nat_abs z) (Some v)) (λ v e. refl) fs d rest k

signed_back : (z : ℤ) → signed_by (below_zero z) (nat_abs z) ≡ z
signed_back (pos n) = refl
signed_back (negsuc n) = refl

terms_back : (z : ℤ) (d : ℕ) → pair_of_number (terms_number z d) ≡ pair_from z d
terms_back z d = by (eqb d 1) refl
  where
    by : (b : Bool) → eqb d 1 ≡ b → pair_of_number (cond b (number (below_zero z) (nat_abs z) None) (number (below_zero z) (nat_abs z) (Some d))) ≡ pair_from z d
    by true e = ap₂ pair_from (signed_back z) (sym (eqb-true d 1 e))
    by false e = ap (λ y. pair_from y d) (signed_back z)

-- ---- the values
-- the pair of a fraction
abbrev pub terms_pair : Frac → Pair
terms_pair q = pair_from q.num q.den

closed_one : (fs : List Pair) (p : Pair) → length fs < 21 → closed fs p ≡ fs ++ p ∷ []
closed_one fs p h = cond-true (ltb (length fs) 21) _ _ (lt-ltb (length fs) 21 h)

fields_run : (fs : List Pair) (x : Number) (qs : List Frac) → AllByRecursion Small qs → length fs + length qs < 21 → scanned fs x (fields_by fraction_text qs ++ 10 ∷ []) ≡ fs ++ pair_of_number x ∷ map terms_pair qs
fields_run fs x [] s h = closed_one fs (pair_of_number x) (omega arith)
fields_run fs x (q ∷ qs) s h =
    let rest : List ℕ = fields_by fraction_text qs ++ 10 ∷ [] in
    let y : Number = terms_number q.num q.den in
    let gs : List Pair = fs ++ pair_of_number x ∷ [] in
    ap (λ gs. scanned gs blank ((fraction_text q ++ fields_by fraction_text qs) ++ 10 ∷ [])) (closed_one fs (pair_of_number x) (omega arith))
    ∙ ap (scanned gs blank) (append_assoc (fraction_text q) (fields_by fraction_text qs) (10 ∷ []))
    ∙ terms_run gs q.num q.den rest s.0.0 s.0.1
    ∙ fields_run gs y qs s.1 (omega (arith, length_push fs (pair_of_number x)))
    ∙ append_assoc fs (pair_of_number x ∷ []) (pair_of_number y ∷ map terms_pair qs)
    ∙ ap (λ p. fs ++ pair_of_number x ∷ (p ∷ map terms_pair qs)) (terms_back q.num q.den)

-- ---- the head
abbrev pub count_pair : ℕ → Pair
count_pair n = pair_from (pos n) 1

count_run : (fs : List Pair) (x : Number) (n : ℕ) (more rest : List ℕ) → n ≤ 2147483647 → scanned fs x ((count_text n ++ more) ++ rest) ≡ scanned (closed fs (pair_of_number x)) (number false n None) (more ++ rest)
count_run fs x n more rest h =
    ap (scanned (closed fs (pair_of_number x)) blank) (append_assoc (decimal n) more rest) ∙ decimal_run (λ v. number false v None) (λ v d. refl) (closed fs (pair_of_number x)) n (more ++ rest) h

last_run : (fs : List Pair) (x : Number) (n : ℕ) (rest : List ℕ) → n ≤ 2147483647 → scanned fs x (count_text n ++ rest) ≡ scanned (closed fs (pair_of_number x)) (number false n None) rest
last_run fs x n rest h = decimal_run (λ v. number false v None) (λ v d. refl) (closed fs (pair_of_number x)) n rest h

-- all fields of a line
pub fields_back : (w : M.Bench Frac) → Plain w → scanned [] blank (text_of w) ≡ pair_of_number blank ∷ count_pair w.line ∷ count_pair w.left ∷ count_pair w.total ∷ count_pair w.over ∷ map terms_pair w.values
fields_back w p =
    let i = p.within in
    let values : List ℕ = fields_by fraction_text w.values ++ 10 ∷ [] in
    let left : List ℕ = count_text w.left ++ (count_text w.total ++ count_text w.over) in
    let c1 : List Pair = pair_of_number blank ∷ [] in
    let c2 : List Pair = pair_of_number blank ∷ count_pair w.line ∷ [] in
    let c3 : List Pair = pair_of_number blank ∷ count_pair w.line ∷ count_pair w.left ∷ [] in
    let c4 : List Pair = pair_of_number blank ∷ count_pair w.line ∷ count_pair w.left ∷ count_pair w.total ∷ [] in
    count_run [] blank w.line left values (omega (arith, i.line_most))
    ∙ count_run c1 (number false w.line None) w.left (count_text w.total ++ count_text w.over) values i.left_most
    ∙ count_run c2 (number false w.left None) w.total (count_text w.over) values i.total_most
    ∙ last_run c3 (number false w.total None) w.over values i.over_most
    ∙ fields_run c4 (number false w.over None) w.values p.small (omega (arith, i.few))
