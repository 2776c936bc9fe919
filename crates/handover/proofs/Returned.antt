-- The bytes that are read as a bench are the lines of benches within the bounds.
use Rattle.std.proofs.Common.{◌≡◌, ℕ, suc, ◌-◌, ◌≤◌, Bool, true, false, cond, ◌&&◌, T, ltb, leb, List, [], ◌∷◌, ◌++◌, map, length, get_or, drop, ℤ, pos, negsuc, Some, None, Option, sym, refl, ap, ◌∙◌, subst, ap₂, arith, leb→le}
use Rattle.std.specs.Char.{is_ascii_digit}
use Rattle.std.specs.List.{AllByRecursion}
use Rattle.std.specs.Str.{bytes_eq}
use Rattle.std.proofs.lemmas.Slice.Eq.{bytes_eq-Decides}
use Rattle.std.proofs.lemmas.List.{length-map, length-drop, length_push}
use Rattle.std.proofs.lemmas.Bool.{and_from, and_parts, cond-true, cond-false, le-leb, le-ltb, ltb-true, cond_both}
use Rattle.number.specs.declared.Pair.{Pair}
use Rattle.number.specs.Frac.{Frac}
use Rattle.number.proofs.Tests.{none_some, is_true, join_t, two_t, leb_yes, chosen}
use Rattle.kinds.specs.Fractions.{frac_of, pair_of}
use Rattle.kinds.specs.Held.{fractions_held, pair_some, pair_from_code}
use Rattle.motion.specs.Machine as M
use Rattle.handover.specs.declared.scanning.Number.{Number}
use Rattle.handover.specs.Texts.{is_one}
use Rattle.handover.specs.Lines.{head_text, fields_by, fraction_text, meant_text, text_of, all_meant, line_of}
use Rattle.handover.specs.Scans.{closes, blank, with_digit, with_mark, pair_of_number, closed, scanned}
use Rattle.handover.specs.Takes.{then, count_of, no_field, counted, bench_from, if_same, read_of}
use Rattle.handover.specs.Laws.{OfKind, Within, Small, Plain, Formed}
use Rattle.handover.proofs.Lawful.{meant_all, all_are_meant}
use Rattle.handover.proofs.Rescanned.{terms_pair, count_pair, fields_back}

-- the same bench with pairs for fractions
abbrev pub pairs_bench : M.Bench Frac → M.Bench Pair
pairs_bench w = record { line = w.line; left = w.left; total = w.total; over = w.over; values = map terms_pair w.values }

-- ---- a written line is read
count_back : (least most n : ℕ) → least ≤ n → n ≤ most → count_of least most (count_pair n) ≡ Some n
count_back least most n h k = cond-true (leb least n && leb n most) (Some n) None (and_from (leb least n) (leb n most) (le-leb least n h) (le-leb n most k))

bench_back : (w : M.Bench Frac) (p : Pair) → Within w → bench_from (p ∷ count_pair w.line ∷ count_pair w.left ∷ count_pair w.total ∷ count_pair w.over ∷ map terms_pair w.values) ≡ Some (pairs_bench w)
bench_back w p i =
    let vs : List Pair = map terms_pair w.values in
    let made : ℕ → ℕ → ℕ → ℕ → Option (M.Bench Pair) = λ line left total over. Some (record { line = line; left = left; total = total; over = over; values = vs }) in
    let most : ℕ = 2147483647 in
    let o1 : Option ℕ = count_of 1 257 (count_pair w.line) in
    let o2 : Option ℕ = count_of 0 most (count_pair w.left) in
    let o3 : Option ℕ = count_of 0 most (count_pair w.total) in
    let o4 : Option ℕ = count_of 0 most (count_pair w.over) in
    cond-false _ _ _ (le-ltb (suc (suc (suc (suc (suc (length vs)))))) 5 (omega arith))
    ∙ ap (λ o. then o (λ line. then o2 (λ left. then o3 (λ total. then o4 (λ over. made line left total over))))) (count_back 1 257 w.line i.line_least i.line_most)
    ∙ ap (λ o. then o (λ left. then o3 (λ total. then o4 (λ over. made w.line left total over)))) (count_back 0 most w.left (omega arith) i.left_most)
    ∙ ap (λ o. then o (λ total. then o4 (λ over. made w.line w.left total over))) (count_back 0 most w.total (omega arith) i.total_most)
    ∙ ap (λ o. then o (λ over. made w.line w.left w.total over)) (count_back 0 most w.over (omega arith) i.over_most)

frac_back : (q : Frac) → Small q → frac_of (terms_pair q) ≡ Some q
frac_back q s = fractions_held.back q (terms_pair q) (pair_some q (join_t _ _ (subst T (sym (leb_yes _ _ s.0)) tt) (subst T (sym (leb_yes _ _ s.1)) tt)))

all_back : (qs : List Frac) → AllByRecursion Small qs → AllByRecursion (OfKind frac_of) (map terms_pair qs)
all_back [] s = tt
all_back (q ∷ qs) s = ((q, frac_back q s.0), all_back qs s.1)

fields_same : (qs : List Frac) → AllByRecursion Small qs → fields_by (λ p. meant_text (frac_of p)) (map terms_pair qs) ≡ fields_by fraction_text qs
fields_same [] s = refl
fields_same (q ∷ qs) s = ap₂ (λ t bs. (44 ∷ t) ++ bs) (ap meant_text (frac_back q s.0)) (fields_same qs s.1)

pub line_same : (w : M.Bench Frac) → AllByRecursion Small w.values → line_of frac_of (pairs_bench w) ≡ text_of w
line_same w s = ap (λ bs. head_text w.line w.left w.total w.over ++ (bs ++ 10 ∷ [])) (fields_same w.values s)

pub read_back : (w : M.Bench Frac) → Plain w → read_of (text_of w) ≡ Some (pairs_bench w)
read_back w p =
    let bytes : List ℕ = text_of w in
    let b : M.Bench Pair = pairs_bench w in
    ap (λ fs. then (bench_from fs) (if_same bytes)) (fields_back w p)
    ∙ ap (λ o. then o (if_same bytes)) (bench_back w (pair_of_number blank) p.within)
    ∙ cond-true (all_meant frac_of b.values && bytes_eq (line_of frac_of b) bytes) (Some b) None (and_from _ _ (all_are_meant frac_of b.values (all_back w.values p.small)) ((bytes_eq-Decides (line_of frac_of b) bytes).1 (line_same w p.small)))

-- ---- what is read is a written line
-- there are never more than 21 fields
closed_few : (fs : List Pair) (p : Pair) → length fs ≤ 21 → length (closed fs p) ≤ 21
closed_few fs p h = by (ltb (length fs) 21) refl
  where
    by : (b : Bool) → ltb (length fs) 21 ≡ b → length (cond b (fs ++ p ∷ []) fs) ≤ 21
    by true e = omega (arith, length_push fs p, ltb-true (length fs) 21 e)
    by false e = h

scanned_few : (fs : List Pair) (x : Number) (bs : List ℕ) → length fs ≤ 21 → length (scanned fs x bs) ≤ 21
scanned_few fs x [] h = h
scanned_few fs x (b ∷ bs) h =
    cond_both (is_ascii_digit b) _ _ (λ ps. length ps ≤ 21) (λ _. scanned_few fs (with_digit x (b - 48)) bs h)
    (λ _. cond_both (closes b) _ _ (λ ps. length ps ≤ 21) (λ _. scanned_few (closed fs (pair_of_number x)) blank bs (closed_few fs (pair_of_number x) h)) (λ _. scanned_few fs (with_mark x b) bs h))

some_same : {A : Type 0} (a b : A) → ◌≡◌ {A = Option A} (Some a) (Some b) → a ≡ b
some_same a b e = cc

then_some : {A B : Type 0} (o : Option A) (f : A → Option B) (b : B) → then o f ≡ Some b → (a : A) × (o ≡ Some a) × (f a ≡ Some b)
then_some (Some a) f b e = (a, refl, e)
then_some None f b e = absurd (none_some b e)

-- a count is within its bounds
count_from_is : (least most : ℕ) (a b : ℤ) (n : ℕ) → count_of least most (record { a = a; b = b }) ≡ Some n → (least ≤ n) × (n ≤ most)
count_from_is least most (pos k) b n e =
    let h = chosen (is_one b && (leb least k && leb k most)) k n e in
    let t = two_t (leb least k) (leb k most) (two_t (is_one b) (leb least k && leb k most) h.0).1 in
    (omega (arith, h.1, leb→le least k t.0), omega (arith, h.1, leb→le k most t.1))
count_from_is least most (negsuc k) b n e =
    let h = chosen (is_one b && false) (suc k) n e in
    absurd (two_t (is_one b) false h.0).1

counted_within : (fs : List Pair) (b : M.Bench Pair) → length fs ≤ 21 → counted fs ≡ Some b → Within b
counted_within fs b few e =
    let most : ℕ = 2147483647 in
    let f1 : Pair = get_or fs 1 no_field in
    let f2 : Pair = get_or fs 2 no_field in
    let f3 : Pair = get_or fs 3 no_field in
    let f4 : Pair = get_or fs 4 no_field in
    let s1 = then_some (count_of 1 257 f1) _ b e in
    let s2 = then_some (count_of 0 most f2) _ b s1.2 in
    let s3 = then_some (count_of 0 most f3) _ b s2.2 in
    let s4 = then_some (count_of 0 most f4) _ b s3.2 in
    let c1 = count_from_is 1 257 f1.a f1.b s1.0 s1.1 in
    let made : M.Bench Pair = record { line = s1.0; left = s2.0; total = s3.0; over = s4.0; values = drop 5 fs } in
    let same : made ≡ b = some_same made b s4.2 in
    subst (λ (x : M.Bench Pair). Within x) same (record {
      line_least = c1.0;
      line_most = c1.1;
      left_most = (count_from_is 0 most f2.a f2.b s2.0 s2.1).1;
      total_most = (count_from_is 0 most f3.a f3.b s3.0 s3.1).1;
      over_most = (count_from_is 0 most f4.a f4.b s4.0 s4.1).1;
      few = omega (arith, length-drop 5 fs);
    })

bench_within : (fs : List Pair) (b : M.Bench Pair) → length fs ≤ 21 → bench_from fs ≡ Some b → Within b
bench_within fs b few e = by (ltb (length fs) 5) e
  where
    by : (t : Bool) → cond t None (counted fs) ≡ Some b → Within b
    by true h = absurd (none_some b h)
    by false h = counted_within fs b few h

-- the fractions that these pairs mean
fractions_from : (ps : List Pair) → AllByRecursion (OfKind frac_of) ps → (qs : List Frac) × (map terms_pair qs ≡ ps) × AllByRecursion Small qs
fractions_from [] h = ([], refl, tt)
fractions_from (p ∷ ps) h =
    let q : Frac = h.0.0 in
    let e : pair_of q ≡ Some p = fractions_held.forth p q h.0.1 in
    let r = fractions_from ps h.1 in
    (q ∷ r.0, ap₂ (λ x xs. x ∷ xs) (pair_from_code q p e).1 r.1, (fractions_held.small q p e, r.2))

pub read_from : (bytes : List ℕ) (b : M.Bench Pair) → read_of bytes ≡ Some b → (f : Formed bytes) × (pairs_bench f.bench ≡ b)
read_from bytes b e =
    let fs : List Pair = scanned [] blank bytes in
    let s = then_some (bench_from fs) (if_same bytes) b e in
    let r : M.Bench Pair = s.0 in
    let c = chosen (all_meant frac_of r.values && bytes_eq (line_of frac_of r) bytes) r b s.2 in
    let t = and_parts (all_meant frac_of r.values) (bytes_eq (line_of frac_of r) bytes) (is_true _ c.0) in
    let i = bench_within fs r (scanned_few [] blank bytes (omega arith)) s.1 in
    let v = fractions_from r.values (meant_all frac_of r.values t.0) in
    let w : M.Bench Frac = record { line = r.line; left = r.left; total = r.total; over = r.over; values = v.0 } in
    let back : pairs_bench w ≡ r = ap (λ vs. record { line = r.line; left = r.left; total = r.total; over = r.over; values = vs }) v.1 in
    let within : Within w = record { line_least = i.line_least; line_most = i.line_most; left_most = i.left_most; total_most = i.total_most; over_most = i.over_most; few = omega (arith, i.few, length-map v.0 terms_pair, ap length v.1) } in
    let line : text_of w ≡ bytes = sym (line_same w v.2) ∙ ap (line_of frac_of) back ∙ (bytes_eq-Decides (line_of frac_of r) bytes).0 t.1 in
    (record { bench = w; plain = record { within = within; small = v.2 }; line = line }, back ∙ c.1)
