-- The laws of what is written.
use Rattle.std.proofs.Common.{◌≡◌, ℕ, ◌+◌, ◌*◌, ◌≤◌, true, false, leb, List, [], ◌∷◌, ◌++◌, length, take, drop, is_some, Some, None, Option, refl, ap, ◌∙◌, ap₂, arith}
use Rattle.std.specs.List.{AllByRecursion}
use Rattle.std.proofs.lemmas.Fmt.{length-decimal-le}
use Rattle.std.proofs.lemmas.List.{length-append, length-take-le}
use Rattle.std.proofs.lemmas.Bool.{and_from, and_parts, le-leb, leb-true, both_ways}
use Rattle.number.specs.declared.Pair.{Pair}
use Rattle.number.specs.Frac.{Frac}
use Rattle.number.specs.Kind.{Holds}
use Rattle.record.specs.declared.Bench.{Bench}
use Rattle.record.specs.Benches.{pairs_of, bench_of}
use Rattle.handover.specs.Texts.{count_text}
use Rattle.handover.specs.Lines.{head_text, fields_by, meant_text, all_meant, writable, line_of}
use Rattle.handover.specs.Laws.{OfKind, Writable, Writes, ShortLines}
use Rattle.handover.proofs.Valued.{meant_short, short_decimal}

-- ---- the test of a bench
some_of : (o : Option Frac) → is_some o ≡ true → (q : Frac) × (o ≡ Some q)
some_of (Some q) e = (q, refl)
some_of None e = absurd (both_ways false refl e)

pub meant_all : (means : Pair → Option Frac) (ps : List Pair) → all_meant means ps ≡ true → AllByRecursion (OfKind means) ps
meant_all means [] e = tt
meant_all means (p ∷ ps) e = let h = and_parts (is_some (means p)) (all_meant means ps) e in (some_of (means p) h.0, meant_all means ps h.1)

pub all_are_meant : (means : Pair → Option Frac) (ps : List Pair) → AllByRecursion (OfKind means) ps → all_meant means ps ≡ true
all_are_meant means [] h = refl
all_are_meant means (p ∷ ps) h = and_from _ _ (ap is_some h.0.1) (all_are_meant means ps h.1)

has_line : (means : Pair → Option Frac) (b : Bench) → writable means b ≡ true → Writable means b
has_line means b e =
    let h = and_parts (leb b.values.count 16) (all_meant means (pairs_of b.values)) e in
    record { few = leb-true b.values.count 16 h.0; numbers = meant_all means (pairs_of b.values) h.1 }

has_no_line : (means : Pair → Option Frac) (b : Bench) → writable means b ≡ false → Writable means b → ⊥
has_no_line means b e w =
    both_ways (writable means b) e (and_from _ _ (le-leb b.values.count 16 w.few) (all_are_meant means (pairs_of b.values) w.numbers))

-- ---- what is written
-- the text of the line at the front of a buffer that is long enough
pub writes_line : (means : Pair → Option Frac) (b : Bench) (old text front : List ℕ) (n : ℕ) → writable means b ≡ true → text ≡ line_of means (bench_of b) → n ≡ length text → n ≤ length old → front ≡ text → Writes means b old (Some n) (front ++ drop n old)
writes_line means b old text front n w e size h f =
    let long : n ≡ length (line_of means (bench_of b)) = size ∙ ap length e in
    record {
      whole = λ _ _. (ap Some long, ap₂ (λ bs k. bs ++ drop k old) (f ∙ e) long);
      too_short = λ _ k. absurd (omega (arith, h, long, k));
      no_line = λ m. absurd (m (has_line means b w));
    }

pub writes_nothing : (means : Pair → Option Frac) (b : Bench) (old : List ℕ) → writable means b ≡ false → Writes means b old None old
writes_nothing means b old e = record {
  whole = λ w h. absurd (has_no_line means b e w);
  too_short = λ w h. (refl, refl);
  no_line = λ n. (refl, refl);
}

-- ---- how long a line is
fields_short : {V : Type 0} (f : V → List ℕ) (vs : List V) → ((v : V) → length (f v) ≤ 22) → length (fields_by f vs) ≤ 23 * length vs
fields_short f [] h = omega arith
fields_short f (v ∷ vs) h = omega (arith, length-append (44 ∷ f v) (fields_by f vs), h v, fields_short f vs h)

-- a text with the first of the values behind it
pub text_short : (means : Pair → Option Frac) (code : Frac → Option Pair) → Holds means code → (head text : List ℕ) (ps : List Pair) (i : ℕ) → i ≤ length ps → text ≡ head ++ fields_by (λ p. meant_text (means p)) (take i ps) → length text ≤ length head + 23 * i
text_short means code laws head text ps i h e =
    let f : Pair → List ℕ = λ p. meant_text (means p) in
    omega (arith, ap length e, length-append head (fields_by f (take i ps)), fields_short f (take i ps) (meant_short means code laws), length-take-le i ps h)

head_short : (line left total over : ℕ) → line ≤ 257 → left ≤ 2147483647 → total ≤ 2147483647 → over ≤ 2147483647 → length (head_text line left total over) ≤ 42
head_short line left total over h1 h2 h3 h4 =
    omega (arith, length-append (count_text line) (count_text left ++ (count_text total ++ count_text over)), length-append (count_text left) (count_text total ++ count_text over), length-append (count_text total) (count_text over), length-decimal-le 3 line (omega arith) (omega arith) (omega arith), short_decimal left h2, short_decimal total h3, short_decimal over h4)

pub short_lines : (means : Pair → Option Frac) (code : Frac → Option Pair) → Holds means code → ShortLines means
short_lines means code laws b w =
    let h = head_short b.line b.left b.total b.over w.line_most w.left_most w.total_most w.over_most in
    let f = fields_short (λ p. meant_text (means p)) b.values (meant_short means code laws) in
    omega (arith, w.few, length-append (head_text b.line b.left b.total b.over) (fields_by (λ p. meant_text (means p)) b.values ++ 10 ∷ []), length-append (fields_by (λ p. meant_text (means p)) b.values) (10 ∷ []))
