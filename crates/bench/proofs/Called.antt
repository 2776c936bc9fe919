-- What the calls of the layers below answer, as the calls of the bench tell it. Assumes nothing.
use Rattle.std.proofs.Common.{◌≡◌, ℕ, ◌≤◌, Bool, true, false, cond, ◌&&◌, leb, List, [], ◌∷◌, ◌++◌, length, take, drop, ℤ, pos, Some, None, Ok, Err, Option, Result, sym, refl, ap, ◌∙◌, subst, arith}
use Rattle.std.proofs.lemmas.Bool.Decides.{nat_tests}
use Rattle.number.specs.declared.Pair.{Pair}
use Rattle.number.specs.declared.Fault.{Fault}
use Rattle.number.specs.Frac.{Frac}
use Rattle.number.specs.Kind.{Holds, of_one}
use Rattle.motion.specs.Lines.{Line}
use Rattle.motion.specs.Items.{nth}
use Rattle.motion.specs.Flow.{then}
use Rattle.motion.specs.NextLine.{declared}
use Rattle.motion.specs.Machine as M
use Rattle.motion.specs.Pairs.{numbers_of}
use Rattle.motion.specs.Rules.{Standing}
use Rattle.motion.specs.Fitting as F
use Rattle.record.specs.declared.Bench.{Bench}
use Rattle.record.specs.Refusals.{Refusal}
use Rattle.record.specs.declared.Reason.TheVariants.{BufferTooShort}
use Rattle.refusal.specs.Refusals.{refused}
use Rattle.record.specs.Benches.{bench_of}
use Rattle.handover.specs.Lines.{line_of, copied}
use Rattle.handover.specs.Takes.{taken_up}
use Rattle.handover.specs.Laws.{Writable, Writes}
use Rattle.handover.proofs.Rounded.{takes, round_trip}
use Rattle.handover.proofs.Lawful.{short_lines}
use Rattle.bench.specs.Calls.{fitting, unfit, value_in_terms, read_value, read_variable, written, settled}
use Rattle.bench.specs.Laws.{OnCurve, ReadsCurve, WrittenBack, TakenExactly}
use Rattle.bench.proofs.Fitted.{fits_within, fits_written}

-- the terms that a kind answers
pub terms_read : (o : Option Frac) (p : ℤ × ℤ) → ◌≡◌ {A = Result (ℤ × ℤ) Fault} (Ok p) (of_one (λ x. Ok (x.num, pos x.den)) o) → Ok p ≡ value_in_terms o
terms_read (Some q) p e = let k : p ≡ (q.num, pos q.den) = cc in ap Ok k
terms_read None p e = let z : ◌≡◌ {A = ℕ} 0 1 = cc in absurd (omega arith)

pub terms_lost : (o : Option Frac) (f : Fault) → ◌≡◌ {A = Result (ℤ × ℤ) Fault} (Err f) (of_one (λ x. Ok (x.num, pos x.den)) o) → unfit ≡ value_in_terms o
terms_lost (Some q) f e = let z : ◌≡◌ {A = ℕ} 0 1 = cc in absurd (omega arith)
terms_lost None f e = refl

-- a call on a bench that fits, and on one that does not
pub on_fit : {A : Type 0} (r f : Bool) (x y : A) → r ≡ f → r ≡ true → x ≡ cond f x y
on_fit r f x y e t = let k : f ≡ true = sym e ∙ t in sym (ap (λ (v : Bool). cond v x y) k)

pub on_unfit : {A : Type 0} (r f : Bool) (x y : A) → r ≡ f → r ≡ false → y ≡ cond f x y
on_unfit r f x y e t = let k : f ≡ false = sym e ∙ t in sym (ap (λ (v : Bool). cond v x y) k)

-- a reading on the curve
module _ (means : Pair → Option Frac) (code : Frac → Option Pair) (script : List Line) (T : ℕ) (b : M.Bench Pair) (on : OnCurve means code script T b) where
  value_read : (x : Option ℕ) (i : ℕ) → x ≡ Some i → (v : Option Pair) → nth b.values i ≡ v → (o : Option Frac) → then v means ≡ o → (r : Result (ℤ × ℤ) Refusal) → r ≡ read_value means b.values v → ReadsCurve means code script T x r
  value_read x i h None e o f r k = subst (ReadsCurve means code script T x) (sym k) tt
  value_read x i h (Some v) e None f r k = subst (ReadsCurve means code script T x) (sym (k ∙ ap value_in_terms f)) tt
  value_read x i h (Some v) e (Some q) f r k =
      let s : Standing = record { values = on.values; line = b.line; left = b.left; over = b.over } in
      let c : nth on.values i ≡ Some q = sym (on.read i) ∙ ap (λ (w : Option Pair). then w means) e ∙ f in
      subst (ReadsCurve means code script T x) (sym (k ∙ ap value_in_terms f)) (i, s, q, h, on.curve, c, refl)

  variable_read : (x : Option ℕ) (r : Result (ℤ × ℤ) Refusal) → r ≡ read_variable means b.values x → ReadsCurve means code script T x r
  variable_read None r k = subst (ReadsCurve means code script T None) (sym k) tt
  variable_read (Some i) r k = value_read (Some i) i refl (nth b.values i) refl (then (nth b.values i) means) refl r k

  pub reads : (x : Option ℕ) (f : Bool) (r : Result (ℤ × ℤ) Refusal) → r ≡ cond f (read_variable means b.values x) unfit → ReadsCurve means code script T x r
  reads x true r k = variable_read x r k
  reads x false r k = subst (ReadsCurve means code script T x) (sym k) tt

-- a line written
module _ (means : Pair → Option Frac) (b : Bench) (old : List ℕ) (can : Writable means b) where
  abbrev line : List ℕ
  line = line_of means (bench_of b)

  pub wrote : (size : ℕ) (new : List ℕ) → Writes means b old (Some size) new → (Ok size ≡ written line old) × (new ≡ copied line old)
  wrote size new w = by (leb (length line) (length old)) refl
    where
      by : (x : Bool) → leb (length line) (length old) ≡ x → (Ok size ≡ cond x (Ok (length line)) (Err (refused {N = ℕ} BufferTooShort 0 0))) × (new ≡ cond x (line ++ drop (length line) old) old)
      by true e = let k = w.whole can (grind (arith, nat_tests)) in let s : size ≡ length line = let q = k.0 in cc in (ap Ok s, k.1)
      by false e = let k = w.too_short can (grind (arith, nat_tests)) in let q = k.0 in let z : ◌≡◌ {A = ℕ} 0 1 = cc in absurd (omega arith)

  pub wrote_none : (new : List ℕ) → Writes means b old None new → (Err (refused {N = ℕ} BufferTooShort 0 0) ≡ written line old) × (new ≡ copied line old)
  wrote_none new w = by (leb (length line) (length old)) refl
    where
      by : (x : Bool) → leb (length line) (length old) ≡ x → (Err (refused {N = ℕ} BufferTooShort 0 0) ≡ cond x (Ok (length line)) (Err (refused {N = ℕ} BufferTooShort 0 0))) × (new ≡ cond x (line ++ drop (length line) old) old)
      by true e = let k = w.whole can (grind (arith, nat_tests)) in let q = k.0 in let z : ◌≡◌ {A = ℕ} 0 1 = cc in absurd (omega arith)
      by false e = let k = w.too_short can (grind (arith, nat_tests)) in (refl, k.1)

taken_front : (l r : List ℕ) → take (length l) (l ++ r) ≡ l
taken_front [] r = refl
taken_front (x ∷ l) r = ap (λ (m : List ℕ). x ∷ m) (taken_front l r)

module _ (means : Pair → Option Frac) (code : Frac → Option Pair) (laws : Holds means code) (script : List Line) (few_lines : length script ≤ 256) (few-values : length (declared script) ≤ 16) where
  -- what is written is taken up again
  pub writes_back : (b : Bench) (old : List ℕ) (r : Result ℕ Refusal) (new : List ℕ) →
      r ≡ cond (fitting (numbers_of means code) script b) (written (line_of means (bench_of b)) old) unfit →
      new ≡ cond (fitting (numbers_of means code) script b) (copied (line_of means (bench_of b)) old) old → WrittenBack means code script b r new
  writes_back b old r new e f = by (fitting (numbers_of means code) script b) (leb (length l) (length old)) refl refl e f
    where
      l : List ℕ
      l = line_of means (bench_of b)

      by : (x y : Bool) → fitting (numbers_of means code) script b ≡ x → leb (length (line_of means (bench_of b))) (length old) ≡ y →
          r ≡ cond x (cond y (Ok (length (line_of means (bench_of b)))) (Err (refused {N = ℕ} BufferTooShort 0 0))) unfit → new ≡ cond x (cond y (line_of means (bench_of b) ++ drop (length (line_of means (bench_of b))) old) old) old →
          WrittenBack means code script b r new
      by true true p q e f =
          let w = fits_written means code script few_lines few-values b p in
          let t : take (length (line_of means (bench_of b))) new ≡ line_of means (bench_of b) = ap (take (length (line_of means (bench_of b)))) f ∙ taken_front (line_of means (bench_of b)) (drop (length (line_of means (bench_of b))) old) in
          let u : taken_up means code (take (length (line_of means (bench_of b))) new) ≡ Ok (bench_of b) = ap (taken_up means code) t ∙ (round_trip means code laws).there (bench_of b) w.1 w.0.numbers in
          let v : settled (numbers_of means code) script (taken_up means code (take (length (line_of means (bench_of b))) new)) ≡ Ok (bench_of b) =
          ap (settled (numbers_of means code) script) u ∙ ap (λ (x : Bool). cond x (Ok (bench_of b)) unfit) w.2 in
          subst (λ (s : Result ℕ Refusal). WrittenBack means code script b s new) (sym e) (short_lines means code laws (bench_of b) w.1, v)
      by true false p q e f = subst (λ (s : Result ℕ Refusal). WrittenBack means code script b s new) (sym e) tt
      by false y p q e f = subst (λ (s : Result ℕ Refusal). WrittenBack means code script b s new) (sym e) tt

  settled_ok : (x : Result (M.Bench Pair) Refusal) (b : M.Bench Pair) → settled (numbers_of means code) script x ≡ Ok b → (x ≡ Ok b) × (F.fits (numbers_of means code) script b ≡ true)
  settled_ok (Err e) b h = let z : ◌≡◌ {A = ℕ} 0 1 = cc in absurd (omega arith)
  settled_ok (Ok c) b h = by (F.fits (numbers_of means code) script c) refl h
    where
      by : (x : Bool) → F.fits (numbers_of means code) script c ≡ x → ◌≡◌ {A = Result (M.Bench Pair) Refusal} (cond x (Ok c) unfit) (Ok b) → ◌≡◌ {A = Result (M.Bench Pair) Refusal} (Ok c) (Ok b) × (F.fits (numbers_of means code) script b ≡ true)
      by true p q = let k : c ≡ b = cc in (q, sym (ap (F.fits (numbers_of means code) script) k) ∙ p)
      by false p q = let z : ◌≡◌ {A = ℕ} 0 1 = cc in absurd (omega arith)

  -- taken up are exactly the lines of benches that fit
  pub taken_exactly : (bytes : List ℕ) (r : Result (M.Bench Pair) Refusal) → r ≡ settled (numbers_of means code) script (taken_up means code bytes) → TakenExactly means code script bytes r
  taken_exactly bytes r e b = (
    (λ h. let k = settled_ok (taken_up means code bytes) b (sym e ∙ h) in (k.1, ((takes means code laws bytes).written_only b k.0).2)),
    (λ h.
        let w = fits_within means code script few_lines few-values b h.0 in
        let t : taken_up means code bytes ≡ Ok b = (takes means code laws bytes).written b w.0 w.1 h.1 in
        e ∙ ap (settled (numbers_of means code) script) t ∙ ap (λ (x : Bool). cond x (Ok b) unfit) h.0),
  )

  -- a bench of a line that fits, and one that does not
  pub settles : (b : Bench) (x : Result (M.Bench Pair) Refusal) (r : Bool) → Ok (bench_of b) ≡ x → b.values.count ≤ 16 → r ≡ fitting (numbers_of means code) script b →
      cond r (Ok (bench_of b)) unfit ≡ settled (numbers_of means code) script x
  settles b x r e few f =
      let k : leb b.values.count 16 ≡ true = grind (arith, nat_tests) in
      let g : r ≡ F.fits (numbers_of means code) script (bench_of b) = f ∙ ap (λ (v : Bool). v && F.fits (numbers_of means code) script (bench_of b)) k in
      ap (λ (v : Bool). cond v (Ok (bench_of b)) unfit) g ∙ ap (settled (numbers_of means code) script) e
