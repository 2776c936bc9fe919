-- What a bench has that fits a script. Assumes nothing.
use Rattle.std.proofs.Common.{◌≡◌, ℕ, zero, suc, ◌≤◌, Bool, true, false, ◌&&◌, ◌||◌, eqb, leb, List, [], ◌∷◌, length, Some, None, Option, refl, arith}
use Rattle.std.proofs.lemmas.Bool.Decides.{nat_tests}
use Rattle.std.specs.List.{AllByRecursion}
use Rattle.number.specs.declared.Pair.{Pair}
use Rattle.number.specs.Frac.{Frac}
use Rattle.motion.specs.Lines.{Line}
use Rattle.motion.specs.NextLine.{line_at, first_line, declared}
use Rattle.motion.specs.Machine as M
use Rattle.motion.specs.Pairs.{numbers_of}
use Rattle.motion.specs.Fitting as F
use Rattle.record.specs.declared.Bench.{Bench}
use Rattle.record.specs.Benches.{bench_of}
use Rattle.handover.specs.Laws.{OfKind, Writable, Within}
use Rattle.bench.specs.Calls.{placed, fitting}
use Rattle.bench.proofs.First.{first_behind, declared_few}

pub both : (a b : Bool) → (a && b) ≡ true → (a ≡ true) × (b ≡ true)
both true b h = (refl, h)
both false b h = let z : ◌≡◌ {A = ℕ} 0 1 = cc in absurd (omega arith)

equal : (m n : ℕ) → eqb m n ≡ true → m ≡ n
equal m n h = grind (arith, nat_tests)

at_most_when : (m n : ℕ) → leb m n ≡ true → m ≤ n
at_most_when m n h = grind (arith, nat_tests)

-- a run line is one of the lines
run_there : (ls : List Line) (n : ℕ) → F.is_run (line_at ls n) ≡ true → (1 ≤ n) × (n ≤ length ls)
run_there ls zero h = let z : ◌≡◌ {A = ℕ} 0 1 = cc in absurd (omega arith)
run_there [] (suc m) h = let z : ◌≡◌ {A = ℕ} 0 1 = cc in absurd (omega arith)
run_there (l ∷ ls) (suc zero) h = (omega arith, omega arith)
run_there (l ∷ ls) (suc (suc m)) h = let k = run_there ls (suc m) h in (omega arith, omega (arith, k.1))

-- every value is of the kind
all_of_kind : (means : Pair → Option Frac) (code : Frac → Option Pair) (vs : List Pair) → F.all_numbers (numbers_of means code) vs ≡ true → AllByRecursion (OfKind means) vs
all_of_kind means code [] h = tt
all_of_kind means code (v ∷ vs) h =
    let k = both (F.answered (means v)) (F.all_numbers (numbers_of means code) vs) h in
    (told (means v) refl k.0, all_of_kind means code vs k.1)
  where
    told : (o : Option Frac) → means v ≡ o → F.answered o ≡ true → OfKind means v
    told (Some q) e t = (q, e)
    told None e t = let z : ◌≡◌ {A = ℕ} 0 1 = cc in absurd (omega arith)

module _ (means : Pair → Option Frac) (code : Frac → Option Pair) (script : List Line) (few_lines : length script ≤ 256) (few-values : length (declared script) ≤ 16) where
  -- the line of a bench in one of the three places
  line_within : (b : M.Bench Pair) → placed script b ≡ true → (1 ≤ b.line) × (b.line ≤ 257)
  line_within b = by (F.as_new script b) (F.in_stretch script b) refl refl
    where
      new : F.as_new script b ≡ true → (1 ≤ b.line) × (b.line ≤ 257)
      new e =
          let k : b.line ≡ first_line 1 script = equal b.line (first_line 1 script) (both (eqb b.line (first_line 1 script)) _ e).0 in
          let f = first_behind 1 script in
          let d = declared_few script in
          (omega arith, omega arith)

      stretch : F.in_stretch script b ≡ true → (1 ≤ b.line) × (b.line ≤ 257)
      stretch e = let k = run_there script b.line (both (F.is_run (line_at script b.line)) _ e).0 in (k.0, omega (arith, k.1))

      end : F.at_end script b ≡ true → (1 ≤ b.line) × (b.line ≤ 257)
      end e = let k : b.line ≡ suc (length script) = equal b.line (suc (length script)) (both (eqb b.line (suc (length script))) _ e).0 in (omega arith, omega arith)

      by : (x y : Bool) → F.as_new script b ≡ x → F.in_stretch script b ≡ y → (x || (y || F.at_end script b)) ≡ true → (1 ≤ b.line) × (b.line ≤ 257)
      by true y p q h = new p
      by false true p q h = stretch q
      by false false p q h = end h

  -- a bench that fits is within the bounds of the hand-over line, and its values are of the kind
  pub fits_within : (b : M.Bench Pair) → F.fits (numbers_of means code) script b ≡ true → Within b × AllByRecursion (OfKind means) b.values
  fits_within b h =
      let a = both (eqb (length b.values) (length (declared script))) _ h in
      let n = both (F.all_numbers (numbers_of means code) b.values) _ a.1 in
      let c = both (F.counts_small b) (placed script b) n.1 in
      let l = both (leb b.left 2147483647) _ c.0 in
      let t = both (leb b.total 2147483647) (leb b.over 2147483647) l.1 in
      let p = line_within b c.1 in
      let k : length b.values ≡ length (declared script) = equal (length b.values) (length (declared script)) a.0 in (
        record {
          line_least = p.0;
          line_most = p.1;
          left_most = at_most_when b.left 2147483647 l.0;
          total_most = at_most_when b.total 2147483647 t.0;
          over_most = at_most_when b.over 2147483647 t.1;
          few = omega arith;
        },
        all_of_kind means code b.values n.0,
      )

  -- the record of a bench that fits can be written
  pub fits_written : (b : Bench) → fitting (numbers_of means code) script b ≡ true → Writable means b × Within (bench_of b) × (F.fits (numbers_of means code) script (bench_of b) ≡ true)
  fits_written b h =
      let a = both (leb b.values.count 16) (F.fits (numbers_of means code) script (bench_of b)) h in
      let w = fits_within (bench_of b) a.1 in
      (record { few = at_most_when b.values.count 16 a.0; numbers = w.1 }, w.0, a.1)
