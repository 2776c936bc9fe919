-- Whether all values are numbers of the kind, one after the other. Assumes nothing.
use Rattle.std.proofs.Common.{◌≡◌, ℕ, ◌+◌, ◌-◌, ◌<◌, ◌≤◌, Bool, true, false, cond, ◌&&◌, eqb, leb, List, length, get_or, drop, sym, refl, ap, ◌∙◌, arith}
use Rattle.std.proofs.lemmas.Bool.Decides.{nat_tests}
use Rattle.std.proofs.lemmas.List.{at_drop_more, at_drop_all}
use Rattle.number.specs.declared.Pair.{Pair}
use Rattle.motion.specs.Numbers.{Numbers}
use Rattle.motion.specs.Lines.{Line}
use Rattle.motion.specs.NextLine.{declared}
use Rattle.motion.specs.Machine as M
use Rattle.motion.specs.Fitting.{answered, all_numbers}
use Rattle.motion.specs.Fitting as F
use Rattle.record.specs.declared.Bench.{Bench}
use Rattle.record.specs.Benches.{pairs_of, bench_of}
use Rattle.bench.specs.Calls.{valued, placed, fitting, advanced}

module _ (N : Numbers Pair) (ps : List Pair) (i : ℕ) where
  pub numbers_turn : (d : Pair) (b : Bool) → i < length ps → b ≡ answered (N.terms (get_or ps i d)) → all_numbers N (drop i ps) ≡ (b && all_numbers N (drop (i + 1) ps))
  numbers_turn d b h e = at_drop_more (all_numbers N) ps i d h ∙ ap (λ (v : Bool). v && all_numbers N (drop (i + 1) ps)) (sym e)

  pub numbers_over : length ps ≤ i → all_numbers N (drop i ps) ≡ true
  numbers_over h = at_drop_all (all_numbers N) ps i h

pub and_true : (b c : Bool) → b ≡ true → (b && c) ≡ c
and_true b c p = rw p

pub and_false : (b c : Bool) → b ≡ false → (b && c) ≡ false
and_false b c p = rw p

-- three parts and two more
pub and_five : (a e n m p : Bool) → ((a && (e && n)) && (m && p)) ≡ (a && (e && (n && (m && p))))
and_five true true n m p = refl
and_five true false n m p = refl
and_five false e n m p = refl

pub one_less : (l v f : ℕ) → (l ≡ 0 → ⊥) → f ≡ 1 + v → eqb (l - 1) v ≡ eqb l f
one_less l v f h e = grind (arith, nat_tests)

pub naught_less : (l v f : ℕ) → l ≡ 0 → f ≡ 1 + v → false ≡ eqb l f
naught_less l v f h e = grind (arith, nat_tests)

module _ (script : List Line) (b : M.Bench Pair) where
  -- one of the three places, told one after the other
  pub as_new_told : (r : Bool) → r ≡ F.as_new script b → r ≡ true → true ≡ placed script b
  as_new_told r e t = let k : F.as_new script b ≡ true = sym e ∙ t in rw k

  pub in_stretch_told : (q r : Bool) → q ≡ F.as_new script b → q ≡ false → r ≡ F.in_stretch script b → r ≡ true → true ≡ placed script b
  in_stretch_told q r d s e t = let j : F.as_new script b ≡ false = sym d ∙ s in let k : F.in_stretch script b ≡ true = sym e ∙ t in rw (j, k)

  pub at_end_told : (q r p : Bool) → q ≡ F.as_new script b → q ≡ false → r ≡ F.in_stretch script b → r ≡ false → p ≡ F.at_end script b → p ≡ placed script b
  at_end_told q r p d s e t f = let j : F.as_new script b ≡ false = sym d ∙ s in let k : F.in_stretch script b ≡ false = sym e ∙ t in rw (j, k) f

module _ (N : Numbers Pair) (script : List Line) (b : Bench) where
  abbrev few : Bool
  few = leb b.values.count 16

  abbrev as_many : Bool
  as_many = eqb (length (pairs_of b.values)) (length (declared script))

  abbrev of_kind : Bool
  of_kind = F.all_numbers N (pairs_of b.values)

  abbrev small : Bool
  small = F.counts_small (bench_of b)

  -- the values, the counts and the place, told one after the other
  pub values_unfit : (r : Bool) → r ≡ valued N script b → r ≡ false → false ≡ fitting N script b
  values_unfit r h t = sym (sym (and_five few as_many of_kind small (placed script (bench_of b))) ∙ and_false (valued N script b) (small && placed script (bench_of b)) (sym h ∙ t))

  pub counts_unfit : (r q : Bool) → r ≡ valued N script b → r ≡ true → q ≡ small → q ≡ false → false ≡ fitting N script b
  counts_unfit r q h t k u =
      sym (sym (and_five few as_many of_kind small (placed script (bench_of b))) ∙ and_true (valued N script b) (small && placed script (bench_of b)) (sym h ∙ t) ∙ and_false small (placed script (bench_of b)) (sym k ∙ u))

  pub all_told : (r q s : Bool) → r ≡ valued N script b → r ≡ true → q ≡ small → q ≡ true → s ≡ placed script (bench_of b) → s ≡ fitting N script b
  all_told r q s h t k u l =
      sym (sym (and_five few as_many of_kind small (placed script (bench_of b))) ∙ and_true (valued N script b) (small && placed script (bench_of b)) (sym h ∙ t) ∙ and_true small (placed script (bench_of b)) (sym k ∙ u) ∙ sym l)

  -- the values, told one after the other
  pub too_many : 16 < b.values.count → false ≡ valued N script b
  too_many h = sym (and_false few (as_many && of_kind) (grind (arith, nat_tests)))

  pub other_count : (vs : List Pair) (v : ℕ) → b.values.count ≤ 16 → vs ≡ pairs_of b.values → (length vs ≡ v → ⊥) → v ≡ length (declared script) → false ≡ valued N script b
  other_count vs v h e n d =
      let k : few ≡ true = grind (arith, nat_tests) in
      let l : length vs ≡ length (pairs_of b.values) = ap length e in
      let m : as_many ≡ false = by as_many refl l in
      sym (and_true few (as_many && of_kind) k ∙ and_false as_many of_kind m)
    where
      by : (x : Bool) → as_many ≡ x → length vs ≡ length (pairs_of b.values) → as_many ≡ false
      by true p l = let q : length (pairs_of b.values) ≡ length (declared script) = grind (arith, nat_tests) in absurd (n (l ∙ q ∙ sym d))
      by false p l = p

  pub values_told : (vs : List Pair) (v : ℕ) (r : Bool) → b.values.count ≤ 16 → vs ≡ pairs_of b.values → length vs ≡ v → v ≡ length (declared script) → r ≡ F.all_numbers N vs → r ≡ valued N script b
  values_told vs v r h e n d p =
      let k : few ≡ true = grind (arith, nat_tests) in
      let l : length (pairs_of b.values) ≡ length (declared script) = sym (ap length e) ∙ n ∙ d in
      let m : as_many ≡ true = grind (arith, nat_tests) in
      p ∙ ap (F.all_numbers N) e ∙ sym (and_true few (as_many && of_kind) k ∙ and_true as_many of_kind m)

  -- the ticks over are few where the counts are small
  pub over_few : (r : Bool) → r ≡ small → r ≡ true → b.over ≤ 2147483647
  over_few r h t = by (leb b.left 2147483647) (leb b.total 2147483647) (sym h ∙ t)
    where
      by : (x y : Bool) → (x && (y && leb b.over 2147483647)) ≡ true → b.over ≤ 2147483647
      by true true e = grind (arith, nat_tests)
      by true false e = let z : ◌≡◌ {A = ℕ} 0 1 = cc in absurd (omega arith)
      by false y e = let z : ◌≡◌ {A = ℕ} 0 1 = cc in absurd (omega arith)

  -- an advance of a bench that fits
  pub advance_fits : (ticks allowance : ℕ) (r : Bool) → r ≡ fitting N script b → r ≡ true → M.advance N script (bench_of b) ticks allowance ≡ advanced N script b ticks allowance
  advance_fits ticks allowance r e t = let k : fitting N script b ≡ true = sym e ∙ t in sym (ap (λ (x : Bool). cond x (M.advance N script (bench_of b) ticks allowance) (M.refused 18 0 0)) k)
