-- The lines of a script by its rows, and where a run goes on. Assumes nothing.
use Rattle.std.proofs.Common.{◌≡◌, ℕ, zero, suc, ◌+◌, ◌-◌, ◌<◌, ◌≤◌, min, true, T, List, [], ◌∷◌, length, get_or, take, drop, set, ℤ, pos, negsuc, nat_abs, Some, None, Ok, Option, Result, sym, refl, ap, ◌∙◌, subst, arith, length-drop, drop_of_length-le, w32, w64, Fits, SFits, to_z, of_z}
use lib.Signed.{le_z, non_neg}
use Rattle.std.proofs.lemmas.List.{length-map, drop-map, get_or-map, get_or_past, take_all, length-take}
use Rattle.std.proofs.lemmas.Int.{to_z-of_z}
use Rattle.std.proofs.lemmas.Bool.{lt-ltb, le-ltb}
use Rattle.std.specs.List.{AllByRecursion}
use Rattle.script.specs.declared.reading.Entry.{Entry}
use Rattle.number.specs.declared.Pair.{Pair}
use Rattle.number.specs.declared.Fault.{Fault}
use Rattle.number.specs.Frac.{Frac}
use Rattle.number.specs.Kind.{Holds, in_terms, of_one}
use Rattle.motion.specs.Lines.{Line, end_line}
use Rattle.motion.specs.NextLine.{line_at, onward, rates}
use Rattle.motion.specs.Machine.{at, ended, place_at}
use Rattle.entries.specs.declared.rows.Row.{Row}
use Rattle.entries.specs.Decoding.{part, row_line, rows_lines}

-- the lines of rows
module _ (es : List Entry) (xs : List (Option ℕ)) (rows : List Row) where
  pub lines_long : length (rows_lines es xs rows) ≡ length rows
  lines_long = length-map rows (row_line es xs)

  pub line_there : (n : ℕ) (d : Row) → 1 ≤ n → n ≤ length rows → row_line es xs (get_or rows (n - 1) d) ≡ line_at (rows_lines es xs rows) n
  line_there zero d h k = absurd (omega arith)
  line_there (suc m) d h k =
      let e : suc m - 1 ≡ m = omega arith in
      ap (λ (i : ℕ). row_line es xs (get_or rows i d)) e ∙ sym (get_or-map (row_line es xs) rows m d end_line (omega arith))

  pub line_nowhere : (n : ℕ) → (1 ≤ n → length rows < n) → end_line ≡ line_at (rows_lines es xs rows) n
  line_nowhere zero h = refl
  line_nowhere (suc m) h = let k : length rows < suc m = h (omega arith) in sym (get_or_past (rows_lines es xs rows) m end_line (omega (arith, lines_long)))

  -- the rates of the rows behind line n
  pub rates_behind : (ys : List Row) (n : ℕ) → ys ≡ drop n rows → rates (rows_lines es xs ys) ≡ rates (drop n (rows_lines es xs rows))
  rates_behind ys n e = ap (λ (zs : List Row). rates (rows_lines es xs zs)) e ∙ ap rates (sym (drop-map (row_line es xs) n rows))

-- each of a list
pub all_at : {X : Type 0} (P : X → Type 0) (xs : List X) (i : ℕ) (d : X) → AllByRecursion P xs → i < length xs → P (get_or xs i d)
all_at P [] i d h k = absurd (omega arith)
all_at P (x ∷ xs) zero d h k = h.0
all_at P (x ∷ xs) (suc i) d h k = all_at P xs i d h.1 (omega arith)

-- a part is no longer than from its one end to the other, and from the first on it is taken
pub part_short : {X : Type 0} (from to : ℕ) (xs : List X) → length (part from to xs) ≤ to - from
part_short from to xs = let e : length (take (to - from) (drop from xs)) ≡ min (to - from) (length (drop from xs)) = length-take (to - from) (drop from xs) in omega arith

pub from_first : {X : Type 0} (n : ℕ) (xs : List X) → part 0 n xs ≡ take n xs
from_first n xs = let e : n - 0 ≡ n = omega arith in ap (λ (k : ℕ). take k xs) e

-- equals in three places
pub thrice : {A B C D : Type 0} (f : A → B → C → D) {a a' : A} {b b' : B} {c c' : C} → a ≡ a' → b ≡ b' → c ≡ c' → f a b c ≡ f a' b' c'
thrice f p q r = λ i. f (p i) (q i) (r i)

-- a part up to the end of a list
pub part_all : {X : Type 0} (n : ℕ) (xs : List X) → part n (length xs) xs ≡ drop n xs
part_all n xs = take_all (length xs - n) (drop n xs) (omega (arith, length-drop n xs))

-- behind the last line a run goes on one line further
pub past_all : (all : List Line) (k i : ℕ) → length all ≤ i → i + 1 ≡ onward k all i
past_all all k i h = let e : i + 1 ≡ suc i = omega arith in rw (drop_of_length-le all {i = i} h) e

pub place_ended : (all : List Line) (n : ℕ) → length all < n → ended ≡ place_at all n
place_ended all n h = rw (lt-ltb (length all) n h, place_at)

pub place_on : (all : List Line) (n : ℕ) → n ≤ length all → at n ≡ place_at all n
place_on all n h = rw (le-ltb (length all) n h, place_at)

-- a value stored among those that count
pub take_set_any : {X : Type 0} (n x : ℕ) (xs : List X) (q : X) → take n (set xs x q) ≡ set (take n xs) x q
take_set_any zero x xs q = refl
take_set_any (suc n) x [] q = refl
take_set_any (suc n) zero (y ∷ ys) q = refl
take_set_any (suc n) (suc x) (y ∷ ys) q = ap (λ l. y ∷ l) (take_set_any n x ys q)

not_negative : (z : ℤ) → le_z (pos 0) z ≡ true → T (non_neg z)
not_negative (pos n) e = tt
not_negative (negsuc n) e = let z : ◌≡◌ {A = ℕ} 0 1 = cc in absurd (omega arith)

small : (m : ℕ) → m ≤ 2147483647 → Fits w32 m
small m h = record { fits = omega arith }

pub cast_fits : (n : ℤ) → SFits w64 n → nat_abs n ≤ 2147483647 → le_z (pos 0) (to_z w64 (of_z w64 n)) ≡ true → T (non_neg (to_z w64 (of_z w64 n))) × Fits w32 (nat_abs (to_z w64 (of_z w64 n)))
cast_fits n f h e = (not_negative (to_z w64 (of_z w64 n)) e, small (nat_abs (to_z w64 (of_z w64 n))) (subst (λ x. nat_abs x ≤ 2147483647) (sym (to_z-of_z w64 n f)) h))

-- the terms of a number are small
module _ {means : Pair → Option Frac} {code : Frac → Option Pair} (laws : Holds means code) where
  pub terms_small : (q : Pair) (n d : ℤ) → ◌≡◌ {A = Result (ℤ × ℤ) Fault} (Ok (n, d)) (in_terms means q) → nat_abs n ≤ 2147483647
  terms_small q n d e = go (means q) refl e
    where
      go : (o : Option Frac) → means q ≡ o → ◌≡◌ {A = Result (ℤ × ℤ) Fault} (Ok (n, d)) (of_one (λ x. Ok (x.num, pos x.den)) o) → nat_abs n ≤ 2147483647
      go (Some x) m e = let h : ◌≡◌ {A = ℤ × ℤ} (n, d) (x.num, pos x.den) = cc in let f : n ≡ x.num = ap (λ (p : ℤ × ℤ). p.0) h in subst (λ z. nat_abs z ≤ 2147483647) (sym f) (laws.small x q (laws.forth q x m)).0
      go None m e = let z : ◌≡◌ {A = ℕ} 0 1 = cc in absurd (omega arith)
