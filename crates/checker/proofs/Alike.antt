-- Two kinds answer alike but for the numbers that they hold. Assumes nothing.
use Rattle.std.proofs.Common.{◌≡◌, ℕ, Bool, true, false, cond, List, [], ◌∷◌, take, Some, None, Ok, Err, Option, Result, sym, refl, ap, subst, inl, inr}
use Rattle.script.specs.declared.words.LineWord.{LineWord}
use Rattle.script.specs.declared.reading.Entry.{Entry}
use Rattle.script.specs.Checks.{and_then}
use Rattle.number.specs.declared.Pair.{Pair}
use Rattle.number.specs.Frac.{Frac}
use Rattle.checker.specs.declared.refusals.Reason.TheVariants.{OtherTable, NameNotDeclared, NumberNotHeld}
use Rattle.checker.specs.Refusals.{Refusal}
use Rattle.checker.specs.declared.lines.Past.{Past}
use Rattle.refusal.specs.Refusals.{refused}
use Rattle.entries.specs.Fields.{lines, unheld, first_word, head_of, second_place}
use Rattle.checker.specs.Conditions.{refused_at, after_var, first_unknown, line_by, line_check, lines_check, at_first}
use Rattle.checker.specs.Checking.{other_table, entries_check, check_of}
use Rattle.checker.specs.Laws.{by_number, ButForNumbers, KindsDifferByNumbers}

-- two answers alike, or one of them a refusal by 11
data Near {A : Type 0} : Result A Refusal → Result A Refusal → Type 0 where
  same : {r s : Result A Refusal} → r ≡ s → Near r s
  first : {r s : Result A Refusal} (n k : ℕ) → r ≡ Err (refused NumberNotHeld n k) → Near r s
  second : {r s : Result A Refusal} (n k : ℕ) → s ≡ Err (refused NumberNotHeld n k) → Near r s

near_then : {A B : Type 0} (r s : Result A Refusal) (f g : A → Result B Refusal) → Near r s → ((a : A) → Near (f a) (g a)) → Near (and_then r f) (and_then s g)
near_then {A} {B} r s f g (same e) h = subst (λ (t : Result A Refusal). Near (and_then r f) (and_then t g)) e (by r)
  where
    by : (t : Result A Refusal) → Near (and_then t f) (and_then t g)
    by (Ok a) = h a
    by (Err x) = same refl
near_then {A} {B} r s f g (first n k e) h = first n k (ap (λ (t : Result A Refusal). and_then t f) e)
near_then {A} {B} r s f g (second n k e) h = second n k (ap (λ (t : Result A Refusal). and_then t g) e)

near_number : (o u : Option ℕ) (n : ℕ) → Near (refused_at o NumberNotHeld n) (refused_at u NumberNotHeld n)
near_number None None n = same refl
near_number None (Some k) n = second n k refl
near_number (Some k) u n = first n k refl

module _ (means means' : Pair → Option Frac) (code code' : Frac → Option Pair) (text : List ℕ) where
  near_line_by : (p : Past) (w : LineWord) (n : ℕ) (line : List Entry) → Near (line_by means code text p w n line) (line_by means' code' text p w n line)
  near_line_by p w n line =
      near_then (after_var text p w n (second_place line)) _ _ _ (same refl) (λ q.
      near_then (refused_at (first_unknown text q w line) NameNotDeclared n) _ _ _ (same refl) (λ u.
      near_then (refused_at (unheld means code line) NumberNotHeld n) (refused_at (unheld means' code' line) NumberNotHeld n) _ _ (near_number (unheld means code line) (unheld means' code' line) n) (λ v. same refl)))

  near_lines : (p : Past) (ls : List (List Entry)) → Near (lines_check means code text p ls) (lines_check means' code' text p ls)
  near_lines p [] = same refl
  near_lines p (l ∷ ls) =
      near_then (line_check means code text p l) (line_check means' code' text p l) _ _ (near_line_by p (first_word (head_of l).token) (head_of l).place.line l) (λ q. near_lines q ls)

  near_entries : (es : List Entry) → Near (entries_check means code text es) (entries_check means' code' text es)
  near_entries es = near_then (lines_check means code text at_first (lines es)) (lines_check means' code' text at_first (lines es)) _ _ (near_lines at_first (lines es)) (λ p. same refl)

  near_check : (fields : ℕ) (table : List Entry) → Near (check_of means code text fields table) (check_of means' code' text fields table)
  near_check fields table = by (other_table text fields table)
    where
      by : (b : Bool) → Near (cond b (Err (refused OtherTable 0 0)) (entries_check means code text (take fields table))) (cond b (Err (refused OtherTable 0 0)) (entries_check means' code' text (take fields table)))
      by true = same refl
      by false = near_entries (take fields table)

told : (r s : Result Unit Refusal) → Near r s → ButForNumbers r s
told r s (same e) = inl e
told r s (first n k e) = inr (inl (subst by_number (sym e) refl))
told r s (second n k e) = inr (inr (subst by_number (sym e) refl))

pub kinds_differ_by_numbers : KindsDifferByNumbers
kinds_differ_by_numbers means means' code code' text fields table = told _ _ (near_check means means' code code' text fields table)
