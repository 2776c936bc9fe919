-- No line of a text that is in order has more than 18 fields. Assumes nothing.
use Rattle.std.proofs.Common.{◌≡◌, ℕ, suc, ◌+◌, ◌≤◌, Bool, true, false, cond, ◌&&◌, leb, List, [], ◌∷◌, map, length, Some, None, Ok, Err, Option, Result, sym, refl, ap, ◌∙◌, subst, arith}
use Rattle.std.proofs.lemmas.List.{length-map}
use Rattle.std.proofs.lemmas.Bool.{and_parts}
use Rattle.std.proofs.lemmas.Bool.Decides.{nat_tests}
use Rattle.std.specs.List.{AllByRecursion}
use Rattle.script.specs.declared.words.LineWord.{LineWord}
use Rattle.script.specs.declared.words.LineWord.TheVariants.{Var, Set, Run, Rate, If, Else, While, End}
use Rattle.script.specs.declared.reading.Entry.{Entry}
use Rattle.script.specs.Refusals.{Refusal}
use Rattle.script.specs.Words.{line_word}
use Rattle.script.specs.Lines.{Row, row, rows, first, width, row_cells}
use Rattle.script.specs.Laws.{cell_of}
use Rattle.script.specs.Reading.{entries}
use Rattle.script.specs.Checks.{unended, text_check, and_then, count_suits, by_word, row_check, rows_check, passes, is_in_order}
use Rattle.entries.specs.Fields.{lines}
use Rattle.checker.specs.Verdict.{numbered}
use Rattle.checker.proofs.Lined.{cells_count, lines_of_text}

-- a line has at most 18 fields, whatever its word
few_fields : (w : LineWord) (n : ℕ) → count_suits w n ≡ true → n ≤ 18
few_fields Var n h = grind (arith, nat_tests)
few_fields Set n h = let k = and_parts (leb 3 n) (leb n 18) h in let e = k.1 in grind (arith, nat_tests)
few_fields Run n h = let k = and_parts (leb 2 n) (leb n 17) h in let e = k.1 in grind (arith, nat_tests)
few_fields Rate n h = let j = and_parts (leb 4 n && leb n 14) _ h in let k = and_parts (leb 4 n) (leb n 14) j.0 in let e = k.1 in grind (arith, nat_tests)
few_fields If n h = let k = and_parts (leb 2 n) (leb n 17) h in let e = k.1 in grind (arith, nat_tests)
few_fields Else n h = grind (arith, nat_tests)
few_fields While n h = let k = and_parts (leb 2 n) (leb n 17) h in let e = k.1 in grind (arith, nat_tests)
few_fields End n h = grind (arith, nat_tests)

row_short : (line : ℕ) (r : Row) → passes (row_check line r) ≡ true → width r ≤ 18
row_short line r h = by (line_word (first r)) h
  where
    counted : (w : LineWord) (b : Bool) → count_suits w (width r) ≡ b → (x : Result Unit Refusal) (e : Refusal) → passes (cond b x (Err e)) ≡ true → width r ≤ 18
    counted w true c x e h = few_fields w (width r) c
    counted w false c x e h = cc

    by : (o : Option LineWord) → passes (by_word line r o) ≡ true → width r ≤ 18
    by (Some w) h = counted w (count_suits w (width r)) refl _ _ h
    by None h = cc

first_passes : (a b : Result Unit Refusal) → passes (and_then a (λ _. b)) ≡ true → (passes a ≡ true) × (passes b ≡ true)
first_passes (Ok u) b h = (refl, h)
first_passes (Err e) b h = cc

rows_short : (line : ℕ) (rs : List Row) → passes (rows_check line rs) ≡ true → AllByRecursion (λ r. width r ≤ 18) rs
rows_short line [] h = tt
rows_short line (r ∷ rs) h =
    let k = first_passes (row_check line r) (rows_check (line + 1) rs) h in
    (row_short line r k.0, rows_short (line + 1) rs k.1)

-- a line of cells is as long as its row is wide
row_length : (n : ℕ) (r : Row) → length (row_cells n r) ≡ width r
row_length n (row f fs) = ap suc (cells_count n 2 fs) ∙ omega arith

numbered_short : (n : ℕ) (rs : List Row) → AllByRecursion (λ r. width r ≤ 18) rs → AllByRecursion (λ cs. length cs ≤ 18) (numbered n rs)
numbered_short n [] h = tt
numbered_short n (r ∷ rs) h = let k = h.0 in (let e = row_length n r in omega arith, numbered_short (n + 1) rs h.1)

mapped_short : (text : List ℕ) (ls : List (List Entry)) → AllByRecursion (λ cs. length cs ≤ 18) (map (map (cell_of text)) ls) → AllByRecursion (λ l. length l ≤ 18) ls
mapped_short text [] h = tt
mapped_short text (l ∷ ls) h = let k = h.0 in (let e = length-map l (cell_of text) in omega arith, mapped_short text ls h.1)

ended : (a b : Bool) (e f : Refusal) (r : Result ℕ Refusal) → passes (cond a (Err e) (cond b (Err f) r)) ≡ true → b ≡ false
ended a true e f r h = by a h
  where
    by : (a : Bool) → passes {A = ℕ} (cond a (Err e) (Err f)) ≡ true → true ≡ false
    by true h = cc
    by false h = cc
ended a false e f r h = refl

pub lines_short : (text : List ℕ) → is_in_order text ≡ true → AllByRecursion (λ l. length l ≤ 18) (lines (entries text))
lines_short text h =
    let k = and_parts (passes (text_check text)) _ h in
    let u : unended text ≡ false = ended _ (unended text) _ _ _ k.0 in
    mapped_short text (lines (entries text)) (subst (AllByRecursion (λ cs. length cs ≤ 18)) (sym (lines_of_text text u)) (numbered_short 1 (rows text) (rows_short 1 (rows text) k.1)))
