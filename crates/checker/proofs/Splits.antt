-- Entries by lines, as they are gone through. Assumes nothing.
use Rattle.std.proofs.Common.{◌≡◌, ℕ, suc, ◌+◌, ◌<◌, ◌≤◌, Bool, true, false, cond, not, eqb, ltb, List, [], ◌∷◌, length, take, drop, unwrap_or, Some, None, sym, refl, ap, ◌∙◌, arith}
use Rattle.std.proofs.lemmas.List.Recursion.{is_position_or_len}
use Rattle.std.proofs.lemmas.List.Sums.{prefix_len-le-length}
use Rattle.std.proofs.lemmas.Bool.{ltb-false}
use Rattle.std.specs.List.{position, position_or_len}
use Rattle.script.specs.declared.reading.Entry.{Entry}
use Rattle.entries.specs.Fields.{rest_of_line, fresh, onto, lines}

-- the first line, and the others
pub lines_split : (e : Entry) (es : List Entry) → lines (e ∷ es) ≡ (e ∷ take (rest_of_line es) es) ∷ lines (drop (rest_of_line es) es)
lines_split e [] = refl
lines_split e (f ∷ es) = go (eqb f.place.field 1) refl (lines_split f es)
  where
    go : (b : Bool) → eqb f.place.field 1 ≡ b → lines (f ∷ es) ≡ (f ∷ take (rest_of_line es) es) ∷ lines (drop (rest_of_line es) es) → lines (e ∷ f ∷ es) ≡ (e ∷ take (rest_of_line (f ∷ es)) (f ∷ es)) ∷ lines (drop (rest_of_line (f ∷ es)) (f ∷ es))
    go true p q = rw p
    go false p q =
        let one : rest_of_line es + 1 ≡ suc (rest_of_line es) = omega arith in
        rw (p, one) (ap (onto e) q)

-- the same, of a slice that is cut behind its first line
pub lines_cut : (es : List Entry) (e : Entry) (others line rest : List Entry) (n : ℕ) → es ≡ e ∷ others → n ≡ rest_of_line others → line ≡ take (1 + n) es → rest ≡ drop (1 + n) es → lines es ≡ line ∷ lines rest
lines_cut es e others line rest n p q f b =
    let m : 1 + n ≡ suc (rest_of_line others) = omega (arith, q) in
    ap lines p
    ∙ lines_split e others
    ∙ ap (λ (l : List Entry). l ∷ lines (drop (rest_of_line others) others)) (sym (f ∙ ap (λ (k : ℕ). take k es) m ∙ ap (take (suc (rest_of_line others))) p))
    ∙ ap (λ (l : List Entry). line ∷ lines l) (sym (b ∙ ap (λ (k : ℕ). drop k es) m ∙ ap (drop (suc (rest_of_line others))) p))

-- the next line begins at the first entry whose field is 1
pub next_line_is : (es : List Entry) → unwrap_or (position (λ (e : Entry). eqb e.place.field 1) es) (length es) ≡ rest_of_line es
next_line_is es = by (ltb (position_or_len begins es) (length es)) refl
  where
    begins : Entry → Bool
    begins e = eqb e.place.field 1

    there : rest_of_line es ≡ position_or_len begins es
    there = is_position_or_len rest_of_line begins refl (λ e es. ap (λ (n : ℕ). cond (begins e) 0 n) (omega arith)) es

    by : (b : Bool) → ltb (position_or_len begins es) (length es) ≡ b → unwrap_or (cond b (Some (position_or_len begins es)) None) (length es) ≡ rest_of_line es
    by true p = sym there
    by false p = omega (arith, there, ltb-false _ _ p, prefix_len-le-length (λ e. not (begins e)) es)

-- no line is empty
pub line_filled : (es l : List Entry) (ls : List (List Entry)) → lines es ≡ l ∷ ls → 0 < length l
line_filled [] l ls h = cc
line_filled (e ∷ es) l ls h =
    let p : (e ∷ take (rest_of_line es) es) ∷ lines (drop (rest_of_line es) es) ≡ l ∷ ls = sym (lines_split e es) ∙ h in
    let q : e ∷ take (rest_of_line es) es ≡ l = cc in
    omega (arith, ap length q)

-- so there are at most as many lines as entries
pub lines_few : (es : List Entry) → length (lines es) ≤ length es
lines_few [] = omega arith
lines_few (e ∷ es) = by (fresh es) (lines es) (lines_few es)
  where
    by : (b : Bool) (ls : List (List Entry)) → length ls ≤ length es → length (cond b ((e ∷ []) ∷ ls) (onto e ls)) ≤ suc (length es)
    by true ls h = omega arith
    by false [] h = omega arith
    by false (l ∷ ls) h = omega arith
