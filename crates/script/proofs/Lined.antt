-- The checks field by field are the checks line by line. Assumes nothing.
use Rattle.std.proofs.Common.{◌≡◌, ℕ, ◌+◌, ◌≤◌, Bool, true, false, cond, eqb, List, [], ◌∷◌, ◌++◌, length, Some, None, Ok, Err, codes, Option, Result, sym, refl, ap, ◌∙◌, arith}
use Rattle.std.specs.Str.{bytes_eq}
use Rattle.std.proofs.lemmas.Bool.Decides.{nat_tests}
use Rattle.script.specs.declared.numbers.Number.{Number}
use Rattle.script.specs.declared.words.LineWord.{LineWord}
use Rattle.script.specs.declared.words.Operator.{Operator}
use Rattle.script.specs.declared.words.Word.TheVariants as word
use Rattle.script.specs.declared.tokens.Token.{Token}
use Rattle.script.specs.declared.tokens.Token.TheVariants as token
use Rattle.script.specs.declared.checks.Line.{Line}
use Rattle.script.specs.Refusals.{Refusal}
use Rattle.script.specs.declared.refusals.Reason.TheVariants.{NoLineWord}
use Rattle.script.specs.Words.{line_word, operator, or_line, or_operator}
use Rattle.script.specs.Numbers.{number_of}
use Rattle.script.specs.Tokens.{is_name, or_word, or_number, token_of}
use Rattle.script.specs.Lines.{Row, row, fields_in, Cell, cells_from, cells}
use Rattle.refusal.specs.Refusals.{refused}
use Rattle.script.specs.Checks.{sooner, and_then, form_at, has_form, misfit, by_word, rows_check}
use Rattle.script.specs.Scan.{line_so_far, begin, finish, finish_any, next_line, scan}
use Rattle.script.proofs.Bytes.{sooner_by, sooner_none}

-- the fields of a line after its first ----------------------------------------

counted : (number : ℕ) (w : LineWord) (k j n m : ℕ) (s r : Option ℕ) (xs : List Cell) → k ≡ j → n ≡ m → s ≡ r → scan (Some (line_so_far number w k s)) n xs ≡ scan (Some (line_so_far number w j r)) m xs
counted number w k j n m s r xs e f g = rw (e, f, g)

scan_fields : (number : ℕ) (w : LineWord) (k n : ℕ) (wrong : Option ℕ) (fs : List (List ℕ)) (xs : List Cell) → 1 ≤ k → scan (Some (line_so_far number w k wrong)) n (cells_from number (k + 1) fs ++ xs) ≡ scan (Some (line_so_far number w (k + length fs) (sooner wrong (misfit w (k + 1) fs)))) (n + length fs) xs
scan_fields number w k n wrong [] xs h = counted number w k (k + 0) n (n + 0) wrong (sooner wrong None) xs (omega arith) (omega arith) (sooner_none wrong)
scan_fields number w k n wrong (f ∷ fs) xs h =
    let later : eqb (k + 1) 1 ≡ false = grind (arith, nat_tests) in
    let fits = has_form (form_at w (k + 1)) (token_of f) in
    let wrong' = sooner wrong (cond fits None (Some (k + 1))) in
    rw later (scan_fields number w (k + 1) (n + 1) wrong' fs xs (omega arith)
    ∙ counted number w (k + 1 + length fs) (k + length (f ∷ fs)) (n + 1 + length fs) (n + length (f ∷ fs)) _ (sooner wrong (misfit w (k + 1) (f ∷ fs))) xs (omega arith) (omega arith) (sym (sooner_by wrong fits (misfit w (k + 1 + 1) fs) (k + 1))))

-- the first field of a line ---------------------------------------------------

-- what its first field makes of a line
abbrev begun : ℕ → Option LineWord → Result Line Refusal
begun number (Some w) = Ok (line_so_far number w 1 None)
begun number None = Err (refused NoLineWord number 1)

begun_by : (number : ℕ) (l : Option LineWord) (o : Option Operator) (t u : Bool) (n : Option Number) → begin number (or_word (or_line l (or_operator o (cond t (Some word.One) None))) (cond u token.Name (or_number n))) ≡ begun number l
begun_by number (Some w) o t u n = refl
begun_by number None (Some o) t u n = refl
begun_by number None None true u n = refl
begun_by number None None false true n = refl
begun_by number None None false false (Some n) = refl
begun_by number None None false false None = refl

begin_is : (number : ℕ) (f : List ℕ) → begin number (token_of f) ≡ begun number (line_word f)
begin_is number f = begun_by number (line_word f) (operator f) (bytes_eq f (codes "one")) (is_name f) (number_of f)

first_is : (l : Option Line) (line : ℕ) (t : Token) → next_line l line 1 t ≡ and_then (finish_any l) (λ _. begin line t)
first_is (Some l) line t = refl
first_is None line t = refl

-- lines -------------------------------------------------------------------------

abbrev total : ℕ → ℕ → List Row → Result ℕ Refusal
total n line rs = and_then (rows_check line rs) (λ _. Ok (n + fields_in rs))

summed : (r : Result Unit Refusal) (n m : ℕ) → n ≡ m → and_then r (λ _. Ok n) ≡ and_then {E = Refusal} r (λ _. Ok m)
summed r n m e = rw e

after_end : (r q : Result Unit Refusal) (s : Result Unit Refusal) (n m : ℕ) → r ≡ q → n ≡ m → and_then r (λ _. and_then s (λ _. Ok n)) ≡ and_then (and_then q (λ _. s)) (λ _. Ok m)
after_end (Ok x) q s n m e f = rw (sym e, f)
after_end (Err x) q s n m e f = rw (sym e)

-- a line of this word, and the lines after it
worded : (w : LineWord) (n line : ℕ) (fs : List (List ℕ)) (rs : List Row) (f : List ℕ) → ((l : Option Line) (k : ℕ) → scan l k (cells (line + 1) rs) ≡ and_then (finish_any l) (λ _. total k (line + 1) rs)) → scan (Some (line_so_far line w 1 None)) (n + 1) (cells_from line 2 fs ++ cells (line + 1) rs) ≡ and_then (and_then (by_word line (row f fs) (Some w)) (λ _. rows_check (line + 1) rs)) (λ _. Ok (n + fields_in (row f fs ∷ rs)))
worded w n line fs rs f ih =
    let e : 1 + length fs ≡ length fs + 1 = omega arith in
    scan_fields line w 1 (n + 1) None fs (cells (line + 1) rs) (omega arith)
    ∙ ih (Some (line_so_far line w (1 + length fs) (misfit w 2 fs))) (n + 1 + length fs)
    ∙ after_end (finish (line_so_far line w (1 + length fs) (misfit w 2 fs))) (by_word line (row f fs) (Some w)) (rows_check (line + 1) rs) (n + 1 + length fs + fields_in rs) (n + fields_in (row f fs ∷ rs)) (ap (λ k. finish (line_so_far line w k (misfit w 2 fs))) e) (omega arith)

begun_line : (l : Option LineWord) (n line : ℕ) (fs : List (List ℕ)) (rs : List Row) (f : List ℕ) → ((m : Option Line) (k : ℕ) → scan m k (cells (line + 1) rs) ≡ and_then (finish_any m) (λ _. total k (line + 1) rs)) → and_then (begun line l) (λ m. scan (Some m) (n + 1) (cells_from line 2 fs ++ cells (line + 1) rs)) ≡ and_then (and_then (by_word line (row f fs) l) (λ _. rows_check (line + 1) rs)) (λ _. Ok (n + fields_in (row f fs ∷ rs)))
begun_line (Some w) n line fs rs f ih = worded w n line fs rs f ih
begun_line None n line fs rs f ih = refl

ended_first : (r : Result Unit Refusal) (b : Result Line Refusal) (k : Line → Result ℕ Refusal) (x : Result ℕ Refusal) → and_then b k ≡ x → and_then (and_then r (λ _. b)) k ≡ and_then r (λ _. x)
ended_first (Ok u) b k x e = e
ended_first (Err y) b k x e = refl

-- a scan of whole lines ends the line before them, and then checks line by line
pub scan_lines : (rs : List Row) (l : Option Line) (n line : ℕ) → scan l n (cells line rs) ≡ and_then (finish_any l) (λ _. total n line rs)
scan_lines [] l n line = summed (finish_any l) n (n + 0) (omega arith)
scan_lines (row f fs ∷ rs) l n line =
    let k : Line → Result ℕ Refusal = λ m. scan (Some m) (n + 1) (cells_from line 2 fs ++ cells (line + 1) rs) in
    ap (λ r. and_then r k) (first_is l line (token_of f) ∙ ap (λ b. and_then (finish_any l) (λ _. b)) (begin_is line f))
    ∙ ended_first (finish_any l) (begun line (line_word f)) k _ (begun_line (line_word f) n line fs rs f (λ m j. scan_lines rs m j (line + 1)))
