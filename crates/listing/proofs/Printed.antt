-- What is printed of a text. Assumes nothing.
use Rattle.std.proofs.Common.{◌≡◌, ℕ, ◌+◌, ◌*◌, ◌<◌, ◌≤◌, true, false, not, List, [], ◌∷◌, ◌++◌, map, length, get_or, take, drop, Some, None, Ok, Option, sym, refl, ap, ◌∙◌, subst, arith}
use Rattle.std.proofs.lemmas.List.{at_drop_more, append_assoc, length-take-le}
use Rattle.std.proofs.lemmas.Bool.{not-false}
use Rattle.std.proofs.lemmas.Bool.Decides.{nat_tests}
use Rattle.std.specs.List.{AllByRecursion, flat_map}
use Rattle.script.specs.declared.words.LineWord.{LineWord}
use Rattle.script.specs.declared.words.LineWord.TheVariants.{Var, Set, Run, Rate, If, Else, While, End}
use Rattle.script.specs.declared.reading.Entry.{Entry}
use Rattle.script.specs.Refusals.{Refusal}
use Rattle.script.specs.declared.refusals.Reason.TheVariants.{TableTooShort}
use Rattle.script.specs.Words.{line_word}
use Rattle.script.specs.Tokens.{token_of}
use Rattle.script.specs.Places.{bytes_at}
use Rattle.script.specs.Lines.{Row, first, width, rows, fields_in, cells}
use Rattle.script.specs.Checks.{count_suits, feeds}
use Rattle.script.specs.Reading.{read_of}
use Rattle.script.specs.Laws.{too_many_lines, Told, Refused, text_too_long, no_line_feed, stray_byte, many_lines, bad_line, table_too_short, Right, Fault, bad_word, bad_count, bad_form, is_none, of_word, cell_of, Entered}
use Rattle.script.proofs.Split.{row_count}
use Rattle.script.proofs.Verdict.{told}
use Rattle.listing.specs.Rows.{room, cell_line, entry_line, entry_lines, total_line, shown, printed, RoomEnough}

-- one line more
pub row_more : (text : List ℕ) (es : List Entry) (i : ℕ) (d : Entry) (out line after : List ℕ) → i < length es → line ≡ entry_line text (get_or es i d) → after ≡ out ++ line → out ++ entry_lines text (drop i es) ≡ after ++ entry_lines text (drop (i + 1) es)
row_more text es i d out line after lt e f =
    ap (λ s. out ++ s) (at_drop_more (entry_lines text) es i d lt)
    ∙ sym (append_assoc out (entry_line text (get_or es i d)) (entry_lines text (drop (i + 1) es)))
    ∙ ap (λ s. s ++ entry_lines text (drop (i + 1) es)) (ap (λ s. out ++ s) (sym e) ∙ sym f)

-- the lines of entries are those of their fields
cell_lines : (text : List ℕ) (es : List Entry) → AllByRecursion (λ (e : Entry). e.token ≡ token_of (bytes_at text e.place)) es → entry_lines text es ≡ flat_map cell_line (map (cell_of text) es)
cell_lines text [] h = refl
cell_lines text (e ∷ es) h =
    let t : entry_line text e ≡ cell_line (cell_of text e) = rw h.0 in
    ap (λ s. s ++ entry_lines text es) t ∙ ap (λ s. cell_line (cell_of text e) ++ s) (cell_lines text es h.1)

pub all_lines : (text : List ℕ) (table : List Entry) (lines fields : ℕ) → Ok (lines, fields) ≡ read_of text room → fields ≤ length table → Entered text (take fields table) → entry_lines text (take fields table) ++ total_line lines (length (take fields table)) ≡ printed text
all_lines text table lines fields e fits h =
    ap (λ s. s ++ total_line lines (length (take fields table))) (cell_lines text (take fields table) h.tokens ∙ ap (flat_map cell_line) h.fields)
    ∙ ap (λ n. flat_map cell_line (cells 1 (rows text)) ++ total_line lines n) (length-take-le fields table fits)
    ∙ ap (shown text) e

-- the same, by the text and the counts that the draft gives
pub lines_cut : (text own : List ℕ) (table : List Entry) (lines fields n : ℕ) → own ≡ text → n ≡ fields → Ok (lines, fields) ≡ read_of text room → fields ≤ length table → Entered text (take fields table) → entry_lines own (take n table) ++ total_line lines (length (take n table)) ≡ printed text
lines_cut text own table lines fields n p q e fits h = rw (q, p) (all_lines text table lines fields e fits h)

-- no line has more than 18 fields ---------------------------------------------

suits_few : (w : LineWord) (n : ℕ) → count_suits w n ≡ true → n ≤ 18
suits_few Var n h = grind (arith, nat_tests)
suits_few Set n h = grind (arith, nat_tests)
suits_few Run n h = grind (arith, nat_tests)
suits_few Rate n h = grind (arith, nat_tests)
suits_few If n h = grind (arith, nat_tests)
suits_few Else n h = grind (arith, nat_tests)
suits_few While n h = grind (arith, nat_tests)
suits_few End n h = grind (arith, nat_tests)

few_by : (r : Row) (l : Option LineWord) → is_none l ≡ false → of_word l (λ w. not (count_suits w (width r))) ≡ false → width r ≤ 18
few_by r (Some w) a b = suits_few w (width r) (not-false (count_suits w (width r)) b)
few_by r None a b = let z : ◌≡◌ {A = ℕ} 0 1 = cc in absurd (omega arith)

few_fields : (rs : List Row) → AllByRecursion Right rs → fields_in rs ≤ 18 * length rs
few_fields [] h = omega arith
few_fields (r ∷ rs) h =
    let k = few_by r (line_word (first r)) h.0.begun h.0.counted in
    let m = few_fields rs h.1 in
    omega arith

few_lines : (text : List ℕ) → too_many_lines text ≡ false → feeds text ≤ 256
few_lines text h = grind (arith, nat_tests)

-- a line's fault is not that of a table
fault_not_short : (line : ℕ) (r : Row) (e : Refusal) → Fault line r e → e.reason ≡ TableTooShort → ⊥
fault_not_short line r e (bad_word a) h = let z : ◌≡◌ {A = ℕ} 0 1 = cc in omega arith
fault_not_short line r e (bad_count a b) h = let z : ◌≡◌ {A = ℕ} 0 1 = cc in omega arith
fault_not_short line r e (bad_form a b w k front f back p l u) h = let z : ◌≡◌ {A = ℕ} 0 1 = cc in omega arith

-- so there is room enough for every text
not_short : (text : List ℕ) (e : Refusal) → Refused text room e → e.reason ≡ TableTooShort → ⊥
not_short text e (text_too_long a) h = let z : ◌≡◌ {A = ℕ} 0 1 = cc in omega arith
not_short text e (no_line_feed a b) h = let z : ◌≡◌ {A = ℕ} 0 1 = cc in omega arith
not_short text e (stray_byte a b before c after s k l) h = let z : ◌≡◌ {A = ℕ} 0 1 = cc in omega arith
not_short text e (many_lines a b c d) h = let z : ◌≡◌ {A = ℕ} 0 1 = cc in omega arith
not_short text e (bad_line w before r after e' s a b) h = fault_not_short (length before + 1) r e b h
not_short text e (table_too_short w a k) h =
    let few = few_fields (rows text) a in
    let many : feeds text ≤ 256 = few_lines text w.few in
    let n = row_count text w.ended in
    omega arith

pub room_enough : (text : List ℕ) → RoomEnough text
room_enough text e h = not_short text e (subst (Told text room) h (told text room))
