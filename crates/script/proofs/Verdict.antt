-- The answer is what the rules of acceptance and refusal say. Assumes nothing.
use Rattle.std.proofs.Common.{◌≡◌, ℕ, ◌+◌, Bool, true, false, cond, ◌&&◌, ltb, nat_lt, List, length, Some, None, Ok, Err, Result, sym, refl, ap, ◌∙◌, subst, arith}
use Rattle.std.specs.List.{AllByRecursion}
use Rattle.std.proofs.lemmas.Bool.{cond-false}
use Rattle.std.proofs.lemmas.Bool.Decides.{nat_tests}
use Rattle.script.specs.Refusals.{Refusal}
use Rattle.script.specs.declared.refusals.Reason.TheVariants.{TextTooLong, NoLineFeedAtEnd, TooManyLines}
use Rattle.script.specs.Lines.{rows, fields_in}
use Rattle.refusal.specs.Refusals.{refused}
use Rattle.script.specs.Checks.{feeds, unended, stray, spot, by_stray, text_check, and_then, rows_check, passes, is_in_order}
use Rattle.script.specs.Scan.{scan, line_check}
use Rattle.script.specs.Reading.{table_check, read_of, scan_of}
use Rattle.script.specs.Laws.{too_long, too_many_lines, all_allowed, commas_after, Whole, Right, Fault, Refused, text_too_long, no_line_feed, stray_byte, many_lines, bad_line, table_too_short, Accepted, Told, Alone}
use Rattle.script.proofs.Faults.{all_right_is, fault_in, GoneThrough, clear, broken, go_through}
use Rattle.script.proofs.Split.{row_count, places_cells}
use Rattle.script.proofs.Lined.{scan_lines}
use Rattle.script.proofs.Strays as strays

module _ (text : List ℕ) (room : ℕ) where
  after_text : (e : Refusal) → text_check text ≡ Err e → read_of text room ≡ Err e
  after_text e h = ap (λ r. and_then r (λ lines. and_then (rows_check 1 (rows text)) (λ _. table_check room lines (fields_in (rows text))))) h

  whole_is : Whole text → text_check text ≡ Ok (feeds text)
  whole_is w =
      let a : too_long text ≡ false = w.short in
      let b : unended text ≡ false = w.ended in
      let s : stray 0 0 text ≡ None = strays.stray_none 0 0 text w.clean in
      let d : too_many_lines text ≡ false = w.few in
      rw (a, b, s, d)

  after_whole : Whole text → read_of text room ≡ and_then (rows_check 1 (rows text)) (λ _. table_check room (feeds text) (fields_in (rows text)))
  after_whole w = ap (λ r. and_then r (λ lines. and_then (rows_check 1 (rows text)) (λ _. table_check room lines (fields_in (rows text))))) (whole_is w)

  after_lines : Whole text → AllByRecursion Right (rows text) → read_of text room ≡ table_check room (feeds text) (fields_in (rows text))
  after_lines w h = after_whole w ∙ ap (λ r. and_then r (λ _. table_check room (feeds text) (fields_in (rows text)))) (all_right_is 1 (rows text) h)

  pub refused_is : (e : Refusal) → Refused text room e → read_of text room ≡ Err e
  refused_is e (text_too_long a) = after_text e (rw a)
  refused_is e (no_line_feed a b) = after_text e (rw (a, b))
  refused_is e (stray_byte a b before c after s h k) =
      let i : 0 + feeds before + 1 ≡ feeds before + 1 = omega arith in
      let j : stray 0 0 text ≡ Some (spot (feeds before + 1) (commas_after 0 before + 1)) = ap (stray 0 0) s ∙ strays.stray_at 0 0 before c after h k ∙ ap (λ l. Some (spot l (commas_after 0 before + 1))) i in
      after_text e (rw (a, b, j))
  refused_is e (many_lines a b c d) =
      let s : stray 0 0 text ≡ None = strays.stray_none 0 0 text c in
      after_text e (rw (a, b, s, d))
  refused_is e (bad_line w before r after e' s h a) =
      after_whole w ∙ ap (λ x. and_then x (λ _. table_check room (feeds text) (fields_in (rows text)))) (ap (rows_check 1) s ∙ fault_in 1 (length before + 1) before r after e refl h a)
  refused_is e (table_too_short w h k) =
      let t : ltb room (fields_in (rows text)) ≡ true = grind (arith, nat_tests) in
      after_lines w h ∙ rw t

  pub accepted_is : (lines fields : ℕ) → Accepted text room lines fields → read_of text room ≡ Ok (lines, fields)
  accepted_is lines fields a =
      let h = a.fits in
      let t : ltb room (fields_in (rows text)) ≡ false = grind (arith, nat_tests) in
      let l : lines ≡ feeds text = a.all_lines ∙ row_count text a.whole.ended in
      let f = a.all_fields in
      after_lines a.whole a.right ∙ rw t (let e : ◌≡◌ {A = Result (ℕ × ℕ) Refusal} (Ok (feeds text, fields_in (rows text))) (Ok (lines, fields)) = cc in e)

  data Decided : Type 0 where
    no : (e : Refusal) → Refused text room e → Decided
    yes : (lines fields : ℕ) → Accepted text room lines fields → Decided

  by_room : (t : Bool) → ltb room (fields_in (rows text)) ≡ t → Whole text → AllByRecursion Right (rows text) → Decided
  by_room true h w a = no _ (table_too_short w a (grind (arith, nat_tests)))
  by_room false h w a = yes (length (rows text)) (fields_in (rows text)) (record { whole = w; right = a; fits = grind (arith, nat_tests); all_lines = refl; all_fields = refl })

  by_rows : Whole text → GoneThrough 1 (rows text) → Decided
  by_rows w (clear a) = by_room (ltb room (fields_in (rows text))) refl w a
  by_rows w (broken m before r after e n s h a) = no e (bad_line w before r after e s h (subst (λ k. Fault k r e) n a))

  by_lines : (t : Bool) → too_many_lines text ≡ t → too_long text ≡ false → unended text ≡ false → all_allowed text ≡ true → Decided
  by_lines true d a b c = no _ (many_lines a b c d)
  by_lines false d a b c = by_rows (record { short = a; ended = b; clean = c; few = d }) (go_through 1 (rows text))

  by_bytes : too_long text ≡ false → unended text ≡ false → strays.Sift text → Decided
  by_bytes a b (strays.clear c) = by_lines (too_many_lines text) refl a b c
  by_bytes a b (strays.broken before c after s h k) = no _ (stray_byte a b before c after s h k)

  by_end : (t : Bool) → unended text ≡ t → too_long text ≡ false → Decided
  by_end true b a = no _ (no_line_feed a b)
  by_end false b a = by_bytes a b (strays.sift text)

  by_length : (t : Bool) → too_long text ≡ t → Decided
  by_length true a = no _ (text_too_long a)
  by_length false a = by_end (unended text) refl a

  tells_so : Decided → Told text room (read_of text room)
  tells_so (no e r) = subst (Told text room) (sym (refused_is e r)) r
  tells_so (yes lines fields a) = subst (Told text room) (sym (accepted_is lines fields a)) a

  pub told : Told text room (read_of text room)
  told = tells_so (by_length (too_long text) refl)

  pub alone : Alone text room
  alone = record { accepted = accepted_is; refused_only = refused_is }

-- the pass from field to field answers the same ------------------------------------

-- the two answers after a check of the whole text
abbrev scanned : List ℕ → ℕ → ℕ → Result (ℕ × ℕ) Refusal
scanned text room lines = and_then (line_check text) (λ fields. table_check room lines fields)

abbrev lined : List ℕ → ℕ → ℕ → Result (ℕ × ℕ) Refusal
lined text room lines = and_then (rows_check 1 (rows text)) (λ _. table_check room lines (fields_in (rows text)))

after_refusal : (t u : Bool) (x y : Refusal) (z : Result ℕ Refusal) (k j : ℕ → Result (ℕ × ℕ) Refusal) → u ≡ true → and_then (cond t (Err x) (cond u (Err y) z)) k ≡ and_then (cond t (Err x) (cond u (Err y) z)) j
after_refusal true u x y z k j h = refl
after_refusal false true x y z k j h = refl
after_refusal false false x y z k j h = let c : ◌≡◌ {A = ℕ} 0 1 = cc in absurd (omega arith)

same_after : (r : Result ℕ Refusal) (k j : ℕ → Result (ℕ × ℕ) Refusal) → ((n : ℕ) → k n ≡ j n) → and_then r k ≡ and_then r j
same_after (Ok n) k j h = h n
same_after (Err e) k j h = refl

through : (r : Result Unit Refusal) (n : ℕ) (k : ℕ → Result (ℕ × ℕ) Refusal) → and_then (and_then r (λ _. Ok n)) k ≡ and_then r (λ _. k n)
through (Ok u) n k = refl
through (Err e) n k = refl

by_lines_too : (text : List ℕ) (room lines : ℕ) → unended text ≡ false → scanned text room lines ≡ lined text room lines
by_lines_too text room lines h =
    let e : 0 + fields_in (rows text) ≡ fields_in (rows text) = omega arith in
    ap (λ r. and_then r (λ fields. table_check room lines fields)) (ap (scan None 0) (places_cells text h) ∙ scan_lines (rows text) None 0 1 ∙ ap (λ n. and_then (rows_check 1 (rows text)) (λ _. Ok n)) e)
    ∙ through (rows_check 1 (rows text)) (fields_in (rows text)) (λ fields. table_check room lines fields)

pass_by_end : (text : List ℕ) (room : ℕ) (t : Bool) → unended text ≡ t → scan_of text room ≡ read_of text room
pass_by_end text room true h =
    after_refusal (too_long text) (unended text) (refused TextTooLong 0 0) (refused NoLineFeedAtEnd (feeds text + 1) 0)
    (by_stray (stray 0 0 text) (cond (too_many_lines text) (Err (refused TooManyLines 257 0)) (Ok (feeds text)))) (scanned text room) (lined text room) h
pass_by_end text room false h = same_after (text_check text) (scanned text room) (lined text room) (λ lines. by_lines_too text room lines h)

pub scan_is_read : (text : List ℕ) (room : ℕ) → scan_of text room ≡ read_of text room
scan_is_read text room = pass_by_end text room (unended text) refl

-- a text that both checks pass is in order ----------------------------------------

both_pass : {A B E C : Type 0} (r : Result A E) (s : Result B E) (k : A → B → Result C E) (c : C) → and_then r (λ a. and_then s (k a)) ≡ Ok c → (passes r && passes s) ≡ true
both_pass (Ok a) (Ok b) k c h = refl
both_pass (Ok a) (Err e) k c h = let z : ◌≡◌ {A = ℕ} 0 1 = cc in absurd (omega arith)
both_pass (Err e) s k c h = let z : ◌≡◌ {A = ℕ} 0 1 = cc in absurd (omega arith)

has_room : (lines fields : ℕ) → table_check fields lines fields ≡ Ok (lines, fields)
has_room lines fields = cond-false (nat_lt fields fields) _ _ (grind (arith, nat_tests))

pub ordered : (text : List ℕ) (lines fields : ℕ) → text_check text ≡ Ok lines → line_check text ≡ Ok fields → is_in_order text ≡ true
ordered text lines fields h k =
    let scanned_so : scan_of text fields ≡ Ok (lines, fields) = rw (h, k) (has_room lines fields) in
    both_pass (text_check text) (rows_check 1 (rows text)) (λ n _. table_check fields n (fields_in (rows text))) (lines, fields) (sym (scan_is_read text fields) ∙ scanned_so)
