-- A line is in order, or its first fault is told. Assumes nothing.
use Rattle.std.proofs.Common.{◌≡◌, ℕ, ◌+◌, Bool, true, false, not, List, [], ◌∷◌, ◌++◌, length, Some, None, Ok, Err, Option, sym, refl, ap, ◌∙◌, arith}
use Rattle.std.proofs.lemmas.Bool.{and_parts, not-false, not-true}
use Rattle.std.specs.List.{AllByRecursion}
use Rattle.script.specs.declared.words.LineWord.{LineWord}
use Rattle.script.specs.Refusals.{Refusal}
use Rattle.script.specs.declared.refusals.Reason.TheVariants.{NoLineWord, FieldCount, FieldForm}
use Rattle.script.specs.Words.{line_word}
use Rattle.script.specs.Tokens.{token_of}
use Rattle.script.specs.Lines.{Row, first, others, width}
use Rattle.refusal.specs.Refusals.{refused}
use Rattle.script.specs.Checks.{and_then, count_suits, form_at, has_form, misfit, by_word, row_check, rows_check}
use Rattle.script.specs.Laws.{is_none, of_word, no_line_word, wrong_count, forms_fit, Right, Fault, bad_word, bad_count, bad_form}

-- the fields of a line of this word ---------------------------------------------

module _ (w : LineWord) where
  fit_none : (k : ℕ) (fs : List (List ℕ)) → forms_fit w k fs ≡ true → misfit w k fs ≡ None
  fit_none k [] h = refl
  fit_none k (f ∷ fs) h =
      let b = and_parts (has_form (form_at w k) (token_of f)) (forms_fit w (k + 1) fs) h in
      let t : has_form (form_at w k) (token_of f) ≡ true = b.0 in
      rw t (fit_none (k + 1) fs b.1)

  misfit_at : (k m : ℕ) (before : List (List ℕ)) (f : List ℕ) (after : List (List ℕ)) → m ≡ length before + k → forms_fit w k before ≡ true → has_form (form_at w m) (token_of f) ≡ false → misfit w k (before ++ f ∷ after) ≡ Some m
  misfit_at k m [] f after e h u =
      let d : m ≡ k = omega arith in
      let t : has_form (form_at w k) (token_of f) ≡ false = ap (λ j. has_form (form_at w j) (token_of f)) (sym d) ∙ u in
      rw t (ap Some (sym d))
  misfit_at k m (g ∷ gs) f after e h u =
      let b = and_parts (has_form (form_at w k) (token_of g)) (forms_fit w (k + 1) gs) h in
      let t : has_form (form_at w k) (token_of g) ≡ true = b.0 in
      rw t (misfit_at (k + 1) m gs f after (omega arith) b.1 u)

  -- all fields have the forms of their places, or there is a first that has not
  data Sift (k : ℕ) (fs : List (List ℕ)) : Type 0 where
    fitting : forms_fit w k fs ≡ true → Sift k fs
    failing : (m : ℕ) (before : List (List ℕ)) (f : List ℕ) (after : List (List ℕ)) → m ≡ length before + k → fs ≡ before ++ f ∷ after → forms_fit w k before ≡ true → has_form (form_at w m) (token_of f) ≡ false → forms_fit w k fs ≡ false → Sift k fs

  sift_onto : (k : ℕ) (f : List ℕ) (fs : List (List ℕ)) → has_form (form_at w k) (token_of f) ≡ true → Sift (k + 1) fs → Sift k (f ∷ fs)
  sift_onto k f fs t (fitting h) = fitting (rw t h)
  sift_onto k f fs t (failing m before g after e s h u x) = failing m (f ∷ before) g after (omega arith) (ap (λ gs. f ∷ gs) s) (rw t h) u (rw t x)

  sift_by : (k : ℕ) (f : List ℕ) (fs : List (List ℕ)) (t : Bool) → has_form (form_at w k) (token_of f) ≡ t → Sift (k + 1) fs → Sift k (f ∷ fs)
  sift_by k f fs true t s = sift_onto k f fs t s
  sift_by k f fs false t s = failing k [] f fs (omega arith) refl refl t (rw t)

  sift : (k : ℕ) (fs : List (List ℕ)) → Sift k fs
  sift k [] = fitting refl
  sift k (f ∷ fs) = sift_by k f fs (has_form (form_at w k) (token_of f)) refl (sift (k + 1) fs)

-- one line ------------------------------------------------------------------------

right_by : (line : ℕ) (r : Row) (l : Option LineWord) → is_none l ≡ false → of_word l (λ w. not (count_suits w (width r))) ≡ false → of_word l (λ w. not (forms_fit w 2 (others r))) ≡ false → by_word line r l ≡ Ok tt
right_by line r (Some w) a b c =
    let s : count_suits w (width r) ≡ true = not-false (count_suits w (width r)) b in
    let n : misfit w 2 (others r) ≡ None = fit_none w 2 (others r) (not-false (forms_fit w 2 (others r)) c) in
    rw (s, n)
right_by line r None a b c = let z : ◌≡◌ {A = ℕ} 0 1 = cc in absurd (omega arith)

pub right_is : (line : ℕ) (r : Row) → Right r → row_check line r ≡ Ok tt
right_is line r h = right_by line r (line_word (first r)) h.begun h.counted h.formed

count_by : (line : ℕ) (r : Row) (l : Option LineWord) → is_none l ≡ false → of_word l (λ w. not (count_suits w (width r))) ≡ true → by_word line r l ≡ Err (refused FieldCount line 0)
count_by line r (Some w) a b = let s : count_suits w (width r) ≡ false = not-true (count_suits w (width r)) b in rw s
count_by line r None a b = let z : ◌≡◌ {A = ℕ} 0 1 = cc in absurd (omega arith)

word_by : (line : ℕ) (r : Row) (l : Option LineWord) → is_none l ≡ true → by_word line r l ≡ Err (refused NoLineWord line 1)
word_by line r (Some w) a = let z : ◌≡◌ {A = ℕ} 0 1 = cc in absurd (omega arith)
word_by line r None a = refl

form_by : (line : ℕ) (r : Row) (w : LineWord) (m : ℕ) → of_word (Some w) (λ w. not (count_suits w (width r))) ≡ false → misfit w 2 (others r) ≡ Some m → by_word line r (Some w) ≡ Err (refused FieldForm line m)
form_by line r w m b n = let s : count_suits w (width r) ≡ true = not-false (count_suits w (width r)) b in rw (s, n)

pub fault_is : (line : ℕ) (r : Row) (e : Refusal) → Fault line r e → row_check line r ≡ Err e
fault_is line r e (bad_word a) = word_by line r (line_word (first r)) a
fault_is line r e (bad_count a b) = count_by line r (line_word (first r)) a b
fault_is line r e (bad_form a b w s before f after p h u) =
    let c : of_word (Some w) (λ w. not (count_suits w (width r))) ≡ false = ap (λ l. of_word l (λ w. not (count_suits w (width r)))) (sym s) ∙ b in
    let n : misfit w 2 (others r) ≡ Some (length before + 2) = ap (misfit w 2) p ∙ misfit_at w 2 (length before + 2) before f after refl h u in
    ap (by_word line r) s ∙ form_by line r w (length before + 2) c n

-- a line is in order, or it has a fault
pub data Judged (line : ℕ) (r : Row) : Type 0 where
  in_order : Right r → Judged line r
  at_fault : (e : Refusal) → Fault line r e → Judged line r

judge_forms : (line : ℕ) (r : Row) (w : LineWord) → line_word (first r) ≡ Some w → no_line_word r ≡ false → wrong_count r ≡ false → Sift w 2 (others r) → Judged line r
judge_forms line r w s a b (fitting h) = in_order (record { begun = a; counted = b; formed = ap (λ l. of_word l (λ w. not (forms_fit w 2 (others r)))) s ∙ ap not h })
judge_forms line r w s a b (failing m before f after e p h u x) =
    at_fault _ (bad_form a b w s before f after p h (ap (λ j. has_form (form_at w j) (token_of f)) (sym e) ∙ u))

judge_count : (line : ℕ) (r : Row) (w : LineWord) (t : Bool) → line_word (first r) ≡ Some w → no_line_word r ≡ false → wrong_count r ≡ t → Judged line r
judge_count line r w true s a b = at_fault _ (bad_count a b)
judge_count line r w false s a b = judge_forms line r w s a b (sift w 2 (others r))

judge_word : (line : ℕ) (r : Row) (l : Option LineWord) → line_word (first r) ≡ l → Judged line r
judge_word line r (Some w) s = judge_count line r w (wrong_count r) s (ap is_none s) refl
judge_word line r None s = at_fault _ (bad_word (ap is_none s))

judge : (line : ℕ) (r : Row) → Judged line r
judge line r = judge_word line r (line_word (first r)) refl

-- lines in a row --------------------------------------------------------------------

pub all_right_is : (line : ℕ) (rs : List Row) → AllByRecursion Right rs → rows_check line rs ≡ Ok tt
all_right_is line [] h = refl
all_right_is line (r ∷ rs) h = ap (λ x. and_then x (λ _. rows_check (line + 1) rs)) (right_is line r h.0) ∙ all_right_is (line + 1) rs h.1

pub fault_in : (line m : ℕ) (before : List Row) (r : Row) (after : List Row) (e : Refusal) → m ≡ length before + line → AllByRecursion Right before → Fault m r e → rows_check line (before ++ r ∷ after) ≡ Err e
fault_in line m [] r after e n h a =
    let d : m ≡ line = omega arith in
    ap (λ x. and_then x (λ _. rows_check (line + 1) after)) (ap (λ k. row_check k r) (sym d) ∙ fault_is m r e a)
fault_in line m (q ∷ qs) r after e n h a =
    ap (λ x. and_then x (λ _. rows_check (line + 1) (qs ++ r ∷ after))) (right_is line q h.0) ∙ fault_in (line + 1) m qs r after e (omega arith) h.1 a

-- all lines are in order, or there is a first that is not
pub data GoneThrough (line : ℕ) (rs : List Row) : Type 0 where
  clear : AllByRecursion Right rs → GoneThrough line rs
  broken : (m : ℕ) (before : List Row) (r : Row) (after : List Row) (e : Refusal) → m ≡ length before + line → rs ≡ before ++ r ∷ after → AllByRecursion Right before → Fault m r e → GoneThrough line rs

onto : (line : ℕ) (r : Row) (rs : List Row) → Right r → GoneThrough (line + 1) rs → GoneThrough line (r ∷ rs)
onto line r rs h (clear a) = clear (h, a)
onto line r rs h (broken m before q after e n s a b) = broken m (r ∷ before) q after e (omega arith) (ap (λ xs. r ∷ xs) s) (h, a) b

by_judge : (line : ℕ) (r : Row) (rs : List Row) → Judged line r → GoneThrough (line + 1) rs → GoneThrough line (r ∷ rs)
by_judge line r rs (in_order h) g = onto line r rs h g
by_judge line r rs (at_fault e a) g = broken line [] r rs e (omega arith) refl tt a

pub go_through : (line : ℕ) (rs : List Row) → GoneThrough line rs
go_through line [] = clear tt
go_through line (r ∷ rs) = by_judge line r rs (judge line r) (go_through (line + 1) rs)
