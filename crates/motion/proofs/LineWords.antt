-- One turn of the walk from line to line, by the first word of the line.
use Rattle.std.proofs.Common.{◌≡◌, ℕ, zero, suc, ◌<◌, ◌≤◌, ◌⊎◌, List, [], ◌∷◌, map, length, get_or, drop, pos, Some, None, Option, sym, refl, ap, ◌∙◌, inl, inr, arith, drop_of_length-le, drop-cons}
use lib.ListN.{length-map, get_or-map}
use lib.Seq.{drop-nil}
use Rattle.number.specs.Frac.{whole}
use Rattle.script.specs.declared.words.LineWord.{LineWord}
use Rattle.script.specs.declared.words.LineWord.TheVariants as w
use Rattle.motion.specs.Lines.{Line, var_line, set_line, run_line, rate_line, if_line, else_line, while_line, end_line}
use Rattle.motion.specs.NextLine.{Open, in_while, in_if, open_after, opens, settle, onward}
use Rattle.motion.specs.LineWords.{word_of, back_to}
use Rattle.motion.proofs.NextLine.{opens_more}

-- the blocks open behind a line, by its word
abbrev pub open_by : List Open → ℕ → LineWord → List Open
open_by st n w.If = in_if ∷ st
open_by st n w.While = in_while n ∷ st
open_by st n w.End = drop 1 st
open_by st n w.Var = st
open_by st n w.Set = st
open_by st n w.Run = st
open_by st n w.Rate = st
open_by st n w.Else = st

open_same : (st : List Open) (n : ℕ) (l : Line) → open_after st n l ≡ open_by st n (word_of l)
open_same st n (var_line x) = refl
open_same st n (set_line x e) = refl
open_same st n (run_line e) = refl
open_same st n (rate_line r) = refl
open_same st n (if_line e) = refl
open_same st n else_line = refl
open_same st n (while_line e) = refl
open_same st n end_line = refl

abbrev pub or_else : Option ℕ → ℕ → ℕ
or_else (Some o) r = o
or_else None r = r

-- where the walk goes at a line, by its word; `on` goes on behind it
abbrev pub go_by : ℕ → LineWord → List Open → ℕ → (ℕ → ℕ) → ℕ
go_by zero w.Rate st n on = on 0
go_by zero w.Else st n on = on 1
go_by zero w.End st n on = or_else (back_to st) (on 0)
go_by zero w.Var st n on = n
go_by zero w.Set st n on = n
go_by zero w.Run st n on = n
go_by zero w.If st n on = n
go_by zero w.While st n on = n
go_by (suc k) w.If st n on = on (suc (suc k))
go_by (suc k) w.While st n on = on (suc (suc k))
go_by (suc k) w.End st n on = on k
go_by (suc zero) w.Else st n on = on 0
go_by (suc (suc k)) w.Else st n on = on (suc (suc k))
go_by (suc k) w.Var st n on = on (suc k)
go_by (suc k) w.Set st n on = on (suc k)
go_by (suc k) w.Run st n on = on (suc k)
go_by (suc k) w.Rate st n on = on (suc k)

go_same : (k : ℕ) (st : List Open) (n : ℕ) (l : Line) (ls : List Line) → settle k st n (l ∷ ls) ≡ go_by k (word_of l) st n (λ j. settle j (open_after st n l) (suc n) ls)
go_same zero st n (var_line x) ls = refl
go_same zero st n (set_line x e) ls = refl
go_same zero st n (run_line e) ls = refl
go_same zero st n (rate_line r) ls = refl
go_same zero st n (if_line e) ls = refl
go_same zero st n else_line ls = refl
go_same zero st n (while_line e) ls = refl
go_same zero [] n end_line ls = refl
go_same zero (in_while o ∷ st) n end_line ls = refl
go_same zero (in_if ∷ st) n end_line ls = refl
go_same (suc k) st n (var_line x) ls = refl
go_same (suc k) st n (set_line x e) ls = refl
go_same (suc k) st n (run_line e) ls = refl
go_same (suc k) st n (rate_line r) ls = refl
go_same (suc k) st n (if_line e) ls = refl
go_same (suc zero) st n else_line ls = refl
go_same (suc (suc k)) st n else_line ls = refl
go_same (suc k) st n (while_line e) ls = refl
go_same (suc k) st n end_line ls = refl

drop_one : (d : ℕ) (st : List Open) → drop d (drop 1 st) ≡ drop (suc d) st
drop_one zero [] = refl
drop_one (suc d) [] = refl
drop_one d (x ∷ st) = refl

-- the words that open and close nothing, and those of statements
abbrev pub Unblocked : LineWord → Type 0
Unblocked x = (x ≡ w.Var) ⊎ ((x ≡ w.Set) ⊎ ((x ≡ w.Run) ⊎ ((x ≡ w.Rate) ⊎ (x ≡ w.Else))))

abbrev pub Passed : LineWord → Type 0
Passed x = (x ≡ w.Var) ⊎ ((x ≡ w.Set) ⊎ ((x ≡ w.Run) ⊎ (x ≡ w.Rate)))

abbrev pub Stated : LineWord → Type 0
Stated x = (x ≡ w.Var) ⊎ ((x ≡ w.Set) ⊎ ((x ≡ w.Run) ⊎ ((x ≡ w.If) ⊎ (x ≡ w.While))))

open_unblocked : (st : List Open) (n : ℕ) (x : LineWord) → Unblocked x → open_by st n x ≡ st
open_unblocked st n x (inl e) = ap (open_by st n) e
open_unblocked st n x (inr (inl e)) = ap (open_by st n) e
open_unblocked st n x (inr (inr (inl e))) = ap (open_by st n) e
open_unblocked st n x (inr (inr (inr (inl e)))) = ap (open_by st n) e
open_unblocked st n x (inr (inr (inr (inr e)))) = ap (open_by st n) e

go_passed : (k : ℕ) (st : List Open) (n : ℕ) (on : ℕ → ℕ) (x : LineWord) → Passed x → go_by (suc k) x st n on ≡ on (suc k)
go_passed k st n on x (inl e) = ap (λ (x : LineWord). go_by (suc k) x st n on) e
go_passed k st n on x (inr (inl e)) = ap (λ (x : LineWord). go_by (suc k) x st n on) e
go_passed k st n on x (inr (inr (inl e))) = ap (λ (x : LineWord). go_by (suc k) x st n on) e
go_passed k st n on x (inr (inr (inr e))) = ap (λ (x : LineWord). go_by (suc k) x st n on) e

go_stated : (st : List Open) (n : ℕ) (on : ℕ → ℕ) (x : LineWord) → Stated x → go_by 0 x st n on ≡ n
go_stated st n on x (inl e) = ap (λ (x : LineWord). go_by 0 x st n on) e
go_stated st n on x (inr (inl e)) = ap (λ (x : LineWord). go_by 0 x st n on) e
go_stated st n on x (inr (inr (inl e))) = ap (λ (x : LineWord). go_by 0 x st n on) e
go_stated st n on x (inr (inr (inr (inl e)))) = ap (λ (x : LineWord). go_by 0 x st n on) e
go_stated st n on x (inr (inr (inr (inr e)))) = ap (λ (x : LineWord). go_by 0 x st n on) e

go_else : (k : ℕ) (st : List Open) (n : ℕ) (on : ℕ → ℕ) → (k ≡ 0 → ⊥) → go_by (suc k) w.Else st n on ≡ on (suc k)
go_else zero st n on h = absurd (h refl)
go_else (suc k) st n on h = refl

-- the line at index i, and the one behind it, j
module _ (words : List LineWord) (all : List Line) (e : words ≡ map word_of all) (i j : ℕ) (s : j ≡ suc i) (h : i < length words) where
  abbrev here : Line
  here = get_or all i (var_line (whole (pos 0)))

  abbrev st : List Open
  st = opens [] 1 i all

  line_read : drop i all ≡ here ∷ drop (suc i) all
  line_read = drop-cons all i (var_line (whole (pos 0))) (omega (arith, length-map all word_of, ap length e))

  word_read : word_of here ≡ get_or words i w.Var
  word_read = rw e (sym (get_or-map word_of all i (var_line (whole (pos 0)))))

  opens_next : opens [] 1 j all ≡ open_after st (suc i) here
  opens_next = ap (λ (m : ℕ). opens [] 1 m all) s ∙ opens_more [] 1 i (suc i) all here (drop (suc i) all) (omega arith) line_read

  pub opens_by : opens [] 1 j all ≡ open_by st (suc i) (get_or words i w.Var)
  opens_by = opens_next ∙ open_same st (suc i) here ∙ ap (open_by st (suc i)) word_read

  -- one turn of the walk
  turn : (k : ℕ) → onward k all i ≡ go_by k (get_or words i w.Var) st (suc i) (λ m. onward m all j)
  turn k =
      ap (settle k st (suc i)) line_read
      ∙ go_same k st (suc i) here (drop (suc i) all)
      ∙ ap (λ (o : List Open). go_by k (word_of here) st (suc i) (λ m. settle m o (suc (suc i)) (drop (suc i) all))) (sym opens_next)
      ∙ ap (λ (n : ℕ). go_by k (word_of here) st (suc i) (λ m. settle m (opens [] 1 j all) (suc n) (drop n all))) (sym s)
      ∙ ap (λ (x : LineWord). go_by k x st (suc i) (λ m. onward m all j)) word_read

  pub turn_by : (k : ℕ) (x : LineWord) → get_or words i w.Var ≡ x → onward k all i ≡ go_by k x st (suc i) (λ m. onward m all j)
  turn_by k x q = turn k ∙ ap (λ (x : LineWord). go_by k x st (suc i) (λ m. onward m all j)) q

  -- the walk forwards, inside of k blocks that are to be left
  pub walk_opened : (x : LineWord) → get_or words i w.Var ≡ x → (x ≡ w.If) ⊎ (x ≡ w.While) → (k k' : ℕ) → k' ≡ suc k → onward (suc k') all j ≡ onward (suc k) all i
  walk_opened x q (inl y) k k' r = rw r (sym (turn_by (suc k) w.If (q ∙ y)))
  walk_opened x q (inr y) k k' r = rw r (sym (turn_by (suc k) w.While (q ∙ y)))

  pub walk_closed : get_or words i w.Var ≡ w.End → (k k' : ℕ) → k ≡ k' → onward k' all j ≡ onward (suc k) all i
  walk_closed q k k' r = rw (← r) (sym (turn_by (suc k) w.End q))

  pub walk_to_else : get_or words i w.Var ≡ w.Else → (k : ℕ) → k ≡ 0 → onward 0 all j ≡ onward (suc k) all i
  walk_to_else q k r = rw r (sym (turn_by 1 w.Else q))

  pub walk_over_else : get_or words i w.Var ≡ w.Else → (k k' : ℕ) → (k ≡ 0 → ⊥) → k' ≡ k → onward (suc k') all j ≡ onward (suc k) all i
  walk_over_else q k k' z r = rw r (sym (turn_by (suc k) w.Else q ∙ go_else k st (suc i) (λ m. onward m all j) z))

  pub walk_passed : Passed (get_or words i w.Var) → (k k' : ℕ) → k' ≡ k → onward (suc k') all j ≡ onward (suc k) all i
  walk_passed p k k' r = rw r (sym (turn (suc k) ∙ go_passed k st (suc i) (λ m. onward m all j) (get_or words i w.Var) p))

  -- the walk forwards to the next statement
  pub next_rate : get_or words i w.Var ≡ w.Rate → onward 0 all j ≡ onward 0 all i
  next_rate q = sym (turn_by 0 w.Rate q)

  pub next_else : get_or words i w.Var ≡ w.Else → onward 1 all j ≡ onward 0 all i
  next_else q = sym (turn_by 0 w.Else q)

  pub next_end : get_or words i w.Var ≡ w.End → None ≡ back_to st → onward 0 all j ≡ onward 0 all i
  next_end q b = sym (turn_by 0 w.End q ∙ ap (λ (o : Option ℕ). or_else o (onward 0 all j)) (sym b))

  pub next_while : (o : ℕ) → get_or words i w.Var ≡ w.End → Some o ≡ back_to st → o ≡ onward 0 all i
  next_while o q b = sym (turn_by 0 w.End q ∙ ap (λ (o : Option ℕ). or_else o (onward 0 all j)) (sym b))

  pub next_stated : Stated (get_or words i w.Var) → suc i ≡ onward 0 all i
  next_stated p = sym (turn 0 ∙ go_stated st (suc i) (λ m. onward m all j) (get_or words i w.Var) p)

  -- the scan backwards: the blocks open before line j, of which d are closed behind it, from those open before its line
  back_by : (x : LineWord) → get_or words i w.Var ≡ x → (d : ℕ) → back_to (drop d (open_by st j x)) ≡ back_to (drop d (opens [] 1 j all))
  back_by x q d = ap (λ (o : List Open). back_to (drop d o)) (ap (λ (n : ℕ). open_by st n x) s ∙ ap (open_by st (suc i)) (sym q) ∙ sym opens_by)

  pub back_end : get_or words i w.Var ≡ w.End → (d d' : ℕ) → d' ≡ suc d → back_to (drop d' st) ≡ back_to (drop d (opens [] 1 j all))
  back_end q d d' r = rw r (ap back_to (sym (drop_one d st)) ∙ back_by w.End q d)

  pub back_if : get_or words i w.Var ≡ w.If → (d d' : ℕ) → d ≡ suc d' → back_to (drop d' st) ≡ back_to (drop d (opens [] 1 j all))
  back_if q d d' r = rw r (back_by w.If q (suc d'))

  pub back_while : get_or words i w.Var ≡ w.While → (d d' : ℕ) → d ≡ suc d' → back_to (drop d' st) ≡ back_to (drop d (opens [] 1 j all))
  back_while q d d' r = rw r (back_by w.While q (suc d'))

  pub back_unblocked : Unblocked (get_or words i w.Var) → (d d' : ℕ) → d' ≡ d → back_to (drop d' st) ≡ back_to (drop d (opens [] 1 j all))
  back_unblocked p d d' r = rw r (ap (λ (o : List Open). back_to (drop d o)) (sym (opens_by ∙ open_unblocked st (suc i) (get_or words i w.Var) p)))

  -- the innermost open block is found
  pub found_if : get_or words i w.Var ≡ w.If → (d : ℕ) → d ≡ 0 → None ≡ back_to (drop d (opens [] 1 j all))
  found_if q d r = rw r (back_by w.If q 0)

  pub found_while : get_or words i w.Var ≡ w.While → (d : ℕ) → d ≡ 0 → Some (suc i) ≡ back_to (drop d (opens [] 1 j all))
  found_while q d r = rw r (ap Some (sym s) ∙ back_by w.While q 0)

-- before the first line no block is open
pub back_start : (all : List Line) (j d : ℕ) → j ≡ 0 → None ≡ back_to (drop d (opens [] 1 j all))
back_start all j d q = rw (q, drop-nil d)

-- past the last line the walk is at its end
pub past_end : (words : List LineWord) (all : List Line) (k i : ℕ) → words ≡ map word_of all → length words ≤ i → onward k all i ≡ suc i
past_end words all k i e h = let l : length all ≤ i = omega (arith, length-map all word_of, ap length e) in rw (drop_of_length-le all {i = i} l)
