-- Each answer has its condition: the loop is followed step by step.
use Rattle.std.proofs.Common.{◌≡◌, ℕ, zero, suc, ◌+◌, ◌-◌, ◌<◌, ◌≤◌, Bool, true, false, ltb, List, drop, Some, None, Option, sym, refl, ap, ◌∙◌, subst, ap₂, zero-add, arith, ltb-false, ltb-true}
use Rattle.motion.specs.Numbers.{Numbers}
use Rattle.motion.specs.Lines.{Line, var_line, set_line, run_line, rate_line, if_line, else_line, while_line, end_line, Item}
use Rattle.motion.specs.Items.{Got, good, bad, number_of, truth_of}
use Rattle.motion.specs.Flow.{flow}
use Rattle.motion.specs.NextLine.{line_at, rates}
use Rattle.motion.specs.Remaining.{Statement}
use Rattle.motion.specs.Machine.{Place, at, inside, ended, Bench, Answer, refused, Stepped, go, stop, fail, cut, whole_run, lapse, assigned, timed, started, chosen, whole_ticks, step, stretch, after, over_at_end, loop, advanced, advance, place_at, place_of}
use Rattle.motion.specs.Refusals.{OnLine, at_statement, in_stretch, Comes, statement, stretched, Goes, none, more, Answers, too_much, too_few, fails, ends, stops, StretchAt, going_on, starting, FailsBy, in_set, in_run, in_if, in_while, no_duration, at_its_end, at_the_cut, no_statement, RefusalsTold}

module _ {V : Type 0} (N : Numbers V) (all : List Line) where
  -- one step more at the end
  one_more : {n t u v l : ℕ} {e f g : List V} {p q : Place} → Goes N all n e t p f u q → Comes N all f u q (go l g v) → Goes N all (suc n) e t p g v (place_at all l)
  one_more none c = more c none
  one_more (more d g) c = more d (one_more g c)

  -- what the loop does with a step
  by_step : (total i steps : ℕ) {e : List V} {t : ℕ} {p : Place} {s : Stepped V} → Comes N all e t p s → loop N all total (suc i) steps e t p ≡ after (loop N all total i) all steps total s
  by_step total i steps (statement q) = ap (after (loop N all total i) all steps total) q
  by_step total i steps (stretched q) = ap (after (loop N all total i) all steps total) q

  -- after j steps with i more allowed
  goes_loop : (total i steps a m : ℕ) {j t u : ℕ} {e f : List V} {p q : Place} → Goes N all j e t p f u q → a ≡ i + j → m ≡ steps + j →
      loop N all total a steps e t p ≡ loop N all total i m f u q
  goes_loop total i steps a m {t = t} {e = e} {p = p} none x y =
      let h : a ≡ i = omega arith in
      let k : steps ≡ m = omega arith in
      ap₂ (λ (n r : ℕ). loop N all total n r e t p) h k
  goes_loop total i steps a m {t = t} {e = e} {p = p} (more {n = j} c rest) x y =
      let h : a ≡ suc (i + j) = omega arith in
      ap (λ (n : ℕ). loop N all total n steps e t p) h ∙ by_step total (i + j) steps c ∙ goes_loop total i (suc steps) (i + j) m rest refl (omega arith)

  at_the_end : (total i steps : ℕ) (e : List V) (t : ℕ) → loop N all total i steps e t ended ≡ over_at_end all total steps e t
  at_the_end total zero steps e t = refl
  at_the_end total (suc i) steps e t = refl

  no_more : (total steps : ℕ) (e : List V) (t : ℕ) {p : Place} {l : ℕ} → OnLine p l → loop N all total 0 steps e t p ≡ refused 20 l 0
  no_more total steps e t at_statement = refl
  no_more total steps e t in_stretch = refl

  module _ (b : Bench V) (t a : ℕ) where
    abbrev total : ℕ
    total = b.total + t

    -- from the bench j steps are made
    abbrev Made : ℕ → List V → ℕ → Place → Type 0
    Made j e u p = Goes N all j b.values (b.over + t) (place_of all b) e u p

    module _ (small : total ≤ 2147483647) where
      after_told : (i j : ℕ) → suc i + j ≡ a → (e : List V) (u : ℕ) (p : Place) → Made j e u p →
          ((l : ℕ) (f : List V) (v : ℕ) → Made (suc j) f v (place_at all l) → Answers N all b t a (loop N all total i (suc j) f v (place_at all l))) →
          (s : Stepped V) → Comes N all e u p s → Answers N all b t a (after (loop N all total i) all j total s)
      after_told i j h e u p g on (go l f v) c = on l f v (one_more g c)
      after_told i j h e u p g on (stop l d f) c = stops small g (omega arith) c
      after_told i j h e u p g on (fail k l f) c = fails small g (omega arith) c

      loop_told : (i j : ℕ) → i + j ≡ a → (e : List V) (u : ℕ) (p : Place) → Made j e u p → Answers N all b t a (loop N all total i j e u p)
      loop_told zero j h e u ended g = ends small g (omega arith)
      loop_told (suc i) j h e u ended g = ends small g (omega arith)
      loop_told zero j h e u (at n) g = too_few small (subst (λ (k : ℕ). Made k e u (at n)) (sym (zero-add j) ∙ h) g) at_statement
      loop_told zero j h e u (inside n d) g = too_few small (subst (λ (k : ℕ). Made k e u (inside n d)) (sym (zero-add j) ∙ h) g) in_stretch
      loop_told (suc i) j h e u (at n) g =
          after_told i j h e u (at n) g (λ l f v. loop_told i (suc j) (omega arith) f v (place_at all l)) (step N all e u n (line_at all n)) (statement refl)
      loop_told (suc i) j h e u (inside n d) g =
          after_told i j h e u (inside n d) g (λ l f v. loop_told i (suc j) (omega arith) f v (place_at all l)) (stretch N all e u n d) (stretched refl)

    told_by : (x : Bool) → ltb 2147483647 total ≡ x → Answers N all b t a (advanced N all b t a x)
    told_by true i = too_much (ltb-true 2147483647 total i)
    told_by false i = loop_told (ltb-false 2147483647 total i) a 0 (omega arith) b.values (b.over + t) (place_of all b) none

    told : Answers N all b t a (advance N all b t a)
    told = told_by (ltb 2147483647 total) refl

    -- and the other way
    within : total ≤ 2147483647 → (x : Bool) → ltb 2147483647 total ≡ x → advanced N all b t a x ≡ loop N all total a 0 b.values (b.over + t) (place_of all b)
    within h true i = absurd (omega (arith, ltb-true 2147483647 total i))
    within h false i = refl

    beyond : 2147483647 < total → (x : Bool) → ltb 2147483647 total ≡ x → advanced N all b t a x ≡ refused 19 0 0
    beyond h true i = refl
    beyond h false i = absurd (omega (arith, ltb-false 2147483647 total i))

    -- the advance goes on as the loop does after j steps with i more allowed
    made_loop : (i j : ℕ) → i + j ≡ a → total ≤ 2147483647 → {e : List V} {u : ℕ} {p : Place} → Made j e u p → advance N all b t a ≡ loop N all total i j e u p
    made_loop i j h small g = within small (ltb 2147483647 total) refl ∙ goes_loop total i 0 a j g (sym h) (sym (zero-add j))

    answered : {x : Answer V} → Answers N all b t a x → advance N all b t a ≡ x
    answered (too_much h) = beyond h (ltb 2147483647 total) refl
    answered (too_few {e = e} {u = u} small g o) = made_loop 0 a (zero-add a) small g ∙ no_more total a e u o
    answered (fails {j = j} small g h c) = let i : suc (a - suc j) + j ≡ a = omega arith in made_loop (suc (a - suc j)) j i small g ∙ by_step total (a - suc j) j c
    answered (ends {e = e} {j = j} {u = u} small g h) = let i : a - j + j ≡ a = omega arith in made_loop (a - j) j i small g ∙ at_the_end total (a - j) j e u
    answered (stops {j = j} small g h c) = let i : suc (a - suc j) + j ≡ a = omega arith in made_loop (suc (a - suc j)) j i small g ∙ by_step total (a - suc j) j c

-- Why a step fails.
module _ {V : Type 0} (N : Numbers V) (all : List Line) (e : List V) (t : ℕ) where
  -- a reason, where a step fails
  abbrev Why : Place → Stepped V → Type 0
  Why p (go l f u) = Unit {0}
  Why p (stop l d f) = Unit {0}
  Why p (fail k l f) = FailsBy N all e t p k l f

  cut_why : {p : Place} (l d : ℕ) → StretchAt N all e p l d → t < d → (o : Option (List V)) → flow N (rates (drop l all)) e t ≡ o → Why p (cut l (d - t) o)
  cut_why l d s h (Some f) q = tt
  cut_why l d s h None q = at_the_cut s h q

  whole_why : {p : Place} (l d : ℕ) → StretchAt N all e p l d → d ≤ t → (o : Option (List V)) → flow N (rates (drop l all)) e d ≡ o → Why p (whole_run all l (t - d) o)
  whole_why l d s h (Some f) q = tt
  whole_why l d s h None q = at_its_end s h q

  lapse_why : {p : Place} (l d : ℕ) → StretchAt N all e p l d → (x : Bool) → ltb t d ≡ x → Why p (lapse N all (rates (drop l all)) e t l d x)
  lapse_why l d s true i = cut_why l d s (ltb-true t d i) (flow N (rates (drop l all)) e t) refl
  lapse_why l d s false i = whole_why l d s (ltb-false t d i) (flow N (rates (drop l all)) e d) refl

  assigned_why : (l x : ℕ) {is : List Item} → line_at all l ≡ set_line x is → (g : Got V) → number_of N e 3 is ≡ g → Why (at l) (assigned all e t l x g)
  assigned_why l x i (good q) h = tt
  assigned_why l x i (bad k f) h = in_set i h

  timed_why : (l : ℕ) {is : List Item} {q : V} → line_at all l ≡ run_line is → number_of N e 2 is ≡ good q → (o : Option ℕ) → whole_ticks (N.terms q) ≡ o → Why (at l) (timed N all e t l o)
  timed_why l i h None w = no_duration i h w
  timed_why l i h (Some d) w = lapse_why l d (starting i h w) (ltb t d) refl

  started_why : (l : ℕ) {is : List Item} → line_at all l ≡ run_line is → (g : Got V) → number_of N e 2 is ≡ g → Why (at l) (started N all e t l g)
  started_why l i (bad k f) h = in_run i h
  started_why l i (good q) h = timed_why l i h (whole_ticks (N.terms q)) refl

  chosen_why : (l : ℕ) (r : Got Bool) → ((k f : ℕ) → r ≡ bad k f → FailsBy N all e t (at l) k l f) → Why (at l) (chosen all e t l r)
  chosen_why l (bad k f) h = h k f refl
  chosen_why l (good true) h = tt
  chosen_why l (good false) h = tt

  step_why : (l : ℕ) (x : Line) → line_at all l ≡ x → Why (at l) (step N all e t l x)
  step_why l (set_line x is) i = assigned_why l x i (number_of N e 3 is) refl
  step_why l (run_line is) i = started_why l i (number_of N e 2 is) refl
  step_why l (if_line is) i = chosen_why l (truth_of N e 2 is) (λ k f. in_if i)
  step_why l (while_line is) i = chosen_why l (truth_of N e 2 is) (λ k f. in_while i)
  step_why l (var_line x) i = no_statement (subst Statement i)
  step_why l (rate_line x) i = no_statement (subst Statement i)
  step_why l else_line i = no_statement (subst Statement i)
  step_why l end_line i = no_statement (subst Statement i)

  reason : (k l f : ℕ) {p : Place} → Comes N all e t p (fail k l f) → FailsBy N all e t p k l f
  reason k l f (statement {l = n} q) = subst (Why (at n)) q (step_why n (line_at all n) refl)
  reason k l f (stretched {l = n} {left = d} q) = subst (Why (inside n d)) q (lapse_why n d going_on (ltb t d) refl)

  -- and the other way
  lapse_cut : (l d : ℕ) → t < d → flow N (rates (drop l all)) e t ≡ None → (x : Bool) → ltb t d ≡ x → lapse N all (rates (drop l all)) e t l d x ≡ fail 24 l 0
  lapse_cut l d h q true i = ap (cut l (d - t)) q
  lapse_cut l d h q false i = absurd (omega (arith, ltb-false t d i))

  lapse_whole : (l d : ℕ) → d ≤ t → flow N (rates (drop l all)) e d ≡ None → (x : Bool) → ltb t d ≡ x → lapse N all (rates (drop l all)) e t l d x ≡ fail 23 l 0
  lapse_whole l d h q true i = absurd (omega (arith, ltb-true t d i))
  lapse_whole l d h q false i = ap (whole_run all l (t - d)) q

  in_stretch_comes : {p : Place} {l d : ℕ} {s : Stepped V} → StretchAt N all e p l d → stretch N all e t l d ≡ s → Comes N all e t p s
  in_stretch_comes going_on h = stretched h
  in_stretch_comes {l = l} (starting i g w) h = statement (ap (step N all e t l) i ∙ ap (started N all e t l) g ∙ ap (timed N all e t l) w ∙ h)

  none_there : (l : ℕ) (x : Line) → (Statement x → ⊥) → step N all e t l x ≡ fail 0 0 0
  none_there l (set_line x is) h = absurd (h tt)
  none_there l (run_line is) h = absurd (h tt)
  none_there l (if_line is) h = absurd (h tt)
  none_there l (while_line is) h = absurd (h tt)
  none_there l (var_line x) h = refl
  none_there l (rate_line x) h = refl
  none_there l else_line h = refl
  none_there l end_line h = refl

  failing : {k l f : ℕ} {p : Place} → FailsBy N all e t p k l f → Comes N all e t p (fail k l f)
  failing (in_set {l = l} {x = x} i h) = statement (ap (step N all e t l) i ∙ ap (assigned all e t l x) h)
  failing (in_run {l = l} i h) = statement (ap (step N all e t l) i ∙ ap (started N all e t l) h)
  failing (in_if {l = l} i h) = statement (ap (step N all e t l) i ∙ ap (chosen all e t l) h)
  failing (in_while {l = l} i h) = statement (ap (step N all e t l) i ∙ ap (chosen all e t l) h)
  failing (no_duration {l = l} i h w) = statement (ap (step N all e t l) i ∙ ap (started N all e t l) h ∙ ap (timed N all e t l) w)
  failing (at_its_end {l = l} {d = d} s h q) = in_stretch_comes s (lapse_whole l d h q (ltb t d) refl)
  failing (at_the_cut {l = l} {d = d} s h q) = in_stretch_comes s (lapse_cut l d h q (ltb t d) refl)
  failing (no_statement {l = l} h) = statement (none_there l (line_at all l) h)

pub refusals_told : (V : Type 0) → RefusalsTold V
refusals_told V = record {
  exactly = λ N all b t a answer. ((λ e. subst (Answers N all b t a) e (told N all b t a)), answered N all b t a);
  reasons = λ N all values ticks k l f p. (reason N all values ticks k l f, failing N all values ticks);
}
