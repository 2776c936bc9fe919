-- When an advance is refused, and by which number: each answer has its condition, over any numbers.
use Rattle.std.specs.Prelude.{◌≡◌, ℕ, suc, ◌+◌, ◌<◌, ◌≤◌, ◌↔◌, List, length, drop, Some, None}
use Rattle.motion.specs.Numbers.{Numbers}
use Rattle.motion.specs.Lines.{Line, set_line, run_line, if_line, while_line, Item}
use Rattle.motion.specs.Items.{good, bad, number_of, truth_of}
use Rattle.motion.specs.Flow.{flow}
use Rattle.motion.specs.NextLine.{line_at, rates}
use Rattle.motion.specs.Machine.{Place, at, inside, ended, Bench, Answer, accepted, refused, Stepped, go, stop, fail, step, stretch, whole_ticks, place_at, place_of, advance}
use Rattle.motion.specs.Remaining.{Statement}

-- a statement, or a stretch to go on with, stands on line l
pub data OnLine : Place → ℕ → Type 0 where
  at_statement : {l : ℕ} → OnLine (at l) l
  in_stretch : {l left : ℕ} → OnLine (inside l left) l

module _ {V : Type 0} (N : Numbers V) (all : List Line) where
  -- what the step at a place comes to, with these values and ticks to go: the statement's, or that of the stretch which is gone on with
  pub data Comes (values : List V) (ticks : ℕ) : Place → Stepped V → Type 0 where
    statement : {l : ℕ} {s : Stepped V} → step N all values ticks l (line_at all l) ≡ s → Comes values ticks (at l) s
    stretched : {l left : ℕ} {s : Stepped V} → stretch N all values ticks l left ≡ s → Comes values ticks (inside l left) s

  -- n steps, each of which goes on, one after the other: from values, ticks to go and a place to such
  pub data Goes : (n : ℕ) → List V → ℕ → Place → List V → ℕ → Place → Type 0 where
    none : {e : List V} {t : ℕ} {p : Place} → Goes 0 e t p e t p
    more : {n t u v l : ℕ} {e f g : List V} {p q : Place} → Comes e t p (go l f u) → Goes n f u (place_at all l) g v q → Goes (suc n) e t p g v q

  -- Which answer is given to an advance of b by t ticks with a steps allowed.
  pub data Answers (b : Bench V) (t a : ℕ) : Answer V → Type 0 where
    -- 19: the total would be more than 2,147,483,647
    too_much : 2147483647 < b.total + t → Answers b t a (refused 19 0 0)
    -- 20: all the steps allowed are made, and on line l there is still something to do
    too_few : {e : List V} {u l : ℕ} {p : Place} → b.total + t ≤ 2147483647 → Goes a b.values (b.over + t) (place_of all b) e u p → OnLine p l → Answers b t a (refused 20 l 0)
    -- any other number: fewer steps than allowed are made, and the next one fails by it
    fails : {e : List V} {j u k l f : ℕ} {p : Place} → b.total + t ≤ 2147483647 → Goes j b.values (b.over + t) (place_of all b) e u p → j < a → Comes e u p (fail k l f) →
        Answers b t a (refused k l f)
    -- accepted at the end: after no more steps than allowed nothing is left to do, and the ticks to go are over
    ends : {e : List V} {j u : ℕ} → b.total + t ≤ 2147483647 → Goes j b.values (b.over + t) (place_of all b) e u ended → j ≤ a →
        Answers b t a (accepted j u (record { line = suc (length all); left = 0; total = b.total + t; over = u; values = e }))
    -- accepted in a stretch: fewer steps than allowed are made, and the next one stops in the stretch on line l
    stops : {e f : List V} {j u l left : ℕ} {p : Place} → b.total + t ≤ 2147483647 → Goes j b.values (b.over + t) (place_of all b) e u p → j < a → Comes e u p (stop l left f) →
        Answers b t a (accepted (suc j) 0 (record { line = l; left = left; total = b.total + t; over = 0; values = f }))

  -- at a place a stretch on line l has d ticks: one that is gone on with, or one that starts and lasts so long
  pub data StretchAt (values : List V) : Place → (l d : ℕ) → Type 0 where
    going_on : {l d : ℕ} → StretchAt values (inside l d) l d
    starting : {l d : ℕ} {is : List Item} {q : V} → line_at all l ≡ run_line is → number_of N values 2 is ≡ good q → whole_ticks (N.terms q) ≡ Some d → StretchAt values (at l) l d

  -- Why the step at a place fails, by its number, line and field.
  pub data FailsBy (values : List V) (ticks : ℕ) : Place → (k l f : ℕ) → Type 0 where
    -- an item fails in its field: 21 by a zero divisor, 23 by a number that is not held
    in_set : {l x k f : ℕ} {is : List Item} → line_at all l ≡ set_line x is → number_of N values 3 is ≡ bad k f → FailsBy values ticks (at l) k l f
    in_run : {l k f : ℕ} {is : List Item} → line_at all l ≡ run_line is → number_of N values 2 is ≡ bad k f → FailsBy values ticks (at l) k l f
    in_if : {l k f : ℕ} {is : List Item} → line_at all l ≡ if_line is → truth_of N values 2 is ≡ bad k f → FailsBy values ticks (at l) k l f
    in_while : {l k f : ℕ} {is : List Item} → line_at all l ≡ while_line is → truth_of N values 2 is ≡ bad k f → FailsBy values ticks (at l) k l f
    -- 22: a duration is negative or not whole
    no_duration : {l : ℕ} {is : List Item} {q : V} → line_at all l ≡ run_line is → number_of N values 2 is ≡ good q → whole_ticks (N.terms q) ≡ None → FailsBy values ticks (at l) 22 l 0
    -- 23: the values at the end of a stretch are not held
    at_its_end : {l d : ℕ} {p : Place} → StretchAt values p l d → d ≤ ticks → flow N (rates (drop l all)) values d ≡ None → FailsBy values ticks p 23 l 0
    -- 24: the values where a stretch is cut are not held
    at_the_cut : {l d : ℕ} {p : Place} → StretchAt values p l d → ticks < d → flow N (rates (drop l all)) values ticks ≡ None → FailsBy values ticks p 24 l 0
    -- no statement stands there: not met where the lines spell a program
    no_statement : {l : ℕ} → (Statement (line_at all l) → ⊥) → FailsBy values ticks (at l) 0 0 0

-- Over the numbers of V:
pub record RefusalsTold (V : Type 0) : Type 0 where
  -- an advance answers what its condition says, and nothing else
  pub exactly : (N : Numbers V) (all : List Line) (b : Bench V) (t a : ℕ) (answer : Answer V) → (advance N all b t a ≡ answer) ↔ Answers N all b t a answer
  -- and a step fails for a reason, and only then
  pub reasons : (N : Numbers V) (all : List Line) (values : List V) (ticks k l f : ℕ) (p : Place) → Comes N all values ticks p (fail k l f) ↔ FailsBy N all values ticks p k l f
