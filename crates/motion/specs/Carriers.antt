-- When a run in one sort of numbers follows a run in another.
use Rattle.std.specs.Prelude.{◌≡◌, ℕ, ◌≤◌, Bool, List, [], ◌∷◌, Some, None, Option}
use Rattle.number.specs.Frac.{Frac}
use Rattle.motion.specs.Numbers.{Numbers, Divided, quot, by_zero, not_held}
use Rattle.motion.specs.Machine.{Bench, accepted, refused, advance}
use Rattle.motion.specs.Lines.{Line}

-- Where the second answers, the first answers something related.
pub data Follows {A B : Type 0} (S : A → B → Type 0) : Option A → Option B → Type 0 where
  both : {a : A} {b : B} → S a b → Follows S (Some a) (Some b)
  lost : {o : Option A} → Follows S o None

-- The same of a quotient, and a zero divisor is one in both.
pub data Divides {A B : Type 0} (S : A → B → Type 0) : Divided A → Divided B → Type 0 where
  quots : {a : A} {b : B} → S a b → Divides S (quot a) (quot b)
  zeros : Divides S by_zero by_zero
  gone : {o : Divided A} → Divides S o not_held

-- Lists of one length, place by place.
pub data Each {A B : Type 0} (S : A → B → Type 0) : List A → List B → Type 0 where
  nil : Each S [] []
  cons : {a : A} {b : B} {xs : List A} {ys : List B} → S a b → Each S xs ys → Each S (a ∷ xs) (b ∷ ys)

-- The relation R carries the operations of N to those of M: on related numbers, where N answers, M answers something related.
pub record Carries {A B : Type 0} (M : Numbers A) (N : Numbers B) (R : A → B → Type 0) : Type 0 where
  pub literal : (q : Frac) → Follows R (M.literal q) (N.literal q)
  pub add : {a c : A} {b d : B} → R a b → R c d → Follows R (M.add a c) (N.add b d)
  pub sub : {a c : A} {b d : B} → R a b → R c d → Follows R (M.sub a c) (N.sub b d)
  pub mul : {a c : A} {b d : B} → R a b → R c d → Follows R (M.mul a c) (N.mul b d)
  pub div : {a c : A} {b d : B} → R a b → R c d → Divides R (M.div a c) (N.div b d)
  pub scale : {a : A} {b : B} → R a b → (n k : ℕ) → Follows R (M.scale a n k) (N.scale b n k)
  pub lt : {a c : A} {b d : B} → R a b → R c d → Follows (◌≡◌ {A = Bool}) (M.lt a c) (N.lt b d)
  pub le : {a c : A} {b d : B} → R a b → R c d → Follows (◌≡◌ {A = Bool}) (M.le a c) (N.le b d)
  pub terms : {a : A} {b : B} → R a b → M.terms a ≡ N.terms b

-- Benches that differ only in their numbers, which are related.
pub record Related {A B : Type 0} (R : A → B → Type 0) (b : Bench A) (c : Bench B) : Type 0 where
  pub line : b.line ≡ c.line
  pub left : b.left ≡ c.left
  pub total : b.total ≡ c.total
  pub over : b.over ≡ c.over
  pub values : Each R b.values c.values

-- What the second run accepts, the first accepts, and what the second refuses by 19, 20, 21 or 22, the first refuses so.
abbrev pub Simulates : {A B : Type 0} → Numbers A → Numbers B → (A → B → Type 0) → Type 0
Simulates {A} {B} M N R =
    (all : List Line) (b : Bench A) (c : Bench B) (ticks a : ℕ) → Related R b c →
    ((steps over : ℕ) (c' : Bench B) → advance N all c ticks a ≡ accepted steps over c' →
    (b' : Bench A) × (advance M all b ticks a ≡ accepted steps over b') × Related R b' c') ×
    ((k l f : ℕ) → 19 ≤ k → k ≤ 22 → advance N all c ticks a ≡ refused k l f → advance M all b ticks a ≡ refused k l f)

-- The relation that is given by the type of its pairs: a and b are related by a c of which they are the two sides.
abbrev pub Paired : {A B C : Type 0} → (C → A) → (C → B) → A → B → Type 0
Paired {A} {B} {C} left right a b = (c : C) × (left c ≡ a) × (right c ≡ b)

-- For any two sorts of numbers and any relation that carries the operations.
abbrev pub SimulationBy : Type 0 → Type 0 → Type 0 → Type 0
SimulationBy A B C = (M : Numbers A) (N : Numbers B) (left : C → A) (right : C → B) → Carries M N (Paired left right) → Simulates M N (Paired left right)
