-- The rule on chains of names, and that it is the rule of no walk of five names.
use Rattle.std.specs.Prelude.{◌≡◌, ℕ, ◌<◌, ◌≤◌, false, ◌⊎◌, ◌↔◌, List, [], ◌∷◌, length}
use Rattle.motion.specs.Lines.{Part, Rate, var}
use Rattle.motion.specs.Chains.{Has, Depends, Walk, Shallow, among}
use Rattle.motion.specs.Stretches.{rate_of, fall, four, five}

-- each name of the list has a rate and depends on the next
pub data Chain (rs : List Rate) : List ℕ → Type 0 where
  single : {x : ℕ} {ps : List Part} → Has x ps rs → Chain rs (x ∷ [])
  link : {x y : ℕ} {ys : List ℕ} → Depends rs x y → Chain rs (y ∷ ys) → Chain rs (x ∷ y ∷ ys)

-- no name stands twice in the list
abbrev pub Different : List ℕ → Type 0
Different [] = Unit {0}
Different (x ∷ xs) = (among x xs ≡ false) × Different xs

-- the last name of x and the names behind it
abbrev pub last : ℕ → List ℕ → ℕ
last x [] = x
last x (y ∷ ys) = last y ys

-- the last name depends on the first, which for one name is the name itself
abbrev pub Returns : List Rate → List ℕ → Type 0
Returns rs [] = ⊥
Returns rs (x ∷ xs) = Depends rs (last x xs) x

-- a chain returns to its start or has more than 4 names
abbrev pub Breaks : List Rate → List ℕ → Type 0
Breaks rs xs = Chain rs xs × (Returns rs xs ⊎ (4 < length xs))

-- the rule is broken: some chain of different names returns to its start or has more than 4 names
abbrev pub BreaksRule : List Rate → Type 0
BreaksRule rs = (xs : List ℕ) × Different xs × Breaks rs xs

-- The rule is broken exactly where there is a walk of five names.
abbrev pub ChainsRuled : Type 0
ChainsRuled = (rs : List Rate) → (BreaksRule rs → (x : ℕ) × Walk rs 5 x) × ((x : ℕ) → Walk rs 5 x → BreaksRule rs)

-- So rates are shallow exactly where the rule is kept.
abbrev pub RuleKept : Type 0
RuleKept = (rs : List Rate) → Shallow rs ↔ (BreaksRule rs → ⊥)

-- Chains in which names may stand twice break the rule for the same rates.
abbrev pub RepeatsAlike : Type 0
RepeatsAlike = (rs : List Rate) → BreaksRule rs ↔ ((xs : List ℕ) × Breaks rs xs)

-- a circle of one name: x' = x
abbrev pub circle_one : List Rate
circle_one = rate_of 0 1 (var 0) ∷ []

-- a circle of two names: x' = y, y' = x
abbrev pub circle_two : List Rate
circle_two = rate_of 0 1 (var 1) ∷ rate_of 1 1 (var 0) ∷ []

-- The rule at five stretches; in those that break it, the other half of the rule is kept.
pub record ChainExamples : Type 0 where
  -- p' = v, v' = 2 keeps it
  pub fall_chain : Chain fall (0 ∷ 1 ∷ [])
  pub fall_keeps : BreaksRule fall → ⊥
  -- a chain of four names keeps it
  pub four_chain : Chain four (0 ∷ 1 ∷ 2 ∷ 3 ∷ [])
  pub four_keeps : BreaksRule four → ⊥
  -- a chain of five names breaks it, and no chain there returns
  pub five_chain : Chain five (0 ∷ 1 ∷ 2 ∷ 3 ∷ 4 ∷ [])
  pub five_breaks : BreaksRule five
  pub five_open : (xs : List ℕ) → Chain five xs → Returns five xs → ⊥
  -- a circle of one name breaks it, and no chain of different names there is longer
  pub circle_one_chain : Chain circle_one (0 ∷ []) × Returns circle_one (0 ∷ [])
  pub circle_one_breaks : BreaksRule circle_one
  pub circle_one_short : (xs : List ℕ) → Chain circle_one xs → Different xs → length xs ≤ 1
  -- a circle of two names breaks it, and no chain of different names there is longer
  pub circle_two_chain : Chain circle_two (0 ∷ 1 ∷ []) × Returns circle_two (0 ∷ 1 ∷ [])
  pub circle_two_breaks : BreaksRule circle_two
  pub circle_two_short : (xs : List ℕ) → Chain circle_two xs → Different xs → length xs ≤ 2
