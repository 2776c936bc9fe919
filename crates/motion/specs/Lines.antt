-- The lines of a checked script, with names as places among the variables, counted from 0 in var order.
use Rattle.std.specs.Prelude.{ℕ, List}
use Rattle.number.specs.Frac.{Frac}

-- the words that take two numbers: four calculations and two comparisons
pub data Calculation : Type 0 where
  add sub mul div lt le : Calculation

-- the words that take two truths
pub data Connective : Type 0 where
  and or : Connective

-- an item of set, run, if or while; `negate` is the word not
pub data Item : Type 0 where
  number : Frac → Item
  name : (variable : ℕ) → Item
  calculate : Calculation → Item
  combine : Connective → Item
  negate : Item

-- what a part of a rate line names: the constant 1, or a variable
pub data Of : Type 0 where
  one : Of
  var : (variable : ℕ) → Of

-- one part of a rate line: so many times what it names
pub record Part : Type 0 where
  pub coefficient : Frac
  pub of : Of

-- a rate line: the variable that it is for, and its parts
pub record Rate : Type 0 where
  pub name : ℕ
  pub parts : List Part

-- one line of a script, by its first word
pub data Line : Type 0 where
  var_line : (value : Frac) → Line
  set_line : (variable : ℕ) → List Item → Line
  run_line : List Item → Line
  rate_line : Rate → Line
  if_line : List Item → Line
  else_line : Line
  while_line : List Item → Line
  end_line : Line
