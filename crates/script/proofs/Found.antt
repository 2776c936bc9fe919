-- Where the first that passes a test stands in a list, by the library's `position`. Assumes nothing.
use Rattle.std.proofs.Common.{◌≡◌, ℕ, ◌<◌, ◌≤◌, Bool, true, false, cond, not, ltb, List, length, Some, None, refl, arith}
use Rattle.std.proofs.lemmas.Bool.Decides.{nat_tests}
use Rattle.std.proofs.lemmas.List.Sums.{prefix_len-le-length}
use Rattle.std.specs.List.{position, position_or_len}

none_by : (n l : ℕ) (t : Bool) → ltb n l ≡ t → n ≤ l → cond t (Some n) None ≡ None → n ≡ l
none_by n l true p h e = let z : ◌≡◌ {A = ℕ} 0 1 = cc in absurd (omega arith)
none_by n l false p h e = let g : l ≤ n = grind (arith, nat_tests) in omega arith

one_by : (n l i : ℕ) (t : Bool) → ltb n l ≡ t → cond t (Some n) None ≡ Some i → (n ≡ i) × (i < l)
one_by n l i true p e = let f : n ≡ i = cc in let g : n < l = grind (arith, nat_tests) in (f, omega arith)
one_by n l i false p e = let z : ◌≡◌ {A = ℕ} 0 1 = cc in absurd (omega arith)

module _ {X : Type 0} (p : X → Bool) (xs : List X) where
  -- none passes
  pub none_found : position p xs ≡ None → position_or_len p xs ≡ length xs
  none_found h = none_by (position_or_len p xs) (length xs) _ refl (prefix_len-le-length (λ x. not (p x)) xs) h

  -- one passes at this place
  pub one_found : (i : ℕ) → position p xs ≡ Some i → (position_or_len p xs ≡ i) × (i < length xs)
  one_found i h = one_by (position_or_len p xs) (length xs) i _ refl h
