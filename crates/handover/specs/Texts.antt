-- How a count and a fraction are written. Assumes nothing.
use Rattle.std.specs.Prelude.{ℕ, Bool, false, cond, List, ◌∷◌, ◌++◌, ℤ, pos, negsuc, decimal, ◌==◌}
use Rattle.std.specs.Fmt.{signed_decimal}

-- a comma and a count
abbrev pub count_text : ℕ → List ℕ
count_text n = 44 ∷ decimal n

-- is it 1
abbrev pub is_one : ℤ → Bool
is_one (pos d) = d == 1
is_one (negsuc d) = false

-- n / d, and n alone over 1
abbrev pub terms_text : ℤ → ℤ → List ℕ
terms_text n d = cond (is_one d) (signed_decimal n) (signed_decimal n ++ 47 ∷ signed_decimal d)
