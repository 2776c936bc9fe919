-- Parts of lists. Assumes nothing.
use Rattle.std.proofs.Common.{◌≡◌, ℕ, ◌-◌, min, List, length, ap, length-drop}
use Rattle.std.proofs.lemmas.List.{length-take}
use Rattle.entries.specs.Decoding.{part}

pub parts_alike : {A B : Type 0} (xs : List A) (ys : List B) (from to : ℕ) → length xs ≡ length ys → length (part from to xs) ≡ length (part from to ys)
parts_alike xs ys from to e =
    simp (length-take, length-drop) (ap (λ (n : ℕ). min (to - from) (n - from)) e)
