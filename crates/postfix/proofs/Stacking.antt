-- The slots of a stack as what waits, and items over it. Assumes nothing.
use Rattle.std.proofs.Common.{◌≡◌, ℕ, zero, suc, ◌+◌, ◌<◌, ◌≤◌, ◌≢◌, List, ◌∷◌, length, get_or, set, refl, ap, ◌∙◌, arith}
use Rattle.std.proofs.lemmas.List.{get_or-set_same, get_or-set_other}
use Rattle.number.specs.declared.Answer.{Answer}
use Rattle.postfix.specs.Stacks.{zero_slot, value_of, stacked}

-- slots -----------------------------------------------------------------------

stacked_set : (n m : ℕ) (xs : List Answer) (v : Answer) → n ≤ m → stacked n (set xs m v) ≡ stacked n xs
stacked_set zero m xs v h = refl
stacked_set (suc n) m xs v h =
    let ne : n ≢ m = omega arith in
    let e : get_or (set xs m v) n zero_slot ≡ get_or xs n zero_slot = get_or-set_other xs m n v zero_slot ne in
    rw (e, stacked_set n m xs v (omega arith))

pub stacked_push : (n : ℕ) (xs : List Answer) (v : Answer) → n < length xs → stacked (n + 1) (set xs n v) ≡ value_of v ∷ stacked n xs
stacked_push n xs v h =
    let e : n + 1 ≡ suc n = omega arith in
    let f : get_or (set xs n v) n zero_slot ≡ v = get_or-set_same xs n v zero_slot h in
    ap (λ k. stacked k (set xs n v)) e ∙ rw (f, stacked_set n n xs v (omega arith))
