-- The open blocks as they are kept, the innermost first. Assumes nothing.
use Rattle.std.proofs.Common.{◌≡◌, ℕ, zero, suc, ◌+◌, ◌<◌, ◌≤◌, false, ◌≢◌, List, [], ◌∷◌, length, get_or, set, sym, refl, ap, ◌∙◌, arith}
use Rattle.std.proofs.lemmas.List.{get_or-set_same, get_or-set_other}
use Rattle.checker.specs.declared.lines.Block.{Block}
use Rattle.checker.specs.Conditions.{block}

-- the open blocks, the innermost first
pub opened_in : ℕ → List Block → List Block
opened_in zero bs = []
opened_in (suc d) bs = get_or bs d (block 0 false) ∷ opened_in d bs

pub opened_zero : (d : ℕ) (bs : List Block) → d ≡ 0 → opened_in d bs ≡ []
unfolding opened_in
opened_zero d bs e = ap (λ k. opened_in k bs) e

pub opened_count : (d : ℕ) (bs : List Block) → length (opened_in d bs) ≡ d
unfolding opened_in
opened_count zero bs = refl
opened_count (suc d) bs = ap suc (opened_count d bs)

opened_set : (n m : ℕ) (bs : List Block) (b : Block) → n ≤ m → opened_in n (set bs m b) ≡ opened_in n bs
unfolding opened_in
opened_set zero m bs b h = refl
opened_set (suc n) m bs b h =
    let ne : n ≢ m = omega arith in
    let e : get_or (set bs m b) n (block 0 false) ≡ get_or bs n (block 0 false) = get_or-set_other bs m n b (block 0 false) ne in
    rw (e, opened_set n m bs b (omega arith))

pub opened_top : (m n : ℕ) (bs : List Block) (b : Block) → m ≡ n + 1 → n < length bs → opened_in m (set bs n b) ≡ b ∷ opened_in n bs
unfolding opened_in
opened_top m n bs b q h =
    let e : m ≡ suc n = omega arith in
    let f : get_or (set bs n b) n (block 0 false) ≡ b = get_or-set_same bs n b (block 0 false) h in
    ap (λ k. opened_in k (set bs n b)) e ∙ rw (f, opened_set n n bs b (omega arith))

pub opened_one : (m n : ℕ) (bs : List Block) → m ≡ n + 1 → opened_in m bs ≡ get_or bs n (block 0 false) ∷ opened_in n bs
unfolding opened_in
opened_one m n bs h = let e : m ≡ suc n = omega arith in ap (λ k. opened_in k bs) e

pub opened_none : (d : ℕ) (bs : List Block) → opened_in d bs ≡ [] → d ≡ 0
opened_none d bs e = sym (opened_count d bs) ∙ ap length e

-- the innermost and the others
pub opened_some : (d : ℕ) (bs : List Block) (b : Block) (os : List Block) → opened_in d bs ≡ b ∷ os → (m : ℕ) × (d ≡ m + 1) × (get_or bs m (block 0 false) ≡ b) × (opened_in m bs ≡ os)
unfolding opened_in
opened_some zero bs b os e = cc
opened_some (suc m) bs b os e = (m, omega arith, cc, cc)
