-- The first byte that is not allowed. Assumes nothing.
use Rattle.std.proofs.Common.{◌≡◌, ℕ, ◌+◌, Bool, true, false, cond, eqb, List, [], ◌∷◌, ◌++◌, Some, None, Option, refl, ap, ◌∙◌, arith}
use Rattle.std.proofs.lemmas.Bool.{and_parts}
use Rattle.script.specs.declared.checks.Spot.{Spot}
use Rattle.script.specs.Checks.{feeds, allowed, stray, spot}
use Rattle.script.specs.Laws.{all_allowed, commas_after}

same : (t u : Bool) (a b c : Option Spot) → a ≡ None → b ≡ None → c ≡ None → cond t a (cond u b c) ≡ None
same true u a b c p q r = p
same false true a b c p q r = q
same false false a b c p q r = r

pub stray_none : (line field : ℕ) (bs : List ℕ) → all_allowed bs ≡ true → stray line field bs ≡ None
stray_none line field [] h = refl
stray_none line field (b ∷ bs) h =
    let k = and_parts (allowed b) (all_allowed bs) h in
    let a : allowed b ≡ true = k.0 in
    rw a (same (eqb b 10) (eqb b 44) _ _ _ (stray_none (line + 1) 0 bs k.1) (stray_none line (field + 1) bs k.1) (stray_none line field bs k.1))

abbrev at : ℕ → ℕ → ℕ → Option Spot
at line n field = Some (spot (line + n + 1) (field + 1))

pick : (t u : Bool) (line n x y z : ℕ) (a b c : Option Spot) → a ≡ at (line + 1) n x → b ≡ at line n y → c ≡ at line n z → cond t a (cond u b c) ≡ at line (cond t (n + 1) n) (cond t x (cond u y z))
pick true u line n x y z a b c p q r = let e : line + 1 + n + 1 ≡ line + (n + 1) + 1 = omega arith in p ∙ ap (λ l. Some (spot l (x + 1))) e
pick false true line n x y z a b c p q r = q
pick false false line n x y z a b c p q r = r

pub stray_at : (line field : ℕ) (before : List ℕ) (b : ℕ) (after : List ℕ) → all_allowed before ≡ true → allowed b ≡ false → stray line field (before ++ b ∷ after) ≡ Some (spot (line + feeds before + 1) (commas_after field before + 1))
stray_at line field [] b after h k = let e : line + 1 ≡ line + 0 + 1 = omega arith in rw k (ap (λ l. Some (spot l (field + 1))) e)
stray_at line field (c ∷ cs) b after h k =
    let j = and_parts (allowed c) (all_allowed cs) h in
    let a : allowed c ≡ true = j.0 in
    rw a (pick (eqb c 10) (eqb c 44) line (feeds cs) _ _ _ _ _ _ (stray_at (line + 1) 0 cs b after j.1 k) (stray_at line (field + 1) cs b after j.1 k) (stray_at line field cs b after j.1 k))

-- all bytes are allowed, or there is a first that is not
pub data Sift (text : List ℕ) : Type 0 where
  clear : all_allowed text ≡ true → Sift text
  broken : (before : List ℕ) (b : ℕ) (after : List ℕ) → text ≡ before ++ b ∷ after → all_allowed before ≡ true → allowed b ≡ false → Sift text

onto : (b : ℕ) (bs : List ℕ) → allowed b ≡ true → Sift bs → Sift (b ∷ bs)
onto b bs h (clear a) = clear (rw h a)
onto b bs h (broken before c after s a k) = broken (b ∷ before) c after (ap (λ xs. b ∷ xs) s) (rw h a) k

by_byte : (b : ℕ) (bs : List ℕ) (t : Bool) → allowed b ≡ t → Sift bs → Sift (b ∷ bs)
by_byte b bs true h s = onto b bs h s
by_byte b bs false h s = broken [] b bs refl refl h

pub sift : (text : List ℕ) → Sift text
sift [] = clear refl
sift (b ∷ bs) = by_byte b bs (allowed b) refl (sift bs)
