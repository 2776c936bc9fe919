-- Lines spell what is read off them, and nothing else.
use Rattle.std.proofs.Common.{◌≡◌, ℕ, suc, ◌+◌, Bool, true, false, List, [], ◌∷◌, ◌++◌, map, length, refl, ap, ◌∙◌, subst, append_assoc, append-nil, arith, length-append}
use lib.ListN.{length-map}
use Rattle.motion.specs.Lines.{Line, var_line, set_line, run_line, rate_line, if_line, else_line, while_line, end_line, Rate, Item}
use Rattle.motion.specs.ReadOff.{Block, block, put, put_run, put_rate, put_while, put_if, put_end, read}
use Rattle.motion.specs.Program.{Prog, skip, assign, Spells, none, assigns, evolves, branches, branches_else, repeats}

read_rates : (rs : List Rate) (i m : ℕ) (ls : List Line) {p : Prog} {c : Bool} {bs : List Block} → m ≡ i + length rs
    → read m ls ≡ block [] p c ∷ bs → read i (map rate_line rs ++ ls) ≡ block rs p c ∷ bs
read_rates [] i m ls j h = let k : i ≡ m = omega arith in rw k h
read_rates (r ∷ rs) i m ls j h = rw (read_rates rs (suc i) m ls (omega arith) h)

read_spelled : {i : ℕ} {xs : List Line} {a : Prog} → Spells i xs a → (m : ℕ) (tl : List Line) {c : Bool} {bs : List Block} → m ≡ i + length xs
    → read m tl ≡ block [] skip c ∷ bs → read i (xs ++ tl) ≡ block [] a c ∷ bs
read_spelled {i} none m tl j h = let k : i ≡ m = omega arith in rw k h
read_spelled {i} (assigns {x} {e} s) m tl j h = ap (put (assign i x e)) (read_spelled s m tl (omega arith) h)
read_spelled {i} (evolves {e} rs {ls} s) m tl j h =
    let k = simp (length-append, length-map) at j in
    ap (λ (zs : List Line). read i (run_line e ∷ zs)) (append_assoc (map rate_line rs) ls tl)
    ∙ ap (put_run i e) (read_rates rs (suc i) (suc (i + length rs)) (ls ++ tl) (omega arith) (read_spelled s m tl (omega arith) h))
read_spelled {i} (branches {e} {xs} {ls} s t) m tl j h =
    let k = simp length-append at j in
    ap (λ (zs : List Line). read i (if_line e ∷ zs)) (append_assoc xs (end_line ∷ ls) tl)
    ∙ ap (put_if i e) (read_spelled s (suc (i + length xs)) (end_line ∷ (ls ++ tl)) (omega arith) (ap (put_end false) (read_spelled t m tl (omega arith) h)))
read_spelled {i} (branches_else {e} {xs} {ys} {ls} s u t) m tl j h =
    let k = simp length-append at j in
    let n = suc (suc (i + length xs + length ys)) in
    ap (λ (zs : List Line). read i (if_line e ∷ zs)) (append_assoc xs (else_line ∷ (ys ++ (end_line ∷ ls))) tl ∙ ap (λ (zs : List Line). xs ++ (else_line ∷ zs)) (append_assoc ys (end_line ∷ ls) tl))
    ∙ ap (put_if i e) (read_spelled s (suc (i + length xs)) (else_line ∷ (ys ++ (end_line ∷ (ls ++ tl)))) (omega arith)
    (ap (put_end true) (read_spelled u n (end_line ∷ (ls ++ tl)) (omega arith)
    (ap (put_end false) (read_spelled t m tl (omega arith) h)))))
read_spelled {i} (repeats {e} {xs} {ls} s t) m tl j h =
    let k = simp length-append at j in
    ap (λ (zs : List Line). read i (while_line e ∷ zs)) (append_assoc xs (end_line ∷ ls) tl)
    ∙ ap (put_while i e) (read_spelled s (suc (i + length xs)) (end_line ∷ (ls ++ tl)) (omega arith) (ap (put_end false) (read_spelled t m tl (omega arith) h)))

pub complete : {i : ℕ} {ls : List Line} {p : Prog} → Spells i ls p → read i ls ≡ block [] p false ∷ []
complete {i} {ls} s = rw append-nil at (read_spelled s (i + length ls) [] refl refl)

pub one_program : {i : ℕ} {ls : List Line} {p q : Prog} → Spells i ls p → Spells i ls q → p ≡ q
one_program s t = let a = complete s in let b = complete t in cc

-- what is read is spelled
data Rest : ℕ → List Line → Bool → List Block → Type 0 where
  at_last : {k : ℕ} → Rest k [] false []
  at_end : {k j m : ℕ} (rs : List Rate) {xs tl : List Line} {p : Prog} {c : Bool} {bs : List Block}
      → Spells j xs p → j ≡ suc (k + length rs) → m ≡ j + length xs → Rest m tl c bs → Rest k (end_line ∷ (map rate_line rs ++ (xs ++ tl))) false (block rs p c ∷ bs)
  at_else : {k j m : ℕ} (rs : List Rate) {xs tl : List Line} {p : Prog} {c : Bool} {bs : List Block}
      → Spells j xs p → j ≡ suc (k + length rs) → m ≡ j + length xs → Rest m tl c bs → Rest k (else_line ∷ (map rate_line rs ++ (xs ++ tl))) true (block rs p c ∷ bs)

data Splits : ℕ → List Line → List Block → Type 0 where
  broken : {i : ℕ} {ls : List Line} → Splits i ls []
  splits : {i j m : ℕ} (rs : List Rate) {xs tl : List Line} {p : Prog} {c : Bool} {bs : List Block}
      → Spells j xs p → j ≡ i + length rs → m ≡ j + length xs → Rest m tl c bs → Splits i (map rate_line rs ++ (xs ++ tl)) (block rs p c ∷ bs)

made : {i m : ℕ} {xs tl ls : List Line} {p : Prog} {c : Bool} {bs : List Block} → Spells i xs p → m ≡ i + length xs → Rest m tl c bs → xs ++ tl ≡ ls → Splits i ls (block [] p c ∷ bs)
made {i} {p} {c} {bs} s m t e = subst (λ (zs : List Line). Splits i zs (block [] p c ∷ bs)) e (splits {j = i} [] s (omega arith) m t)

put_sound : {i x : ℕ} {e : List Item} {ls : List Line} {bs : List Block} → Splits (suc i) ls bs → Splits i (set_line x e ∷ ls) (put (assign i x e) bs)
put_sound broken = broken
put_sound (splits (r ∷ rs) s j m t) = broken
put_sound {i} (splits {j = k} [] s j m t) = let n : k ≡ suc i = omega arith in made (assigns (rw n at s)) (omega arith) t refl

run_sound : {i : ℕ} {e : List Item} {ls : List Line} {bs : List Block} → Splits (suc i) ls bs → Splits i (run_line e ∷ ls) (put_run i e bs)
run_sound broken = broken
run_sound {i} (splits {j = k} rs s j m t) =
    let n : k ≡ suc (i + length rs) = omega arith in
    made (evolves rs (rw n at s)) (simp (length-append, length-map) (omega arith)) t (simp append_assoc)

rate_sound : {i : ℕ} {r : Rate} {ls : List Line} {bs : List Block} → Splits (suc i) ls bs → Splits i (rate_line r ∷ ls) (put_rate r bs)
rate_sound broken = broken
rate_sound (splits rs s j m t) = splits (_ ∷ rs) s (omega arith) m t

end_sound : {i : ℕ} {ls : List Line} {bs : List Block} → Splits (suc i) ls bs → Splits i (end_line ∷ ls) (put_end false bs)
end_sound broken = broken
end_sound {i} (splits rs s j m t) = splits {j = i} {m = i} [] none (omega arith) (omega arith) (at_end rs s (omega arith) m t)

else_sound : {i : ℕ} {ls : List Line} {bs : List Block} → Splits (suc i) ls bs → Splits i (else_line ∷ ls) (put_end true bs)
else_sound broken = broken
else_sound {i} (splits rs s j m t) = splits {j = i} {m = i} [] none (omega arith) (omega arith) (at_else rs s (omega arith) m t)

while_sound : {i : ℕ} {e : List Item} {ls : List Line} {bs : List Block} → Splits (suc i) ls bs → Splits i (while_line e ∷ ls) (put_while i e bs)
while_sound broken = broken
while_sound (splits (r ∷ rs) s j m t) = broken
while_sound (splits [] s j m at_last) = broken
while_sound (splits [] s j m (at_else rs u k n t)) = broken
while_sound (splits [] s j m (at_end (r ∷ rs) u k n t)) = broken
while_sound {i} (splits {j = j'} [] {xs} s j m (at_end {j = k'} [] u k n t)) =
    let a : j' ≡ suc i = omega arith in
    let b : k' ≡ suc (suc (i + length xs)) = omega arith in
    made (repeats (rw a at s) (rw b at u)) (simp length-append (omega arith)) t (simp append_assoc)

if_sound : {i : ℕ} {e : List Item} {ls : List Line} {bs : List Block} → Splits (suc i) ls bs → Splits i (if_line e ∷ ls) (put_if i e bs)
if_sound broken = broken
if_sound (splits (r ∷ rs) s j m t) = broken
if_sound (splits [] s j m at_last) = broken
if_sound (splits [] s j m (at_end (r ∷ rs) u k n t)) = broken
if_sound {i} (splits {j = j'} [] {xs} s j m (at_end {j = k'} [] u k n t)) =
    let a : j' ≡ suc i = omega arith in
    let b : k' ≡ suc (suc (i + length xs)) = omega arith in
    made (branches (rw a at s) (rw b at u)) (simp length-append (omega arith)) t (simp append_assoc)
if_sound (splits [] s j m (at_else (r ∷ rs) u k n t)) = broken
if_sound (splits [] s j m (at_else [] u k n at_last)) = broken
if_sound (splits [] s j m (at_else [] u k n (at_else rs v p q t))) = broken
if_sound (splits [] s j m (at_else [] u k n (at_end (r ∷ rs) v p q t))) = broken
if_sound {i} (splits {j = j'} [] {xs} s j m (at_else {j = k'} [] {xs = ys} u k n (at_end {j = p'} [] v p q t))) =
    let a : j' ≡ suc i = omega arith in
    let b : k' ≡ suc (suc (i + length xs)) = omega arith in
    let c : p' ≡ suc (suc (suc (i + length xs + length ys))) = omega arith in
    made (branches_else (rw a at s) (rw b at u) (rw c at v)) (simp length-append (omega arith)) t (simp append_assoc)

read_sound : (i : ℕ) (ls : List Line) → Splits i ls (read i ls)
read_sound i [] = made none refl at_last refl
read_sound i (set_line x e ∷ ls) = put_sound (read_sound (suc i) ls)
read_sound i (run_line e ∷ ls) = run_sound (read_sound (suc i) ls)
read_sound i (rate_line r ∷ ls) = rate_sound (read_sound (suc i) ls)
read_sound i (if_line e ∷ ls) = if_sound (read_sound (suc i) ls)
read_sound i (else_line ∷ ls) = else_sound (read_sound (suc i) ls)
read_sound i (while_line e ∷ ls) = while_sound (read_sound (suc i) ls)
read_sound i (end_line ∷ ls) = end_sound (read_sound (suc i) ls)
read_sound i (var_line x ∷ ls) = broken

only : {i : ℕ} {ls : List Line} {p : Prog} → Splits i ls (block [] p false ∷ []) → Spells i ls p
only {i} (splits {j = k} [] s j m at_last) = let n : k ≡ i = omega arith in rw append-nil (rw n at s)

pub sound : {i : ℕ} {ls : List Line} {p : Prog} → read i ls ≡ block [] p false ∷ [] → Spells i ls p
sound {i} {ls} e = only (subst (Splits i ls) e (read_sound i ls))
