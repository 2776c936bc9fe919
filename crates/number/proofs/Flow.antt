-- To go n steps and then m is to go n + m.
use Rattle.std.proofs.Common.{◌≡◌, ℕ, ◌+◌, ◌*◌, ◌≤◌, List, [], ◌∷◌, pos, sym, refl, ap, ◌∙◌, ap₂, arith}
use Rattle.number.specs.Gcd.{gcd, steps}
use Rattle.number.specs.Frac.{Frac, lowest, norm, add, mul, naught, whole, scale, horner}
use Rattle.number.proofs.Solve.{Exp, var, nil, unit, ◌⊕◌, ◌⊗◌, solve, value, normal}
use Rattle.number.proofs.Laws.{frac_ring, part, whole_add, whole_mul}

-- d0 + n (d1 + n h2 (d2 + n h3 (d3 + n h4 d4)))
abbrev go : Exp → Exp → Exp → Exp → Exp → Exp → Exp
go a b c d e n =
    let h2 : Exp = var 7 in
    let h3 : Exp = var 8 in
    let h4 : Exp = var 9 in
    a ⊕ (b ⊕ (c ⊕ (d ⊕ e ⊗ (n ⊗ h4)) ⊗ (n ⊗ h3)) ⊗ (n ⊗ h2)) ⊗ n

-- the sum that both sides come to; u2, u3, u4 stand for 1, and w for h2 h2
abbrev sum : Exp → Exp → Exp → Exp → Exp
sum u2 u3 u4 w =
    let a : Exp = var 0 in
    let b : Exp = var 1 in
    let c : Exp = var 2 in
    let d : Exp = var 3 in
    let e : Exp = var 4 in
    let n : Exp = var 5 in
    let m : Exp = var 6 in
    let h2 : Exp = var 7 in
    let h3 : Exp = var 8 in
    let h4 : Exp = var 9 in
    a ⊕ b ⊗ (n ⊕ m)
    ⊕ c ⊗ (n ⊗ n ⊗ h2 ⊕ n ⊗ m ⊗ u2 ⊕ m ⊗ m ⊗ h2)
    ⊕ d ⊗ (n ⊗ n ⊗ n ⊗ h2 ⊗ h3 ⊕ n ⊗ n ⊗ m ⊗ h2 ⊗ u3 ⊕ n ⊗ m ⊗ m ⊗ h2 ⊗ u3 ⊕ m ⊗ m ⊗ m ⊗ h2 ⊗ h3)
    ⊕ e ⊗ (n ⊗ n ⊗ n ⊗ n ⊗ h2 ⊗ h3 ⊗ h4 ⊕ n ⊗ n ⊗ n ⊗ m ⊗ h2 ⊗ h3 ⊗ u4 ⊕ n ⊗ n ⊗ m ⊗ m ⊗ w ⊕ n ⊗ m ⊗ m ⊗ m ⊗ h2 ⊗ h3 ⊗ u4 ⊕ m ⊗ m ⊗ m ⊗ m ⊗ h2 ⊗ h3 ⊗ h4)

abbrev two : Exp
two = var 7 ⊕ var 7

abbrev three : Exp
three = var 8 ⊕ var 8 ⊕ var 8

abbrev four : Exp
four = var 9 ⊕ var 9 ⊕ var 9 ⊕ var 9

abbrev left : Exp
left =
    let a : Exp = var 0 in
    let b : Exp = var 1 in
    let c : Exp = var 2 in
    let d : Exp = var 3 in
    let e : Exp = var 4 in
    let n : Exp = var 5 in
    let m : Exp = var 6 in
    go (go a b c d e n) (go b c d e nil n) (go c d e nil nil n) (go d e nil nil nil n) e m

left_sum : normal left ≡ normal (sum unit unit unit (var 7 ⊗ var 7))
left_sum = refl

right_sum : normal (sum two three four (var 9 ⊗ three ⊗ two)) ≡ normal (go (var 0) (var 1) (var 2) (var 3) (var 4) (var 5 ⊕ var 6))
right_sum = refl

abbrev h : ℕ → Frac
h k = norm (pos 1) k

run : Frac → Frac → Frac → Frac → Frac → Frac → Frac
run d0 d1 d2 d3 d4 n = add d0 (mul (add d1 (mul (add d2 (mul (add d3 (mul d4 (mul n (h 4)))) (mul n (h 3)))) (mul n (h 2)))) n)

horner_run : (d0 d1 d2 d3 d4 : Frac) (n : ℕ) → horner d0 d1 d2 d3 d4 n ≡ run d0 d1 d2 d3 d4 (whole (pos n))
unfolding horner run scale whole
horner_run d0 d1 d2 d3 d4 n = λ i. add d0 (mul (add d1 (mul (add d2 (mul (add d3 (mul d4 (part n 4 (omega arith) i))) (part n 3 (omega arith) i))) (part n 2 (omega arith) i))) (norm (pos n) 1))

halves : whole (pos 1) ≡ add (h 2) (h 2)
unfolding whole add norm lowest gcd steps
halves = refl

thirds : whole (pos 1) ≡ add (add (h 3) (h 3)) (h 3)
unfolding whole add norm lowest gcd steps
thirds = refl

quarters : whole (pos 1) ≡ add (add (add (h 4) (h 4)) (h 4)) (h 4)
unfolding whole add norm lowest gcd steps
quarters = refl

square : mul (h 2) (h 2) ≡ mul (mul (h 4) (add (add (h 3) (h 3)) (h 3))) (add (h 2) (h 2))
unfolding add mul norm lowest gcd steps
square = refl

module _ (d0 d1 d2 d3 d4 n m : Frac) where
  abbrev env : Frac → Frac → Frac → Frac → List Frac
  env u2 u3 u4 w = d0 ∷ d1 ∷ d2 ∷ d3 ∷ d4 ∷ n ∷ m ∷ h 2 ∷ h 3 ∷ h 4 ∷ u2 ∷ u3 ∷ u4 ∷ w ∷ []

  run_flow : run (run d0 d1 d2 d3 d4 n) (run d1 d2 d3 d4 naught n) (run d2 d3 d4 naught naught n) (run d3 d4 naught naught naught n) d4 m ≡ run d0 d1 d2 d3 d4 (add n m)
  unfolding run
  run_flow =
      let none : Frac = naught in
      let plain : List Frac = env none none none none in
      solve frac_ring plain left (sum unit unit unit (var 7 ⊗ var 7)) left_sum ∙ (λ i. value frac_ring (env (halves i) (thirds i) (quarters i) (square i)) (sum (var 10) (var 11) (var 12) (var 13))) ∙ solve frac_ring plain (sum two three four (var 9 ⊗ three ⊗ two)) (go (var 0) (var 1) (var 2) (var 3) (var 4) (var 5 ⊕ var 6)) right_sum

pub flow : (d0 d1 d2 d3 d4 : Frac) (n m : ℕ) → horner (horner d0 d1 d2 d3 d4 n) (horner d1 d2 d3 d4 naught n) (horner d2 d3 d4 naught naught n) (horner d3 d4 naught naught naught n) d4 m ≡ horner d0 d1 d2 d3 d4 (n + m)
flow d0 d1 d2 d3 d4 n m =
    let N : Frac = whole (pos n) in
    let M : Frac = whole (pos m) in
    horner_run _ _ _ _ _ m
    ∙ (λ i. run (horner_run d0 d1 d2 d3 d4 n i) (horner_run d1 d2 d3 d4 naught n i) (horner_run d2 d3 d4 naught naught n i) (horner_run d3 d4 naught naught naught n i) d4 M)
    ∙ run_flow d0 d1 d2 d3 d4 N M
    ∙ ap (run d0 d1 d2 d3 d4) (sym (whole_add n m))
    ∙ sym (horner_run d0 d1 d2 d3 d4 (n + m))

-- ---- the Horner form is the polynomial
once : whole (pos 1) ≡ h 1
unfolding whole
once = refl

sixths : mul (h 2) (h 3) ≡ h 6
unfolding mul norm lowest gcd steps
sixths = refl

twenty_fourths : mul (mul (h 2) (h 3)) (h 4) ≡ h 24
unfolding mul norm lowest gcd steps
twenty_fourths = refl

term : (d N H : Frac) (m k : ℕ) → 1 ≤ k → N ≡ whole (pos m) → H ≡ h k → mul d (mul N H) ≡ scale d m k
unfolding scale
term d N H m k up e f = ap (mul d) (ap₂ mul e f ∙ sym (part m k up))

pub polynomial : (d0 d1 d2 d3 d4 : Frac) (n : ℕ) → horner d0 d1 d2 d3 d4 n ≡ add (add (add (add d0 (scale d1 n 1)) (scale d2 (n * n) 2)) (scale d3 (n * n * n) 6)) (scale d4 (n * n * n * n) 24)
unfolding run
polynomial d0 d1 d2 d3 d4 n =
    let N : Frac = whole (pos n) in
    let n2 : mul N N ≡ whole (pos (n * n)) = sym (whole_mul n n) in
    let n3 : mul (mul N N) N ≡ whole (pos (n * n * n)) = ap (λ x. mul x N) n2 ∙ sym (whole_mul (n * n) n) in
    let n4 : mul (mul (mul N N) N) N ≡ whole (pos (n * n * n * n)) = ap (λ x. mul x N) n3 ∙ sym (whole_mul (n * n * n) n) in
    horner_run d0 d1 d2 d3 d4 n
    ∙ solve frac_ring (d0 ∷ d1 ∷ d2 ∷ d3 ∷ d4 ∷ N ∷ h 2 ∷ h 3 ∷ h 4 ∷ [])
    (var 0 ⊕ (var 1 ⊕ (var 2 ⊕ (var 3 ⊕ var 4 ⊗ (var 5 ⊗ var 8)) ⊗ (var 5 ⊗ var 7)) ⊗ (var 5 ⊗ var 6)) ⊗ var 5)
    (var 0 ⊕ var 1 ⊗ (var 5 ⊗ unit) ⊕ var 2 ⊗ ((var 5 ⊗ var 5) ⊗ var 6) ⊕ var 3 ⊗ ((var 5 ⊗ var 5 ⊗ var 5) ⊗ (var 6 ⊗ var 7)) ⊕ var 4 ⊗ ((var 5 ⊗ var 5 ⊗ var 5 ⊗ var 5) ⊗ (var 6 ⊗ var 7 ⊗ var 8))) refl
    ∙ (λ i. add (add (add (add d0 (term d1 N (whole (pos 1)) n 1 (omega arith) refl once i)) (term d2 (mul N N) (h 2) (n * n) 2 (omega arith) n2 refl i)) (term d3 (mul (mul N N) N) (mul (h 2) (h 3)) (n * n * n) 6 (omega arith) n3 sixths i)) (term d4 (mul (mul (mul N N) N) N) (mul (mul (h 2) (h 3)) (h 4)) (n * n * n * n) 24 (omega arith) n4 twenty_fourths i))
