-- Where every part names a variable, the flow in unlimited fractions has an answer.
use Rattle.std.proofs.Common.{◌≡◌, ℕ, zero, suc, ◌<◌, Bool, true, false, List, [], ◌∷◌, length, pos, Option, sym, refl, subst, arith}
use Rattle.number.specs.Frac.{Frac, whole}
use Rattle.motion.specs.Numbers.{exact}
use Rattle.motion.specs.Lines.{Part, Rate, Of, one, var}
use Rattle.motion.specs.Items.{nth}
use Rattle.motion.specs.Flow.{parts_of, of_part, sum, next, climb, flow}
use Rattle.motion.specs.Chains.{Names, names, names_behind}
use Rattle.motion.specs.Solution.{Within, StretchRuns}
use Rattle.motion.proofs.Lengths.{Holds, climb_length, next_length}
use Rattle.motion.proofs.FlowLaw.{Is, some_of, then_is, climb_is, holds_of}

any : {A : Type 0} (o : Option A) → Holds (λ _. Unit {0}) o
any o = holds_of _ o (λ _ _. tt)

nth_is : (d : List Frac) (x : ℕ) → x < length d → Is (nth d x)
nth_is [] x h = absurd (omega arith)
nth_is (q ∷ d) zero h = tt
nth_is (q ∷ d) (suc x) h = nth_is d x (omega arith)

module _ (first : Bool) (d : List Frac) where
  part_is : (c : Frac) (o : Of) (ps : List Part) → ((y : ℕ) → Names y (record { coefficient = c; of = o } ∷ ps) → y < length d) → Is (of_part exact first d o)
  part_is c one ps h = tt
  part_is c (var x) ps h = nth_is d x (h x names)

  sum_is : (ps : List Part) (a : Frac) → ((y : ℕ) → Names y ps → y < length d) → Is (sum exact first d a ps)
  sum_is [] a h = tt
  sum_is (p ∷ ps) a h =
      let o = of_part exact first d p.of in
      then_is (λ _. Unit {0}) o _ (any o) (part_is p.coefficient p.of ps h) (λ v _. sum_is ps _ (λ y k. h y (names_behind k)))

  next_is : (rs : List Rate) → Within (length d) rs → (x n : ℕ) → Is (next exact first rs d x n)
  next_is rs h x zero = tt
  next_is rs h x (suc n) =
      let q = sum exact first d (whole (pos 0)) (parts_of x rs) in
      let qs = next exact first rs d (suc x) n in
      then_is (λ _. Unit {0}) q _ (any q) (sum_is (parts_of x rs) (whole (pos 0)) (h x)) (λ _ _.
      then_is (λ _. Unit {0}) qs _ (any qs) (next_is rs h (suc x) n) (λ _ _. tt))

module _ (rs : List Rate) (σ : List Frac) (h : Within (length σ) rs) where
  on : (d : List Frac) → length d ≡ length σ → Is (next exact false rs d 0 (length σ))
  on d l = next_is false d rs (subst (λ (w : ℕ). Within w rs) (sym l) h) 0 (length σ)

  flow_answers : (m : ℕ) → Is (flow exact rs σ (suc m))
  flow_answers m =
      let n = suc m in
      let c = length σ in
      then_is (λ d. length d ≡ c) (next exact true rs σ 0 c) _ (next_length exact true rs σ 0 c) (next_is true σ rs h 0 c) (λ d1 l1.
      then_is (λ d. length d ≡ c) (next exact false rs d1 0 c) _ (next_length exact false rs d1 0 c) (on d1 l1) (λ d2 l2.
      then_is (λ d. length d ≡ c) (next exact false rs d2 0 c) _ (next_length exact false rs d2 0 c) (on d2 l2) (λ d3 l3.
      then_is (λ d. length d ≡ c) (next exact false rs d3 0 c) _ (next_length exact false rs d3 0 c) (on d3 l3) (λ d4 l4.
      then_is (λ q. length q ≡ length d3) (climb exact n 4 d3 d4) _ (climb_length exact n 4 d3 d4) (climb_is n 4 d3 d4 (omega arith)) (λ q3 e3.
      then_is (λ q. length q ≡ length d2) (climb exact n 3 d2 q3) _ (climb_length exact n 3 d2 q3) (climb_is n 3 d2 q3 (omega arith)) (λ q2 e2.
      then_is (λ q. length q ≡ length d1) (climb exact n 2 d1 q2) _ (climb_length exact n 2 d1 q2) (climb_is n 2 d1 q2 (omega arith)) (λ q1 e1.
      climb_is n 1 σ q1 (omega arith))))))))

pub stretch_runs : StretchRuns
stretch_runs rs σ h zero = (σ, refl)
stretch_runs rs σ h (suc m) = some_of (flow exact rs σ (suc m)) (flow_answers rs σ h m)
