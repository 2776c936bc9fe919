-- One turn of a run. Assumes nothing.
use Rattle.std.proofs.Common.{◌≡◌, ℕ, zero, suc, ◌+◌, ◌-◌, ◌<◌, true, false, List, sym, refl, ap, ◌∙◌, arith}
use Rattle.number.specs.declared.Pair.{Pair}
use Rattle.motion.specs.Numbers.{Numbers}
use Rattle.motion.specs.Lines.{Line}
use Rattle.motion.specs.Machine.{Place, at, inside, ended, Stepped, go, stop, fail, accepted, refused, loop, after, place_at}
use Rattle.running.specs.Steps.{turn_of, is_ended}

module _ (N : Numbers Pair) (all : List Line) (total : ℕ) where
  pub loop_ended : (a steps : ℕ) (env : List Pair) (t : ℕ) (p : Place) → true ≡ is_ended p → loop N all total a steps env t p ≡ loop N all total 0 steps env t p
  loop_ended zero steps env t ended e = refl
  loop_ended (suc a) steps env t ended e = refl
  loop_ended a steps env t (at n) e = cc
  loop_ended a steps env t (inside n d) e = cc

  pub loop_done : (m i : ℕ) (env : List Pair) (t : ℕ) (p : Place) → i ≡ m → loop N all total (m - i) i env t p ≡ loop N all total 0 m env t p
  loop_done m i env t p e = let f : m - i ≡ 0 = omega arith in ap (λ k. loop N all total k i env t p) f ∙ ap (λ k. loop N all total 0 k env t p) e

  one : (a steps : ℕ) (env : List Pair) (t : ℕ) (p : Place) → false ≡ is_ended p → loop N all total (suc a) steps env t p ≡ after (loop N all total a) all steps total (turn_of N all env t p)
  one a steps env t (at n) e = refl
  one a steps env t (inside n d) e = refl
  one a steps env t ended e = cc

  module _ (m i : ℕ) (env : List Pair) (t : ℕ) (p : Place) (h : i < m) (e : false ≡ is_ended p) where
    turned : (s : Stepped Pair) → s ≡ turn_of N all env t p → loop N all total (m - i) i env t p ≡ after (loop N all total (m - (i + 1))) all i total s
    turned s q =
        let f : m - i ≡ suc (m - (i + 1)) = omega arith in
        ap (λ k. loop N all total k i env t p) f ∙ one (m - (i + 1)) i env t p e ∙ ap (after (loop N all total (m - (i + 1))) all i total) (sym q)

    pub loop_go : (n : ℕ) (v : List Pair) (r : ℕ) → go n v r ≡ turn_of N all env t p → loop N all total (m - i) i env t p ≡ loop N all total (m - (i + 1)) (i + 1) v r (place_at all n)
    loop_go n v r q = let f : suc i ≡ i + 1 = omega arith in turned (go n v r) q ∙ ap (λ k. loop N all total (m - (i + 1)) k v r (place_at all n)) f

    pub loop_stop : (n d : ℕ) (v : List Pair) → stop n d v ≡ turn_of N all env t p → loop N all total (m - i) i env t p ≡ accepted (i + 1) 0 (record { line = n; left = d; total = total; over = 0; values = v })
    loop_stop n d v q = let f : suc i ≡ i + 1 = omega arith in turned (stop n d v) q ∙ ap (λ k. accepted k 0 (record { line = n; left = d; total = total; over = 0; values = v })) f

    pub loop_fail : (x l f : ℕ) → fail x l f ≡ turn_of N all env t p → loop N all total (m - i) i env t p ≡ refused x l f
    loop_fail x l f q = turned (fail x l f) q
