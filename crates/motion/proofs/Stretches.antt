-- Three stretches worked out.
use Rattle.std.proofs.Common.{◌≡◌, ℕ, zero, suc, List, [], ◌∷◌, nat_abs, sym, refl, ap, ◌∙◌, subst, arith}
use mathlib.Core.Path.{fun_ext}
use Rattle.number.specs.Gcd.{gcd, steps}
use Rattle.number.specs.Lowest.{lowest}
use Rattle.number.specs.Frac.{Frac, naught, norm, whole, add, mul, scale}
use Rattle.motion.specs.Lines.{Part, Of, one, var}
use Rattle.motion.specs.Chains.{Shallow, Has, has_behind, Names, names, names_behind}
use Rattle.motion.specs.Derivatives.{D0, weighted, derive, Dk, D}
use Rattle.motion.specs.Solution.{series, value, Solves, polynomial, Within}
use Rattle.motion.specs.Stretches.{w, fall, zeros, fallen, four, five, StretchExamples}
use Rattle.motion.proofs.Derivatives.{unrated}
use Rattle.motion.proofs.Chains.{shallow_told}
use Rattle.motion.proofs.FlowLaw.{shallow_zero}
use Rattle.motion.proofs.Solution.{stretch_solved, stretch_solved_exactly}

flat : Shallow fall
flat = (shallow_told fall).1 refl

-- no other variable has a rate
others : (x : ℕ) (ps : List Part) → Has (suc (suc x)) ps fall → ⊥
others x ps (has_behind (has_behind h)) = elim h [ ]

named_is : (y : ℕ) (c : Frac) (o : Of) → Names y (record { coefficient = c; of = o } ∷ []) → o ≡ var y
named_is y c _ names = refl
named_is y c o (names_behind h) = elim h [ ]

fall_within : Within 2 fall
fall_within zero y h = let e = named_is y (w 1) (var 1) h in let k : 1 ≡ y = cc in omega arith
fall_within (suc zero) y h = let e = named_is y (w 2) one h in let z : ◌≡◌ {A = ℕ} 0 1 = cc in omega arith
fall_within (suc (suc x)) y h = elim (subst (Names y) (unrated (suc (suc x)) fall (others x)) h) [ ]

solution : Solves fall (zeros 2) (λ x. series (polynomial fall (zeros 2) x))
solution = stretch_solved fall flat (zeros 2)

-- t^2 and 2t have the coefficients of the fall's polynomials
same_series : (x k : ℕ) → series (polynomial fall (zeros 2) x) k ≡ series (fallen x) k
unfolding gcd steps lowest naught norm whole add mul scale weighted derive Dk D0
same_series zero zero = refl
same_series zero (suc zero) = refl
same_series zero (suc (suc zero)) = refl
same_series zero (suc (suc (suc zero))) = refl
same_series zero (suc (suc (suc (suc zero)))) = refl
same_series zero (suc (suc (suc (suc (suc k))))) = refl
same_series (suc zero) zero = refl
same_series (suc zero) (suc zero) = refl
same_series (suc zero) (suc (suc zero)) = refl
same_series (suc zero) (suc (suc (suc zero))) = refl
same_series (suc zero) (suc (suc (suc (suc zero)))) = refl
same_series (suc zero) (suc (suc (suc (suc (suc k))))) = refl
same_series (suc (suc x)) zero = solution.starts (suc (suc x))
same_series (suc (suc x)) (suc k) = solution.constant (suc (suc x)) (λ h. others x h.0 h.1) k

five_fifth : D five (zeros 5) 5 (var 0) ≡ w 24
unfolding gcd steps lowest naught norm whole add mul scale weighted derive Dk D0
five_fifth = refl

some : w 24 ≡ naught → ⊥
unfolding gcd steps lowest naught norm whole
some e = let k : ◌≡◌ {A = ℕ} 24 0 = ap (λ (q : Frac). nat_abs q.num) e in omega arith

unsolved : Solves five (zeros 5) (λ x. series (polynomial five (zeros 5) x)) → ⊥
unsolved s = some (sym five_fifth ∙ (stretch_solved_exactly five (zeros 5)).1 s 0)

pub stretch_examples : StretchExamples
unfolding gcd steps lowest naught norm whole add mul scale weighted derive Dk D0 value
stretch_examples = record {
  fall_shallow = flat;
  fall_within = fall_within;
  fall_solved = subst (Solves fall (zeros 2)) (fun_ext (λ x. fun_ext (same_series x))) solution;
  fall_flows = refl;
  fall_values = (refl, refl);
  four_shallow = (shallow_told four).1 refl;
  four_solution = refl;
  four_flows = refl;
  five_deep = λ h. some (sym five_fifth ∙ shallow_zero five h (zeros 5) 0);
  five_fifth = five_fifth;
  five_unsolved = unsolved;
}
