-- The examples, by computation and by the theorems.
use Rattle.std.proofs.Common.{◌≡◌, ◌+◌, List, [], ◌∷◌, Some, sym, refl, ap, ◌∙◌, ap₂, inl, arith}
use Rattle.number.specs.Gcd.{gcd, steps}
use Rattle.number.specs.Lowest.{lowest}
use Rattle.number.specs.Frac.{Frac, naught, norm, whole, add, neg, sub, mul, flip, inverse, div, scale, less, at_most}
use Rattle.kinds.specs.Fractions.{made, frac_of, pair_of}
use Rattle.kinds.specs.Thousandths.{thousand_of, count_of, counted}
use Rattle.kinds.specs.Held.{fractions_held}
use Rattle.kinds.specs.Counting.{thousandths_held}
use Rattle.number.specs.Frac as F
use Rattle.motion.specs.Numbers.{exact, Divided, quot, by_zero, not_held, divide}
use Rattle.motion.specs.Lines.{Rate}
use Rattle.motion.specs.Derivatives.{D0, weighted, derive, Dk}
use Rattle.motion.specs.Carriers.{nil, cons, both, Divides, quots, zeros, gone, Carries, Paired}
use Rattle.motion.specs.Chains.{Shallow, starts}
use Rattle.motion.specs.Marked.{A, B, C, D, w, thousands, bench}
use Rattle.motion.specs.OneAdvance.{as_built}
use Rattle.motion.specs.Examples.{Sample, Nested, Four, begin, half_way, Examples}
use Rattle.motion.proofs.ReadOff.{sound}
use Rattle.motion.proofs.Chains.{shallow_told}
use Rattle.motion.proofs.Pairs.{pairs_carry}
use Rattle.motion.proofs.Agreement.{follows_rules}
use Rattle.motion.proofs.Promise.{nothing_in}
use Rattle.motion.proofs.OneAdvance.{advance_law}

flat : (rs : List Rate) → starts rs 4 ≡ [] → Shallow rs
flat rs = (shallow_told rs).1

sample_a : Sample A (w 0 ∷ w 0 ∷ [])
unfolding gcd steps lowest norm whole made frac_of
sample_a = record { program = _; spelled = sound refl; shallow = (flat _ refl, (flat _ refl, tt)); held = cons refl (cons refl nil) }

sample_b : Sample B (w 1 ∷ [])
unfolding gcd steps lowest norm whole made frac_of
sample_b = record { program = _; spelled = sound refl; shallow = ((tt, tt), tt); held = cons refl nil }

sample_c : Sample C (w 2147000000 ∷ w 2000 ∷ [])
unfolding gcd steps lowest norm whole made frac_of
sample_c = record { program = _; spelled = sound refl; shallow = (flat _ refl, tt); held = cons refl (cons refl nil) }

sample_d : Sample D (w 1 ∷ [])
unfolding gcd steps lowest norm whole made frac_of
sample_d = record { program = _; spelled = sound refl; shallow = (flat _ refl, (tt, tt)); held = cons refl nil }

sample_nested : Sample Nested (w 3 ∷ w 0 ∷ [])
unfolding gcd steps lowest norm whole made frac_of
sample_nested = record { program = _; spelled = sound refl; shallow = ((((tt, (tt, tt)), (flat _ refl, (tt, tt))), ((tt, tt), tt)), tt); held = cons refl (cons refl nil) }

sample_four : Sample Four (w 0 ∷ w 0 ∷ w 0 ∷ w 0 ∷ [])
unfolding gcd steps lowest norm whole made frac_of
sample_four = record { program = _; spelled = sound refl; shallow = (flat _ refl, tt); held = cons refl (cons refl (cons refl (cons refl nil))) }

divide_paired : (x y : Frac) → Divides (Paired {C = Frac} (λ x. x) (λ x. x)) (divide x y) (divide x y)
divide_paired x y = by (divide x y)
  where
    by : (d : Divided Frac) → Divides (Paired {C = Frac} (λ x. x) (λ x. x)) d d
    by (quot q) = quots (q, refl, refl)
    by by_zero = zeros
    by not_held = gone

paired : Carries exact exact (Paired {C = Frac} (λ x. x) (λ x. x))
paired = record {
  literal = λ q. both (q, refl, refl);
  add = λ (x, p, q) (y, r, s). both (F.add x y, ap₂ F.add p r, ap₂ F.add q s);
  sub = λ (x, p, q) (y, r, s). both (F.sub x y, ap₂ F.sub p r, ap₂ F.sub q s);
  mul = λ (x, p, q) (y, r, s). both (F.mul x y, ap₂ F.mul p r, ap₂ F.mul q s);
  div = λ (x, p, q) (y, r, s). rw (← p, ← q, ← r, ← s) (divide_paired x y);
  scale = λ (x, p, q) n k. both (F.scale x n k, ap (λ (z : Frac). F.scale z n k) p, ap (λ (z : Frac). F.scale z n k) q);
  lt = λ (x, p, q) (y, r, s). both (sym (ap₂ F.less p r) ∙ ap₂ F.less q s);
  le = λ (x, p, q) (y, r, s). both (sym (ap₂ F.at_most p r) ∙ ap₂ F.at_most q s);
  terms = λ (x, p, q). ap Some (sym p ∙ q);
}

pub examples : Examples
unfolding gcd steps lowest naught norm whole add neg sub mul flip inverse div scale less at_most made frac_of pair_of thousand_of counted D0 weighted derive Dk
examples = record {
  samples = (sample_a, sample_b, sample_c, sample_d, sample_nested, sample_four);
  kind = fractions_held;
  paired = paired;
  carried = pairs_carry frac_of pair_of fractions_held;
  nested = refl;
  chained = refl;
  inside = follows_rules.on_the_curve A sample_a.program sample_a.spelled 5 10 1 0 (bench 3 5 5 0 _) refl;
  joint = follows_rules.on_the_curve A sample_a.program sample_a.spelled 10 10 2 0 (bench 6 10 10 0 _) refl;
  past = follows_rules.on_the_curve A sample_a.program sample_a.spelled 23 10 2 3 (bench 9 0 23 3 _) refl;
  fails = λ p h. (follows_rules.fails_exactly D (begin D) p 1 2 (follows_rules.starts D p h) (omega arith)).0 (21, 4, 5, inl refl, refl);
  nothing = λ T s. nothing_in frac_of pair_of fractions_held D sample_d.program sample_d.spelled sample_d.shallow (w 1 ∷ []) sample_d.held [] 1 10 21 4 5 (1 + T) s (inl refl) refl (omega arith);
  refused_20 = refl;
  refused_21 = refl;
  refused_22 = refl;
  cut = (refl, refl, refl, refl);
  stood = (
    (advance_law frac_of pair_of fractions_held A sample_a.program sample_a.spelled sample_a.shallow (w 0 ∷ w 0 ∷ []) sample_a.held _ (as_built refl) 5 10).stands 1 0 half_way refl,
    (advance_law thousand_of count_of thousandths_held A sample_a.program sample_a.spelled sample_a.shallow (thousands 0 ∷ thousands 0 ∷ []) (cons refl (cons refl nil)) _ (as_built refl) 5 10).stands 1 0 (bench 3 5 5 0 _) refl,
    (advance_law frac_of pair_of fractions_held D sample_d.program sample_d.spelled sample_d.shallow (w 1 ∷ []) sample_d.held _ (as_built refl) 0 10).stands 1 0 (bench 2 1 0 0 _) refl,
  );
  advanced = (refl, refl, refl);
  called = refl;
  summed = (refl, refl);
  fitting = refl;
  fourth = refl;
  broken = (refl, refl, refl);
}
