-- What holds of every after-calls, in every kind of number.
use Rattle.std.proofs.Common.{◌≡◌, ℕ, Bool, true, false, List, ◌∷◌, length, Option, sym, refl, ap, ◌∙◌, subst, ap₂, subst₂}
use Rattle.number.specs.declared.Pair.{Pair}
use Rattle.number.specs.Frac.{Frac}
use Rattle.number.specs.Kind.{Holds}
use Rattle.motion.specs.Numbers.{Numbers}
use Rattle.motion.specs.Lines.{Line}
use Rattle.motion.specs.Machine.{Bench, new}
use Rattle.motion.specs.NextLine.{declared}
use Rattle.motion.specs.Rules.{Standing, Curve}
use Rattle.motion.specs.Carriers.{Each, nil, cons}
use Rattle.motion.specs.Pairs.{numbers_of, Meant}
use Rattle.motion.specs.Calls.{Call, after_calls, ticks_accepted, some_accepted, ComesTo}
use Rattle.motion.specs.FlowLaw.{FlowLaw}
use Rattle.motion.specs.Promise.{KindFollows, PromiseKept, NothingThere, Alike, KindsAgree, OneBench}
use Rattle.motion.proofs.Determinism.{one_curve}
use Rattle.motion.proofs.Simulation.{simulation}
use Rattle.motion.proofs.FlowLaw.{shallow_zero, fifth_flows, shallow_flows, shallow_smooth}
use Rattle.motion.proofs.Chains.{shallow_told}
use Rattle.motion.proofs.Pairs.{pairs_carry}
use Rattle.motion.proofs.Calls.{comes_to, nothing_there}

pub flow_law : FlowLaw
flow_law = record { fifth = shallow_zero; from_fifth = fifth_flows; rates = λ w rs h. shallow_flows rs h w; program = shallow_smooth; told = shallow_told }

pub kind_follows : KindFollows
kind_follows means code laws = simulation _ _ (Meant means) (pairs_carry means code laws)

pub promise_kept : PromiseKept
promise_kept means code laws script p spelled shallow vs each cs =
    comes_to script p spelled (shallow_smooth (length (declared script)) p shallow) (numbers_of means code) (Meant means) (pairs_carry means code laws) vs each cs

pub nothing_in : NothingThere
nothing_in means code laws script p spelled shallow vs each cs ticks a k l f T s =
    nothing_there script p spelled (shallow_smooth (length (declared script)) p shallow) (numbers_of means code) (Meant means) (pairs_carry means code laws) vs each cs ticks a k l f T s

-- two lists that stand for one
each_both : {A B C : Type 0} {R : A → B → Type 0} {S : A → C → Type 0} {xs : List A} {ys : List B} {zs : List C} → Each R xs ys → Each S xs zs → Each (λ b c. (a : A) × R a b × S a c) ys zs
each_both nil nil = nil
each_both (cons r rs) (cons s ss) = cons (_, r, s) (each_both rs ss)

module _ (means means' : Pair → Option Frac) where
  -- two benches that stand on one curve at one tick
  pub curve_alike : (script : List Line) (T : ℕ) (b c : Bench Pair) (σ τ : List Frac) → Each (Meant means) σ b.values → Each (Meant means') τ c.values → b.total ≡ c.total →
      Curve script T (record { values = σ; line = b.line; left = b.left; over = b.over }) → Curve script T (record { values = τ; line = c.line; left = c.left; over = c.over }) → Alike means means' b c
  curve_alike script T b c σ τ r s t g h =
      let e = one_curve script T _ _ g h in
      record {
        line = ap (λ (x : Standing). x.line) e;
        left = ap (λ (x : Standing). x.left) e;
        total = t;
        over = ap (λ (x : Standing). x.over) e;
        values = each_both (subst (λ (x : List Frac). Each (Meant means) x b.values) (ap (λ (x : Standing). x.values) e) r) s;
      }

  pub new_alike : (script : List Line) (vs vs' : List Pair) → Each (Meant means) (declared script) vs → Each (Meant means') (declared script) vs' → Alike means means' (new script vs) (new script vs')
  new_alike script vs vs' r s = record { line = refl; left = refl; total = refl; over = refl; values = each_both r s }

  module _ (N N' : Numbers Pair) (script : List Line) (vs vs' : List Pair) (each : Each (Meant means) (declared script) vs) (each' : Each (Meant means') (declared script) vs') (cs cs' : List Call)
      (g : ComesTo (Meant means) N script vs cs) (h : ComesTo (Meant means') N' script vs' cs') (sums : ticks_accepted N script (new script vs) cs ≡ ticks_accepted N' script (new script vs') cs') where
    ends_alike : (b : Bool) → some_accepted N script (new script vs) cs ≡ b → some_accepted N' script (new script vs') cs' ≡ b →
        Alike means means' (after_calls N script (new script vs) cs) (after_calls N' script (new script vs') cs')
    ends_alike true i j =
        let c = after_calls N' script (new script vs') cs' in
        let x = g.on_curve i in
        let y = h.on_curve j in
        curve_alike script (ticks_accepted N script (new script vs) cs) _ _ x.values y.values x.meant y.meant (g.total ∙ sums ∙ sym h.total) x.curve (subst (λ (T : ℕ). Curve script T (record { values = y.values; line = c.line; left = c.left; over = c.over })) (sym sums) y.curve)
    ends_alike false i j = subst₂ (Alike means means') (sym (g.unmoved i)) (sym (h.unmoved j)) (new_alike script vs vs' each each')

pub kinds_agree : KindsAgree
kinds_agree means means' code code' laws laws' script p spelled shallow vs vs' each each' cs cs' sums e =
    ends_alike means means' (numbers_of means code) (numbers_of means' code') script vs vs' each each' cs cs'
    (promise_kept means code laws script p spelled shallow vs each cs) (promise_kept means' code' laws' script p spelled shallow vs' each' cs') sums _ e refl

-- in one kind, pairs that stand for the same are the same
module _ (means : Pair → Option Frac) (code : Frac → Option Pair) (laws : Holds means code) where
  each_one : {ps qs : List Pair} → Each (λ p q. (x : Frac) × Meant means x p × Meant means x q) ps qs → ps ≡ qs
  each_one nil = refl
  each_one (cons {a = p} {b = q} (x, r, s) rs) =
      let i = laws.forth p x r in
      let j = laws.forth q x s in
      let e : p ≡ q = cc in
      ap₂ ◌∷◌ e (each_one rs)

  alike_same : (b c : Bench Pair) → Alike means means b c → b ≡ c
  alike_same b c a = λ i. record { line = a.line i; left = a.left i; total = a.total i; over = a.over i; values = each_one a.values i }

pub one_bench_after : OneBench
one_bench_after means code laws script p spelled shallow vs each cs cs' sums e =
    alike_same means code laws _ _ (kinds_agree means means code code laws laws script p spelled shallow vs vs each each cs cs' sums e)
