use Rattle.std.proofs.Common.{◌≡◌, ℕ, suc, ◌+◌, List, map, sym, ap, ◌∙◌, arith}
use Rattle.std.proofs.lemmas.Simd.{map-map}
use Rattle.motion.specs.Lines.{Rate}
use Rattle.motion.specs.Chains.{among, starts}
use Rattle.checker.specs.Chains.{rate_of}
use Rattle.checker.proofs.chains.is_deep.Goals as goal

pub loop-init : goal.loop-init
loop-init c = λ x. c.named-level.ensures x ∙ ap (λ (l : List ℕ). among x l) (sym (map-map (λ (r : Rate). r.name) (rate_of c.args.table) c.args.rates.now))

pub loop-preserved : goal.loop-preserved
loop-preserved c = λ x.
    let more : suc c.loop.counter ≡ c.loop.counter + 1 = omega arith in
    c.leading-level.ensures _ c.loop.invariant x ∙ ap (λ (k : ℕ). among x (starts (map (rate_of c.args.table) c.args.rates.now) k)) more
