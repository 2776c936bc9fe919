use Rattle.std.proofs.Common.{ℕ, ◌≤◌, List, length, sym, ap, ◌∙◌, subst}
use Rattle.number.specs.declared.Pair.{Pair}
use Rattle.entries.specs.declared.resolved.Resolved.{Resolved}
use Rattle.motion.specs.Items.{truth_of}
use Rattle.motion.specs.Pairs.{numbers_of}
use Rattle.entries.specs.Decoding.{items_in}
use Rattle.postfix.specs.Located.{located}
use Rattle.running.proofs.Lookups.{thrice}
use Rattle.running.proofs.runs.Run.truth.Goals as goal

pub returns : goal.returns
returns g c =
    let a = c.args.statement.now in
    let e = c.expression.ensures in
    c.truth.ensures (subst (λ (r : Resolved). length r.entries.now ≤ 18) (sym e.items) a.short, subst (λ (f : ℕ). f ≤ 1000) (sym e.field) c.requires)
    ∙ ap (λ (n : ℕ). located n (truth_of (numbers_of g.K.Kind.means g.K.Kind.code) c.expression.result.values.now c.expression.result.field (items_in c.expression.result.items))) e.line
    ∙ thrice (λ (vs : List Pair) (f : ℕ) (r : Resolved). located a.line (truth_of (numbers_of g.K.Kind.means g.K.Kind.code) vs f (items_in r))) e.values e.field e.items
