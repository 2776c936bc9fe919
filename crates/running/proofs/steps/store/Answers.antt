use Rattle.std.proofs.Common.{ℕ, take, set, sym, refl, ap, ◌∙◌, arith}
use Rattle.std.proofs.lemmas.List.{set_past}
use Rattle.running.proofs.Lookups.{take_set_any}
use Rattle.running.proofs.steps.store.Goals as goal

pub returns-then-x-lt16 : goal.returns-then-x-lt16
returns-then-x-lt16 c =
    let vs = c.args.values in
    record {
      stored = take_set_any vs.count c.index_of-x.result vs.pairs c.args.q ∙ ap (λ (x : ℕ). set (take vs.count vs.pairs) x c.args.q) c.index_of-x.ensures;
      count = refl;
    }

pub returns-else-x-lt16 : goal.returns-else-x-lt16
returns-else-x-lt16 c =
    let vs = c.args.values in
    record {
      stored = ap (take vs.count) (sym (set_past vs.pairs c.index_of-x.result c.args.q (omega arith))) ∙ take_set_any vs.count c.index_of-x.result vs.pairs c.args.q ∙ ap (λ (x : ℕ). set (take vs.count vs.pairs) x c.args.q) c.index_of-x.ensures;
      count = refl;
    }
