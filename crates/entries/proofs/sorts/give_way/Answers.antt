use Rattle.std.proofs.Common.{List, ◌∷◌, [], ◌++◌, Some, None, sym, ap, ◌∙◌}
use Rattle.std.proofs.lemmas.Slice.Eq.{strip_suffix_is}
use Rattle.entries.specs.declared.sorts.Sort.{Sort}
use Rattle.entries.specs.Sorts.{seen}
use Rattle.entries.proofs.Piles.{sorts_same, given, not_given}
use Rattle.entries.proofs.sorts.give_way.Goals as goal

pub returns-in_err-rest : goal.returns-in_err-rest
returns-in_err-rest c =
    let apart = strip_suffix_is sorts_same c.as_slice.result.now c.args.operands.now None c.in_err-rest.ensures.cases in
    ap (λ r. seen r c.args.pile.now) c.from_residual.ensures
    ∙ not_given c.args.pile.now.items c.args.operands.now c.args.sort (λ front e. apart front (c.as_slice.ensures.value ∙ e))

pub returns : goal.returns
returns c =
    let front = c.in_ok-rest.field-0.now in
    let parts = strip_suffix_is sorts_same c.as_slice.result.now c.args.operands.now (Some c.in_ok-rest.field-0) c.in_ok-rest.ensures.cases in
    given c.args.pile.now.items c.args.operands.now c.args.sort front c.push.new.self.items (sym c.as_slice.ensures.value ∙ parts)
    (c.push.ensures.items ∙ ap (λ (l : List Sort). l ++ c.args.sort ∷ []) c.truncate.ensures.items)
