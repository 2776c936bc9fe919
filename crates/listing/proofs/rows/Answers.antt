use Rattle.std.proofs.Common.{◌++◌, vec_items, sym, ap, ◌∙◌}
use Rattle.std.proofs.lemmas.List.{at_drop_all, append-nil}
use Rattle.listing.specs.Rows.{entry_lines}
use Rattle.listing.proofs.Printed.{row_more}
use Rattle.listing.proofs.rows.Goals as goal

pub loop-entry-preserved : goal.loop-entry-preserved
loop-entry-preserved c =
    c.loop-entry.invariant
    ∙ row_more _ _ _ _ _ _ _ c.loop-entry-test.true (c.as_slice.ensures.value ∙ c.in_ok-row.ensures) c.in_ok-extend_from_slice.ensures.items

pub returns : goal.returns
returns c =
    let e = c.loop-entry.invariant in
    let f = at_drop_all (entry_lines c.args.text.now) c.args.entries.now c.loop-entry.entry-index c.loop-entry-test.false in
    sym (e ∙ ap (λ s. vec_items c.loop-entry.out ++ s) f ∙ append-nil (vec_items c.loop-entry.out))
