use Rattle.std.proofs.Common.{ap, ◌∙◌}
use Rattle.script.specs.Ahead.{entries_left}
use Rattle.script.proofs.Ahead.{entries_at_start}
use Rattle.script.proofs.Table.{puts_all}
use Rattle.script.proofs.reading.entering.write_entries.Goals as goal

pub loop-i-init : goal.loop-i-init
loop-i-init c =
    let same = c.into_iter-i-iterator.ensures.into_iter_gives in
    let start = entries_at_start c.args.text.now c.new.result c.new.ensures.text c.new.ensures.left in
    let all = puts_all c.args.text.now _ _ c.args.table.now (ap (λ i. i.count) same ∙ c.enumerate-i-items.ensures.count) (ap (λ i. entries_left i.iter) same ∙ ap entries_left c.enumerate-i-items.ensures.source ∙ start) c.requires in
    record { puts = all.puts; fits = all.fits }
