use Rattle.std.proofs.Common.{◌+◌, List, None, ap, ◌∙◌}
use Rattle.std.proofs.lemmas.List.{take_rest}
use Rattle.script.specs.declared.words.LineWord.TheVariants as w
use Rattle.entries.specs.declared.rows.Row.{Row}
use Rattle.entries.specs.Decoding.{lines_over}
use Rattle.entries.proofs.Turns.{on_false}
use Rattle.checker.specs.Chains.{deep_first}
use Rattle.checker.proofs.DeepRuns.{chains_turn}
use Rattle.checker.proofs.chains.check_chains.Goals as goal

pub loop-i-preserved : goal.loop-i-preserved
loop-i-preserved c =
    let told = c.is_deep_run.ensures ∙ ap (λ (rs : List Row). deep_first (lines_over c.args.table rs)) (take_rest c.args.rows.now c.loop-i.i) in
    c.loop-i.invariant
    ∙ chains_turn c.args.table c.args.rows.now c.loop-i.i (c.loop-i.i + 1) (record { word = w.Var; name = None; from = 0; to = 0 }) c.is_deep_run.result c.loop-i-test.true told
    ∙ on_false _ _ _ c.if-is_deep_run.false
