use Rattle.std.proofs.Common.{◌≡◌, ℕ, List, map, take, sym, ap, ◌∙◌, rules}
use Rattle.std.proofs.lemmas.List.Folds.{length-prefix_len}
use Rattle.script.specs.declared.words.LineWord.TheVariants as w
use Rattle.entries.specs.declared.rows.Row.{Row}
use Rattle.entries.specs.Decoding.{lines_over}
use Rattle.checker.specs.Chains.{is_deep, deep_first, is_rate, rate_of}
use Rattle.checker.proofs.DeepRuns.{run_first}
use Rattle.checker.proofs.chains.is_deep_run.Goals as goal

pub returns-then-eq : goal.returns-then-eq
returns-then-eq c =
    let run : c.in-Some.row.now.word ≡ w.Run = search rules in
    c.is_deep.ensures
    ∙ ap (λ (k : ℕ). is_deep (map (rate_of c.args.table) (take k c.in-Some.below.now))) (c.rate_count.ensures ∙ length-prefix_len (λ (r : Row). is_rate r.word) c.in-Some.below.now)
    ∙ sym (run_first c.args.table c.in-Some.row.now c.in-Some.below.now run)
    ∙ ap (λ (rs : List Row). deep_first (lines_over c.args.table rs)) (sym c.in-Some.ensures.cases.0)
