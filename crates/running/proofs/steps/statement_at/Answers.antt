use Rattle.std.proofs.Common.{◌≡◌, ℕ, List, Option, refl, ap, ◌∙◌}
use Rattle.script.specs.declared.reading.Entry.{Entry}
use Rattle.entries.specs.Decoding.{part, line_by}
use Rattle.checker.specs.Scripts.{table_in, places_in}
use Rattle.running.proofs.steps.statement_at.Goals as goal

pub returns : goal.returns
returns g c =
    let s = c.args.script.now in
    let row = c.row_at-row.result in
    let es : c.between.result.entries.now ≡ part row.from row.to (table_in s) = c.between.ensures.entries ∙ ap (part row.from row.to) c.resolved.ensures.entries in
    let xs : c.between.result.variables.now ≡ part row.from row.to (places_in s) = c.between.ensures.variables ∙ ap (part row.from row.to) c.resolved.ensures.variables in
    record {
      number = refl;
      line = ap (λ (v : List Entry). line_by row.word row.name v c.between.result.variables.now) es ∙ ap (λ (v : List (Option ℕ)). line_by row.word row.name (part row.from row.to (table_in s)) v) xs ∙ c.row_at-row.ensures.line;
    }
