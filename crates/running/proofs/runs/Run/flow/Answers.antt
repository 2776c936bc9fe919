use Rattle.std.proofs.Common.{◌≡◌, List, Option, ℕ, drop, refl, ap, ◌∙◌}
use Rattle.script.specs.declared.reading.Entry.{Entry}
use Rattle.motion.specs.NextLine.{rates}
use Rattle.motion.specs.Lines.{Rate}
use Rattle.motion.specs.Flow as F
use Rattle.motion.specs.Pairs.{numbers_of}
use Rattle.entries.specs.declared.rows.Row.{Row}
use Rattle.entries.specs.Decoding.{rows_lines}
use Rattle.checker.specs.Scripts.{table_in, places_in, rows_in, lines_in}
use Rattle.record.specs.Benches.{pairs_of}
use Rattle.running.proofs.Lookups.{part_all, rates_behind, thrice}
use Rattle.running.proofs.runs.Run.flow.Goals as goal

pub returns : goal.returns
returns g c =
    let r = c.args.self.now in
    let s = r.script.now in
    let behind : c.between-behind.result.now ≡ drop c.args.n (rows_in s) = c.between-behind.ensures ∙ part_all c.args.n c.rows-rows.result.now ∙ ap (drop c.args.n) c.rows-rows.ensures in
    let rs : rates (rows_lines c.resolved.result.entries.now c.resolved.result.variables.now c.between-behind.result.now) ≡ rates (drop c.args.n (lines_in s)) =
    thrice (λ (es : List Entry) (xs : List (Option ℕ)) (rows : List Row). rates (rows_lines es xs rows)) c.resolved.ensures.entries c.resolved.ensures.variables behind ∙ rates_behind (table_in s) (places_in s) (rows_in s) (drop c.args.n (rows_in s)) c.args.n refl in
    record {
      pairs = c.flow.ensures.pairs r.few ∙ ap (λ (v : List Rate). F.flow (numbers_of g.K.Kind.means g.K.Kind.code) v (pairs_of r.values) c.args.t) rs;
      count = c.flow.ensures.count;
    }
