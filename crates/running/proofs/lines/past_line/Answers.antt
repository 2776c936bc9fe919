use Rattle.std.proofs.Common.{◌≡◌, length, ap, ◌∙◌, arith}
use Rattle.checker.specs.Scripts.{table_in, places_in, rows_in, lines_in}
use Rattle.checker.proofs.Sound.{laid_out}
use Rattle.running.proofs.Lookups.{lines_long, past_all}
use Rattle.running.proofs.lines.past_line.Goals as goal

pub returns-then-n-rows : goal.returns-then-n-rows
returns-then-n-rows g c =
    let s = c.args.script.now in
    let n : length c.rows.result.now ≡ length (rows_in s) = ap length c.rows.ensures in
    past_all (lines_in s) 1 c.args.n (omega (arith, n, lines_long (table_in s) (places_in s) (rows_in s), c.if-n-rows.true))

pub returns-else-n-rows : goal.returns-else-n-rows
returns-else-n-rows g c =
    let s = c.args.script.now in
    let n : length c.rows.result.now ≡ length (rows_in s) = ap length c.rows.ensures in
    c.past.ensures (omega (arith, n, (laid_out c.args.script.now).few, c.if-n-rows.false)) ∙ (laid_out c.args.script.now).leads.past c.args.n (omega (arith, n, lines_long (table_in s) (places_in s) (rows_in s), c.if-n-rows.false))
