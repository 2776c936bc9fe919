use Rattle.std.proofs.Common.{◌≡◌, length, ap, arith}
use Rattle.checker.specs.Scripts.{table_in, places_in, rows_in, lines_in}
use Rattle.checker.proofs.Sound.{laid_out}
use Rattle.running.proofs.Lookups.{lines_long, place_ended, place_on}
use Rattle.running.proofs.lines.standing_at.Goals as goal

pub overflow_cast-result : goal.overflow_cast-result
overflow_cast-result g c =
    let s = c.args.script.now in
    let n : length c.rows.result.now ≡ length (rows_in s) = ap length c.rows.ensures in
    record { fits = omega (arith, n, (laid_out s).few, c.if-n-rows.false) }

pub returns-then-n-rows : goal.returns-then-n-rows
returns-then-n-rows g c =
    let s = c.args.script.now in
    let n : length c.rows.result.now ≡ length (rows_in s) = ap length c.rows.ensures in
    place_ended (lines_in s) c.args.n (omega (arith, n, lines_long (table_in s) (places_in s) (rows_in s), c.if-n-rows.true))

pub returns-else-n-rows : goal.returns-else-n-rows
returns-else-n-rows g c =
    let s = c.args.script.now in
    let n : length c.rows.result.now ≡ length (rows_in s) = ap length c.rows.ensures in
    place_on (lines_in s) c.args.n (omega (arith, n, lines_long (table_in s) (places_in s) (rows_in s), c.if-n-rows.false))
