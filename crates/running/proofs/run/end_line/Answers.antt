use Rattle.std.proofs.Common.{◌≡◌, length, ap, arith}
use Rattle.checker.specs.Scripts.{table_in, places_in, rows_in}
use Rattle.running.proofs.Lookups.{lines_long}
use Rattle.running.proofs.run.end_line.Goals as goal

pub returns : goal.returns
returns g c =
    let s = c.args.script.now in
    let n : length c.rows.result.now ≡ length (rows_in s) = ap length c.rows.ensures in
    omega (arith, n, lines_long (table_in s) (places_in s) (rows_in s))
