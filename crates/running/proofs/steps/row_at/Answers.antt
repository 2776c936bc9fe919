use Rattle.std.proofs.Common.{◌≡◌, ◌-◌, ◌≤◌, List, length, get_or, sym, ap, subst, arith}
use Rattle.entries.specs.declared.rows.Row.{Row}
use Rattle.checker.specs.Scripts.{table_in, places_in, rows_in, lines_in}
use Rattle.checker.proofs.Sound.{laid_out}
use Rattle.motion.specs.NextLine.{line_at}
use Rattle.entries.specs.Decoding.{row_line}
use Rattle.running.proofs.Lookups.{line_there, line_nowhere, all_at}
use Rattle.running.proofs.steps.row_at.Goals as goal
use Rattle.running.proofs.steps.row_at.Goals.{else-n-ge1-via-then-n-ge1+else-n-rows, else-n-ge1-via-else-n-ge1}

pub returns-then-n-rows : goal.returns-then-n-rows
returns-then-n-rows g c =
    let s = c.args.script.now in
    let e = c.rows-rows.ensures in
    let k : c.args.n ≤ length (rows_in s) = subst (λ (rs : List Row). c.args.n ≤ length rs) e c.if-n-rows.true in
    let p = subst (λ (rs : List Row). (d : Row) → (row_line (table_in s) (places_in s) (get_or rs (c.args.n - 1) d) ≡ line_at (lines_in s) c.args.n) × ((get_or rs (c.args.n - 1) d).to - (get_or rs (c.args.n - 1) d).from ≤ 18)) (sym e)
    (λ d. (line_there (table_in s) (places_in s) (rows_in s) c.args.n d c.if-n-ge1.true k, all_at (λ r. r.to - r.from ≤ 18) (rows_in s) (c.args.n - 1) d (laid_out s).short (omega (arith, c.if-n-ge1.true, k)))) _ in
    record { line = p.0; short = p.1 }

pub returns-else-n-ge1 : goal.returns-else-n-ge1
returns-else-n-ge1 g c =
    let s = c.args.script.now in
    let n : length c.rows-rows.result.now ≡ length (rows_in s) = ap length c.rows-rows.ensures in
    elim c.else-n-ge1.branch [
      | else-n-ge1-via-then-n-ge1+else-n-rows w ↦ record { line = line_nowhere (table_in s) (places_in s) (rows_in s) c.args.n (λ _. omega (arith, n, w.if-n-rows.false)); short = omega arith }
      | else-n-ge1-via-else-n-ge1 w ↦ record { line = line_nowhere (table_in s) (places_in s) (rows_in s) c.args.n (λ k. absurd (omega (arith, k, w.if-n-ge1.false))); short = omega arith }
    ]
