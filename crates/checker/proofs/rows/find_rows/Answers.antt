use Rattle.std.proofs.Common.{length, ap, arith, length-set, length-append}
use Rattle.checker.proofs.Decoded.{line_joined}
use Rattle.checker.proofs.LaidOut.{row_more}
use Rattle.checker.proofs.Splits.{line_filled}
use Rattle.checker.proofs.rows.find_rows.Goals as goal

pub row_of-requires : goal.row_of-requires
row_of-requires c =
    let left = c.loop-line.line-iterator.0.now in
    let rest = c.next.new.self.0.now in
    let n = ap length (line_joined left c.in-Some.line.now rest c.in-Some.ensures.steps) in
    (line_filled left c.in-Some.line.now _ c.in-Some.ensures.steps, omega (arith, length-append c.in-Some.line.now rest, n, c.loop-line.invariant.2))

pub loop-line-preserved : goal.loop-line-preserved
loop-line-preserved c =
    let left = c.loop-line.line-iterator.0.now in
    let rest = c.next.new.self.0.now in
    let n = ap length (line_joined left c.in-Some.line.now rest c.in-Some.ensures.steps) in (
      omega arith,
      simp length-set c.loop-line.invariant.1,
      omega (arith, length-append c.in-Some.line.now rest, n, c.loop-line.invariant.2),
      row_more c.args.names.now.text.now c.args.names.now.places.now c.loop-line.at left c.in-Some.line.now rest c.loop-line.rows c.loop-line.count c.row_of.result _ c.in-Some.ensures.steps (omega (arith, c.loop-line.invariant.1)) c.row_of.ensures c.loop-line.invariant.3,
      omega (arith, c.loop-line.invariant.4, ap length c.in-Some.ensures.steps),
    )
