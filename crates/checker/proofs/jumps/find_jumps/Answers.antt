use Rattle.std.proofs.Common.{◌∙◌, arith, length-set}
use Rattle.motion.specs.NextLine.{onward}
use Rattle.entries.specs.Decoding.{rows_lines}
use Rattle.checker.proofs.Led.{words_of, jump_more}
use Rattle.checker.proofs.jumps.find_jumps.Goals as goal

pub loop-n-preserved : goal.loop-n-preserved
loop-n-preserved c = (
  simp length-set c.loop-n.invariant.0,
  λ es xs.
      let all = rows_lines es xs c.args.rows.now in
      let e = c.find_words-words.ensures ∙ words_of es xs c.args.rows.now in
      jump_more c.loop-n.behind _ _ c.loop-n.n (onward 0 all) (onward 1 all)
      (omega (arith, c.loop-n.invariant.0, c.loop-n-test.true, c.requires))
      (omega (arith, c.next_statement.ensures.next all e)) (omega (arith, c.past_body.ensures.next all e))
      (c.loop-n.invariant.1 es xs),
)
