use Rattle.std.proofs.Common.{length}
use Rattle.script.proofs.Verdict.{alone}
use Rattle.script.proofs.Answered.{answer, rules, again, entered}
use Rattle.script.proofs.reading.entering.read.Goals as goal

pub returns : goal.returns
returns c =
    let e = c.read_checked.ensures.answer in
    let a = c.read_checked.ensures.table in
    let text = c.args.text.now in
    let table = c.args.table.now in
    record {
      answer = answer text (length table) _ e;
      table = a;
      text = c.read_checked.ensures.text;
      rules = rules text (length table) _ e;
      alone = alone text (length table);
      again = again text (length table) _ e;
      entered = entered text table _ _ e a;
    }
