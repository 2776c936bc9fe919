use Rattle.std.proofs.Common.{Ok, Err, sym, ap, ◌∙◌, rules}
use Rattle.script.specs.Checks.{is_in_order}
use Rattle.checker.proofs.Passing.{own_table}
use Rattle.checker.proofs.Sized.{own_sized}
use Rattle.checker.proofs.Sound.{sound}
use Rattle.checker.proofs.Verdict.{judged}
use Rattle.checker.proofs.checking.check.Goals as goal

pub check_entries-requires : goal.check_entries-requires
check_entries-requires g c = own_sized c.text-text.result.now c.fields-fields.result c.args.table.now (sym c.if-is_other_table.ensures)

pub new-requires-in-Ok-clause-own : goal.new-requires-in-Ok-clause-own
new-requires-in-Ok-clause-own g c = own_table c.text-text.result.now c.fields-fields.result c.args.table.now (sym c.if-is_other_table.ensures)

pub new-requires-in-Ok-clause-in_order : goal.new-requires-in-Ok-clause-in_order
new-requires-in-Ok-clause-in_order g c = ap is_in_order c.text-text.ensures ∙ c.args.draft.in_order

pub returns-in-Ok : goal.returns-in-Ok
returns-in-Ok g c =
    let s = sound c.new-in-Ok.result in
    record {
      answer = search rules;
      judged = judged g.K.Kind.means g.K.Kind.code c.args.draft.text.now c.args.draft.fields c.args.table.now (Ok tt) (search rules);
      good = s.good;
      found = s.found;
      script = search rules;
    }

pub returns-in-Err : goal.returns-in-Err
returns-in-Err g c = record {
  answer = search rules;
  judged = judged g.K.Kind.means g.K.Kind.code c.args.draft.text.now c.args.draft.fields c.args.table.now (Err c.in-Err.refusal) (search rules);
  good = tt;
  found = tt;
  script = search rules;
}

pub returns-then-is_other_table : goal.returns-then-is_other_table
returns-then-is_other_table g c = record {
  answer = search rules;
  judged = judged g.K.Kind.means g.K.Kind.code c.args.draft.text.now c.args.draft.fields c.args.table.now (Err c.new.result) (search rules);
  good = tt;
  found = tt;
  script = search rules;
}
