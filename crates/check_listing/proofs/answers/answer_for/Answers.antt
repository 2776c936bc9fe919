use Rattle.check_listing.proofs.Answered.{passed_answer}
use Rattle.check_listing.proofs.answers.answer_for.Goals as goal

pub returns-in-Ok : goal.returns-in-Ok
returns-in-Ok g c =
    let told = c.in-Ok.ensures in
    passed_answer g.K.Kind.means g.K.Kind.code c.args.draft.text.now c.args.draft.fields c.args.table.now _ _ _ _ _
    told.script.0 told.script.1 told.answer told.good.passes c.variables.ensures c.lines.ensures
