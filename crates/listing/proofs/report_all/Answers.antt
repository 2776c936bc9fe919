use Rattle.std.proofs.Common.{◌∙◌, arith}
use Rattle.std.proofs.lemmas.Result.{IfOk-weaker}
use Rattle.listing.proofs.Printed.{lines_cut}
use Rattle.listing.proofs.report_all.Goals as goal

pub returns-in-Ok : goal.returns-in-Ok
returns-in-Ok c =
    let told = c.in-Ok.ensures in
    let fits = told.rules.fits in
    let all = told.rules.all_fields in
    IfOk-weaker c.accepted.result _ _ (λ v h. h ∙ lines_cut c.args.text.now _ c.read.new.table _ _ _ told.text c.fields.ensures told.answer (omega arith) told.entered) c.accepted.ensures
