use Rattle.listing.proofs.Printed.{room_enough}
use Rattle.listing.proofs.report.Goals as goal

pub returns : goal.returns
returns c = record { printed = c.report_all.ensures; roomy = room_enough c.args.text.now }
