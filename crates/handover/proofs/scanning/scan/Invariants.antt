use Rattle.std.proofs.Common.{◌≡◌, [], drop}
use Rattle.handover.specs.Scans.{blank, fields_of, scanned}
use Rattle.handover.proofs.scanning.scan.Given as goal

abbrev pub invariant-loop-b : goal.invariant-loop-b
invariant-loop-b l = scanned [] blank l.line ≡ scanned (fields_of l.fields) l.number (drop l.b-index l.line)
