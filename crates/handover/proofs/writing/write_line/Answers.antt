-- The laws of the line, and the examples.
use Rattle.handover.proofs.Lawful.{short_lines}
use Rattle.handover.proofs.Rounded.{round_trip}
use Rattle.handover.proofs.Shown.{examples}
use Rattle.handover.proofs.writing.write_line.Goals as goal

pub returns-clause-short : goal.returns-clause-short
returns-clause-short g c = short_lines g.K.Kind.means g.K.Kind.code g.met.K.Kind.sound

pub returns-clause-round : goal.returns-clause-round
returns-clause-round g c = round_trip g.K.Kind.means g.K.Kind.code g.met.K.Kind.sound

pub returns-clause-examples : goal.returns-clause-examples
returns-clause-examples g c = examples
