-- Parting a text.
use Rattle.calculator.proofs.Texts.{parted_is}
use Rattle.calculator.proofs.reading.part.Goals as goal

pub returns : goal.returns
returns c = parted_is c.args.at c.args.text.now c.split_once.result c.requires c.split_once.ensures.cases
