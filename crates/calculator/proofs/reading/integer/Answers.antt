-- Reading a whole number.
use Rattle.std.proofs.Common.{◌∙◌}
use Rattle.calculator.proofs.Texts.{mapped_ok, integer_is}
use Rattle.calculator.proofs.reading.integer.Goals as goal

pub returns : goal.returns
returns c = mapped_ok c.parse.result c.map_err.result _ c.map_err.ensures.cases ∙ integer_is c.args.text.now c.parse.result c.parse.ensures.value.0
