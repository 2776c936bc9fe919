use Rattle.std.proofs.Common.{refl, ◌∙◌}
use Rattle.checker.proofs.Marked.{any_marked}
use Rattle.checker.proofs.chains.Level.any.Goals as goal

pub returns : goal.returns
returns c = λ xs m. c.contains.ensures.value ∙ any_marked _ refl refl c.args.self.now.marks xs m
