use Rattle.std.proofs.Common.{ℕ, ◌+◌, sym, ap, ◌∙◌}
use Rattle.bench.proofs.First.{first_there}
use Rattle.bench.proofs.Numbered.{one_less, naught_less}
use Rattle.checker.proofs.Sound.{sound}
use Rattle.bench.proofs.fitting.is_first.Goals as goal

pub returns-then-line-eq0 : goal.returns-then-line-eq0
returns-then-line-eq0 g c = let h = sound c.args.script.now in naught_less c.args.line _ _ c.if-line-eq0.true (first_there c.args.script.now g.K.Kind.means g.K.Kind.code h)

pub returns : goal.returns
returns g c = let h = sound c.args.script.now in one_less c.args.line c.variables.result _ c.if-line-eq0.false (first_there c.args.script.now g.K.Kind.means g.K.Kind.code h ∙ ap (λ (n : ℕ). 1 + n) (sym c.variables.ensures))
