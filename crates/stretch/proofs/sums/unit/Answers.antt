use Rattle.std.proofs.Common.{pos, to_z, of_z, w64, ap, ◌∙◌}
use Rattle.std.specs.Result.{result_ok}
use Rattle.number.specs.Frac.{whole}
use Rattle.number.specs.Kind.{taken}
use Rattle.stretch.proofs.Kept.{ok_unit}
use Rattle.stretch.proofs.sums.unit.Goals as goal

pub returns : goal.returns
unfolding whole
returns g c =
    c.ok.ensures.value ∙ ap result_ok c.take.ensures ∙ ap (λ z. result_ok (taken g.K.Kind.means g.K.Kind.code (to_z w64 (of_z w64 z)) (pos 1))) c.from.ensures ∙ ok_unit g.K.Kind.means g.K.Kind.code c.args.one
