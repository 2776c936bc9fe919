use Rattle.std.proofs.Common.{ℕ, List, length, take, ap, ◌∙◌, arith}
use Rattle.entries.specs.declared.rows.Row.{Row}
use Rattle.checker.proofs.Sound.{sound}
use Rattle.running.proofs.Lookups.{part_short, from_first}
use Rattle.bench.proofs.building.var_rows.Goals as goal

pub returns : goal.returns
returns g c =
    let rows = c.rows.result.now in
    let few = (sound c.args.script.now).found.few_variables in
    record {
      rows = c.between.ensures ∙ from_first c.variables.result rows
          ∙ ap (λ (n : ℕ). take n rows) c.variables.ensures
          ∙ ap (λ (rs : List Row). take c.args.script.now.plan.past.declared rs) c.rows.ensures;
      few = omega (arith, ap length c.between.ensures, part_short 0 c.variables.result rows, c.variables.ensures, few);
    }
