use Rattle.std.proofs.Common.{◌≡◌, List, map, length, take, sym, subst}
use Rattle.script.specs.declared.reading.Entry.{Entry}
use Rattle.motion.specs.Carriers.{Each}
use Rattle.motion.specs.NextLine.{declared}
use Rattle.motion.specs.Pairs.{Meant}
use Rattle.checker.specs.Scripts.{table_in, lines_in}
use Rattle.bench.specs.Built.{value_in}
use Rattle.bench.proofs.First.{new_there, values_held}
use Rattle.checker.proofs.Sound.{sound}
use Rattle.bench.proofs.building.build.Goals as goal

pub returns : goal.returns
returns g c =
    let s = c.args.script.now in
    let rows = c.var_rows-rows.result.now in
    let ps = c.first_pairs.result in
    let p : take (length rows) ps ≡ map (value_in g.K.Kind.code (table_in s)) rows =
    subst (λ (es : List Entry). take (length rows) ps ≡ map (value_in g.K.Kind.code es) rows) c.table.ensures c.first_pairs.ensures in
    record {
      new = let h = sound c.args.script.now in let n = new_there s g.K.Kind.means g.K.Kind.code h rows ps c.var_rows-rows.ensures.rows p in λ i. record { line = n.1 i; left = 0; total = 0; over = 0; values = n.0 i };
      held = let h = sound c.args.script.now in let n = new_there s g.K.Kind.means g.K.Kind.code h rows ps c.var_rows-rows.ensures.rows p in subst (Each (Meant g.K.Kind.means) (declared (lines_in s))) (sym n.0) (values_held s g.K.Kind.means g.K.Kind.code h g.met.K.Kind.sound);
      few = c.var_rows-rows.ensures.few;
    }
