use Rattle.std.proofs.Common.{◌≡◌, ◌+◌, ◌≤◌, [], drop}
use Rattle.motion.specs.Pairs.{numbers_of}
use Rattle.motion.specs.Items as I
use Rattle.entries.specs.Decoding.{items_of}
use Rattle.postfix.specs.Stacks.{waiting}
use Rattle.postfix.proofs.expression.Expression.work.Given as goal

abbrev pub invariant-loop-i : goal.invariant-loop-i
invariant-loop-i g l =
    let N = numbers_of g.K.Kind.means g.K.Kind.code in
    record {
      few : l.stack.depth ≤ l.i;
      rest : I.items N l.self.values.now l.self.field (items_of l.entries l.variables) [] ≡ I.items N l.self.values.now (l.self.field + l.i) (items_of (drop l.i l.entries) (drop l.i l.variables)) (waiting l.stack);
    }
