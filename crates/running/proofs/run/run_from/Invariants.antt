use Rattle.std.proofs.Common.{◌≡◌, ◌-◌}
use Rattle.motion.specs.Pairs.{numbers_of}
use Rattle.motion.specs.Machine as M
use Rattle.checker.specs.Scripts.{lines_in}
use Rattle.record.specs.Benches.{pairs_of}
use Rattle.running.specs.Steps.{seen_place}
use Rattle.running.proofs.run.run_from.Given as goal

abbrev pub invariant-loop-i : goal.invariant-loop-i
invariant-loop-i g l =
    let N = numbers_of g.K.Kind.means g.K.Kind.code in
    let all = lines_in l.start.script.now in
    (l.values.count ≡ l.start.values.count) ×
    (M.loop N all l.total l.allowance 0 (pairs_of l.start.values) l.start.ticks (seen_place l.start.standing)
    ≡ M.loop N all l.total (l.allowance - l.i) l.i (pairs_of l.values) l.ticks (seen_place l.standing))
