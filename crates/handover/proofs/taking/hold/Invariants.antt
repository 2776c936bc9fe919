use Rattle.std.proofs.Common.{◌≡◌, ◌+◌, ◌++◌, length, take, drop}
use Rattle.handover.specs.Takes.{held_from}
use Rattle.std.specs.Result.{result_map_both}
use Rattle.handover.proofs.taking.hold.Given as goal

abbrev pub invariant-loop-i : goal.invariant-loop-i
invariant-loop-i g l =
    (held_from g.K.Kind.means g.K.Kind.code 6 l.fractions ≡ result_map_both (λ ps. take l.i-counter l.pairs ++ ps) (λ e. e) (held_from g.K.Kind.means g.K.Kind.code (l.i-counter + 6) (drop l.i-counter l.fractions)))
    × (length l.pairs ≡ 16)
