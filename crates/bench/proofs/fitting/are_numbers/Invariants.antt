use Rattle.std.proofs.Common.{◌≡◌, drop}
use Rattle.motion.specs.Pairs.{numbers_of}
use Rattle.motion.specs.Fitting.{all_numbers}
use Rattle.bench.proofs.fitting.are_numbers.Given as goal

abbrev pub invariant-loop-pair : goal.invariant-loop-pair
invariant-loop-pair g l = let N = numbers_of g.K.Kind.means g.K.Kind.code in all_numbers N l.pairs ≡ all_numbers N (drop l.pair-index l.pairs)
