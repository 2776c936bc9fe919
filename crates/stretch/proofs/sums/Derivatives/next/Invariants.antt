use Rattle.std.proofs.Common.{◌≡◌, ◌-◌, ◌++◌, length, take, Some}
use Rattle.motion.specs.Pairs.{numbers_of}
use Rattle.motion.specs.Flow as F
use Rattle.record.specs.Benches.{pairs_of}
use Rattle.stretch.specs.Flows.{rates_in}
use Rattle.stretch.proofs.sums.Derivatives.next.Given as goal

abbrev pub invariant-loop-x : goal.invariant-loop-x
invariant-loop-x g l =
    let N = numbers_of g.K.Kind.means g.K.Kind.code in
    let next = F.next N l.self.first (rates_in l.rates) (pairs_of l.self.values) in
    record {
      room : length l.pair-items ≡ l.count;
      rest : next 0 l.count ≡ F.then (next l.x (l.count - l.x)) (λ qs. Some (take l.x l.pair-items ++ qs));
    }
