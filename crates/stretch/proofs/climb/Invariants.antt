use Rattle.std.proofs.Common.{◌≡◌, ◌+◌, ◌≤◌, ◌++◌, length, take, Some}
use Rattle.std.specs.Iterator.Adapters.{zip_first, zip_second, enumerate_source, enumerate_count}
use Rattle.std.specs.Slice.Iter.{iter_rest}
use Rattle.motion.specs.Pairs.{numbers_of}
use Rattle.motion.specs.Flow as F
use Rattle.record.specs.Benches.{pairs_of}
use Rattle.stretch.proofs.climb.Given as goal

abbrev pub invariant-loop-i : goal.invariant-loop-i
invariant-loop-i g l =
    let N = numbers_of g.K.Kind.means g.K.Kind.code in
    let it = l.i-iterator in
    let ds = iter_rest (zip_first (enumerate_source it)) in
    let rs = iter_rest (zip_second (enumerate_source it)) in
    (goal.iterator-loop-i g).can_next it
    × (goal.iterator-loop-i g).is_finite it
    × (16 ≤ length l.pairs)
    × (enumerate_count it + length ds ≡ l.d.count)
    × (length rs ≡ length ds)
    × (F.climb N l.n l.k (pairs_of l.d) (pairs_of l.r) ≡ F.then (F.climb N l.n l.k ds rs) (λ qs. Some (take (enumerate_count it) l.pairs ++ qs)))
