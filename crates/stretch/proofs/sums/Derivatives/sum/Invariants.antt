use Rattle.std.proofs.Common.{◌≡◌}
use Rattle.std.specs.Iterator.Adapters.{zip_first, zip_second}
use Rattle.std.specs.Slice.Iter.{chunks_exact_rest, chunks_exact_size}
use Rattle.motion.specs.Pairs.{numbers_of}
use Rattle.motion.specs.Flow as F
use Rattle.entries.specs.Decoding.{parts_of, parts_in}
use Rattle.record.specs.Benches.{pairs_of}
use Rattle.stretch.proofs.sums.Derivatives.sum.Given as goal

abbrev pub invariant-loop-fields : goal.invariant-loop-fields
invariant-loop-fields g l =
    let N = numbers_of g.K.Kind.means g.K.Kind.code in
    let it = l.fields-iterator in
    let d = pairs_of l.self.values in
    (goal.iterator-loop-fields g).can_next it
    × (goal.iterator-loop-fields g).is_finite it
    × (chunks_exact_size (zip_first it) ≡ 2)
    × (chunks_exact_size (zip_second it) ≡ 2)
    × (F.sum N l.self.first d l.initial.acc (parts_in l.fn.parts) ≡ F.sum N l.self.first d l.acc (parts_of (chunks_exact_rest (zip_first it)) (chunks_exact_rest (zip_second it))))
