use Rattle.std.proofs.Common.{◌≡◌, ℕ, List, length}
use Rattle.std.specs.Iterator.Adapters.{zip_first, zip_second}
use Rattle.std.specs.Slice.Iter.{chunks_exact_rest, chunks_exact_size}
use Rattle.motion.specs.Chains.{touches}
use Rattle.entries.specs.Decoding.{parts_of, parts_in}
use Rattle.checker.specs.Chains.{Marks}
use Rattle.checker.proofs.chains.Level.touches.Given as goal

abbrev pub invariant-loop-part : goal.invariant-loop-part
invariant-loop-part l =
    let es = chunks_exact_rest (zip_first l.part-iterator) in
    let xs = chunks_exact_rest (zip_second l.part-iterator) in
    record {
      can : (goal.iterator-loop-part).can_next l.part-iterator;
      finite : (goal.iterator-loop-part).is_finite l.part-iterator;
      first_two : chunks_exact_size (zip_first l.part-iterator) ≡ 2;
      second_two : chunks_exact_size (zip_second l.part-iterator) ≡ 2;
      alike : length es ≡ length xs;
      touch : (level : List ℕ) → Marks l.self.marks level → touches level (parts_in l.parts) ≡ touches level (parts_of es xs);
    }
