-- `image::is_blank` meets its contract: what is still to come stays the answer.
-- Assumes nothing.
use Rattle.std.proofs.Common.{◌≡◌}
use Rattle.std.specs.Slice.Iter.{chunks_exact_rest, chunks_exact_size}
use Rattle.image.specs.Faults.{is_blank}
use Rattle.image.proofs.is_blank.Given as goal

abbrev pub invariant-loop-bytes : goal.invariant-loop-bytes
invariant-loop-bytes l =
    (goal.iterator-loop-bytes).can_next l.bytes-iterator ×
    (goal.iterator-loop-bytes).is_finite l.bytes-iterator ×
    (chunks_exact_size l.bytes-iterator ≡ 4) ×
    (is_blank l.image ≡ is_blank (chunks_exact_rest l.bytes-iterator))
