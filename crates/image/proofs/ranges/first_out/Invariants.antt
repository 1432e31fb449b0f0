-- `image::ranges::first_out` meets its contract: the items that were looked at are in their ranges, and are so many.
-- Assumes nothing.
use Rattle.std.proofs.Common.{◌≡◌, ◌+◌, length, drop}
use Rattle.image.specs.Xdr.{items_in}
use Rattle.image.specs.Items.{item_count, tops}
use Rattle.image.specs.Faults.{first_out}
use Rattle.image.proofs.ranges.first_out.Given as goal

abbrev pub invariant-loop-k : goal.invariant-loop-k
invariant-loop-k l =
    (length (items_in l.new) ≡ item_count) × (first_out tops (items_in l.new) ≡ l.k + first_out (drop l.k tops) (drop l.k (items_in l.new)))
