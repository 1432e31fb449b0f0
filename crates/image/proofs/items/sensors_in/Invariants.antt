-- `image::items::sensors_in` meets its contract: after i turns the first i sensors are those of the image.
-- Assumes nothing.
use Rattle.std.proofs.Common.{◌≡◌, ℕ, List, length, drop}
use lib.Seq.{paste}
use Rattle.voter.specs.declared.Voter.{Voter}
use Rattle.image.specs.Xdr.{items_in}
use Rattle.image.specs.Items.{sensor_count, sensors_in}
use Rattle.image.proofs.items.sensors_in.Given as goal

-- The sensors that the image has.
abbrev pub theirs : List ℕ → List Voter
theirs image = sensors_in sensor_count (drop 1 (items_in image))

abbrev pub invariant-loop-i : goal.invariant-loop-i
invariant-loop-i l =
    (length l.initial.voter-items ≡ sensor_count) × (length l.voter-items ≡ sensor_count) × (l.voter-items ≡ paste l.initial.voter-items 0 (theirs l.image) l.i)
