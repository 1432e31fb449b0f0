-- A sensor and its items (requests K3 and K6): from the ranges alone each gives the other. The layers above cite these names and never open the
-- rule.
-- Assumes nothing.
use Prim.Native.Nat.{ℕ, zero, suc, ◌%◌, ◌≤◌, ◌<◌}
use native.Mathlib.Nat.{mod-eq_of_lt}
use native.Mathlib.Omega.{arith}
use mathlib.Core.List.{List, [], ◌∷◌}
use mathlib.Core.Path.{◌≡◌, refl}
use lib.Dec.{lit<}
use lib.ListN.{length, get_or}
use Rattle.common.proofs.Bits.{one_of_bit, bit_of_one, bit_to_1}
use Rattle.voter.specs.Voting.{value_of}
use Rattle.voter.specs.Numbers.{number_of}
use Rattle.voter.specs.Counts.{CountInRange}
use Rattle.sensors.specs.Items.{items_per_sensor, sensor_items, sensor_tops, SensorInRange, sensor_in}
use Rattle.voter.specs.declared.Voter.{Voter}
use Rattle.voter.proofs.Numbering.{at_number, number_at, number_to_4}

-- A number that is a byte, as one.
in_a_byte : (n : ℕ) → n < 256 → n % 256 ≡ n
in_a_byte n h = mod-eq_of_lt h

-- ---- A sensor

-- A sensor has as many items as are said.
pub as_many_items : (v : Voter) → length (sensor_items v) ≡ items_per_sensor
unfolding sensor_items
as_many_items v = refl

-- The sensor of its items is that sensor, where odd channel and count are in their ranges, ..
pub sensor_mirror : (v : Voter) → CountInRange v → sensor_in (sensor_items v) ≡ v
unfolding sensor_in sensor_items number_of value_of
sensor_mirror v counted =
    rw (
      at_number v.channels,
      one_of_bit v.held,
      in_a_byte v.odd (omega (arith, counted.odd)),
      in_a_byte v.count (omega (arith, counted.count)),
    )

-- its items are in theirs, ..
pub items_in_range : (v : Voter) → CountInRange v → SensorInRange (sensor_items v)
unfolding sensor_items
items_in_range v counted = record { long = refl; ranges = each }
  where
    each : (k : ℕ) → k < items_per_sensor → get_or (sensor_items v) k 0 ≤ get_or sensor_tops k 0
    each zero h = number_to_4 v
    each (suc zero) h = bit_to_1 (value_of v)
    each (suc (suc zero)) h = omega (arith, counted.odd)
    each (suc (suc (suc zero))) h = omega (arith, counted.count)
    each (suc (suc (suc (suc k)))) h = absurd (omega arith)

-- .. and the items of the sensor of items in range are those items.
pub items_mirror : (items : List ℕ) → SensorInRange items → sensor_items (sensor_in items) ≡ items
unfolding sensor_in sensor_items number_of value_of
items_mirror [] h = absurd (omega (arith, h.long))
items_mirror (number ∷ []) h = absurd (omega (arith, h.long))
items_mirror (number ∷ held ∷ []) h = absurd (omega (arith, h.long))
items_mirror (number ∷ held ∷ odd ∷ []) h = absurd (omega (arith, h.long))
items_mirror (number ∷ held ∷ odd ∷ count ∷ []) h =
    rw (
      number_at number (h.ranges 0 (lit< tt)),
      bit_of_one held (h.ranges 1 (lit< tt)),
      in_a_byte odd (omega (arith, h.ranges 2 (lit< tt))),
      in_a_byte count (omega (arith, h.ranges 3 (lit< tt))),
    )
items_mirror (number ∷ held ∷ odd ∷ count ∷ item ∷ items) h = absurd (omega (arith, h.long))

-- ---- Items in their ranges are of a sensor whose odd channel and count are in theirs.

pub in_range_counts : (items : List ℕ) → SensorInRange items → CountInRange (sensor_in items)
unfolding sensor_in
in_range_counts items h =
    record { odd = omega (arith, h.ranges 2 (lit< tt)); count = omega (arith, h.ranges 3 (lit< tt)) }
