-- Requests K3 and K6, "per sensor its voter and held value", and behind them its odd channel and count: what a sensor is as items of an
-- image, their ranges, and the sensor that items are of. From the ranges alone each gives the other (proofs/Mirrors.antt); the rules that
-- an image must keep to beside them are the voter's specs/Counts.antt.
-- Assumes nothing.
use Rattle.std.specs.Prelude.{ℕ, ◌%◌, ◌≤◌, ◌<◌, List, [], ◌∷◌, ◌≡◌, length, get_or}
use Rattle.common.specs.Bits.{bit, is_one}
use Rattle.voter.specs.Voting.{sensor, value_of}
use Rattle.voter.specs.Numbers.{number_of, channels_at, last_number}
use Rattle.voter.specs.Counts.{last_channel, last_count}
use Rattle.voter.specs.declared.Voter.{Voter}

-- A sensor is so many items.
abbrev pub items_per_sensor : ℕ
items_per_sensor = 4

-- Its voter, held value, odd channel and count.
unfoldable pub sensor_items : Voter → List ℕ
sensor_items v = number_of v ∷ bit (value_of v) ∷ v.odd ∷ v.count ∷ []

-- Each item is from 0 to these.
abbrev pub sensor_tops : List ℕ
sensor_tops = last_number ∷ 1 ∷ last_channel ∷ last_count ∷ []

-- So many items, each in its range.
pub record SensorInRange (items : List ℕ) : Type 0 where
  pub long : length items ≡ items_per_sensor
  pub ranges : (k : ℕ) → k < items_per_sensor → get_or items k 0 ≤ get_or sensor_tops k 0

-- The sensor that items are of. (Odd channel and count are bytes: an item over 255 is read modulo 256.)
unfoldable pub sensor_in : List ℕ → Voter
sensor_in items = sensor (channels_at (get_or items 0 0)) (is_one (get_or items 1 0)) (get_or items 2 0 % 256) (get_or items 3 0 % 256)
