-- Items and controllers: from the ranges alone each gives the other. Of sensors, doors and gears only the laws that they promise are used.
-- Assumes nothing.
use Prim.Native.Nat.{ℕ, zero, suc, ◌+◌, ◌*◌, ◌-◌, ◌^◌}
use native.Mathlib.Omega.{arith}
use mathlib.Core.List.{List, [], ◌∷◌, ◌++◌, append_assoc}
use mathlib.Core.Path.{◌≡◌, refl, sym, subst, ◌∙◌, ap}
use lib.Dec.{T, leb, lit<}
use lib.ListN.{length, take, drop, take-append-drop, drop_of_length-le}
use lib.Seq.{take_at, drop_at, drop-cons, drop-drop}
use mir.Facts.{and_yes}
use Rattle.common.specs.Lists.{Each}
use Rattle.voter.specs.declared.Voter.{Voter}
use Rattle.voter.specs.Counts.{CountInRange}
use Rattle.sensors.specs.Items.{items_per_sensor, sensor_items, sensor_tops, sensor_in}
use Rattle.common.proofs.Bits.{one_of_bit, bit_of_one}
use Rattle.sensors.proofs.Mirrors.{as_many_items, sensor_mirror, in_range_counts, items_mirror as sensor_items_mirror}
use Rattle.sequence.proofs.Numbering.{doors_at_number, gears_at_number, number_at_doors, number_at_gears}
use Rattle.controller.specs.declared.Core.{Core}
use Rattle.controller.specs.declared.State.{State}
use Rattle.controller.specs.Start.{started_at}
use Rattle.image.specs.Items.{
  sensor_count,
  sensor_width,
  first_order,
  core_width,
  sensors_items,
  order_items,
  orders_items,
  rest_items,
  core_items,
  items_of,
  sensors_tops,
  core_tops,
  tops,
  within,
  sensors_in,
  item_at,
  core_in,
  state_in,
}
use Rattle.image.specs.Conditions.{CountsInRange}
use Rattle.image.proofs.Ranged.{UpTo, within_length, within_up_to, within_parts}
use Rattle.image.proofs.Strung.{sensors_items_length}

-- ---- From a controller and back

sensors_back : (voters : List Voter) (rest : List ℕ) → Each CountInRange voters → sensors_in (length voters) (sensors_items voters ++ rest) ≡ voters
unfolding sensors_items sensors_in
sensors_back [] rest counted = refl
sensors_back (v ∷ voters) rest counted =
    let others : List ℕ = sensors_items voters ++ rest in
    let long = as_many_items v in
    rw (append_assoc (sensor_items v) (sensors_items voters) rest, take_at (sensor_items v) others items_per_sensor long, drop_at (sensor_items v) others items_per_sensor long, sensor_mirror v counted.0, sensors_back voters rest counted.1)

core_back : (c : Core) → core_in (core_items c) ≡ c
unfolding core_items orders_items order_items rest_items
core_back c = simp (one_of_bit, doors_at_number, gears_at_number)

-- The items of a controller whose odd channels and counts are in their ranges are of that controller, at the new start stamp.
pub controller_back : (stamp : ℕ) (s : State) → length s.voters ≡ sensor_count → CountsInRange s → state_in stamp (items_of s) ≡ started_at stamp s
unfolding state_in items_of started_at
controller_back stamp s all counted =
    let core : List ℕ = core_items s.core in
    let long : length (sensors_items s.voters) ≡ sensor_width = omega (arith, sensors_items_length s.voters) in
    let voters : sensors_in sensor_count (sensors_items s.voters ++ core) ≡ s.voters =
    subst (λ (n : ℕ). sensors_in n (sensors_items s.voters ++ core) ≡ s.voters) all (sensors_back s.voters core counted)
    in
    rw (voters, drop_at (sensors_items s.voters) core sensor_width long, core_back s.core)

-- ---- From items and back

-- So many sensors that items in their ranges are of have those items, and what stands behind them is in its ranges.
sensors_mirror : (sensors : ℕ) (rest items : List ℕ) → T (within (sensors_tops sensors ++ rest) items)
    → (sensors_items (sensors_in sensors items) ++ drop (items_per_sensor * sensors) items ≡ items) ×
    T (within rest (drop (items_per_sensor * sensors) items))
unfolding sensors_tops sensors_in sensors_items
sensors_mirror zero rest items h = (refl, h)
sensors_mirror (suc sensors) rest items h =
    let parts = within_parts sensor_tops (sensors_tops sensors ++ rest) items (rw append_assoc at h) in
    let one : List ℕ = take items_per_sensor items in
    let others : List ℕ = drop items_per_sensor items in
    let more = sensors_mirror sensors rest others parts.1 in
    let own : sensor_items (sensor_in one) ≡ one =
    sensor_items_mirror one (record { long = within_length sensor_tops one parts.0; ranges = within_up_to sensor_tops one parts.0 })
    in
    let place : items_per_sensor + items_per_sensor * sensors ≡ items_per_sensor * suc sensors = omega arith in
    let behind : drop (items_per_sensor * suc sensors) items ≡ drop (items_per_sensor * sensors) others =
    ap (λ (n : ℕ). drop n items) (sym place) ∙ sym (drop-drop (items_per_sensor * sensors) items_per_sensor items)
    in (
      rw (own, behind, append_assoc one (sensors_items (sensors_in sensors others)) (drop (items_per_sensor * sensors) others), more.0)
          (take-append-drop items_per_sensor items),
      rw behind more.1,
    )

-- And their odd channels and counts are in their ranges.
sensors_counted : (sensors : ℕ) (rest items : List ℕ) → T (within (sensors_tops sensors ++ rest) items) → Each CountInRange (sensors_in sensors items)
unfolding sensors_tops sensors_in
sensors_counted zero rest items h = tt
sensors_counted (suc sensors) rest items h =
    let parts = within_parts sensor_tops (sensors_tops sensors ++ rest) items (rw append_assoc at h) in
    let one : List ℕ = take items_per_sensor items in (
      in_range_counts one (record { long = within_length sensor_tops one parts.0; ranges = within_up_to sensor_tops one parts.0 }),
      sensors_counted sensors rest (drop items_per_sensor items) parts.1,
    )

-- So many items from a place on.
items_from : ℕ → ℕ → List ℕ → List ℕ
items_from zero k items = []
items_from (suc n) k items = item_at items k ∷ items_from n (suc k) items

each_item : (n k : ℕ) (items : List ℕ) → length items ≡ n + k → drop k items ≡ items_from n k items
unfolding items_from
each_item zero k items e = drop_of_length-le items {i = k} (omega arith)
each_item (suc n) k items e =
    drop-cons items k 0 (omega arith) ∙ ap (λ (rest : List ℕ). item_at items k ∷ rest) (each_item n (suc k) items (omega arith))

core_mirror : (items : List ℕ) → T (within core_tops items) → core_items (core_in items) ≡ items
unfolding core_items orders_items order_items rest_items core_tops items_from
core_mirror items h =
    let up_to : UpTo core_tops items = within_up_to core_tops items h in
    rw (
      bit_of_one (item_at items 0) (up_to 0 (lit< tt)),
      bit_of_one (item_at items 2) (up_to 2 (lit< tt)),
      bit_of_one (item_at items 4) (up_to 4 (lit< tt)),
      bit_of_one (item_at items 6) (up_to 6 (lit< tt)),
      bit_of_one (item_at items 8) (up_to 8 (lit< tt)),
      number_at_doors (item_at items 11) (up_to 11 (lit< tt)),
      number_at_gears (item_at items 12) (up_to 12 (lit< tt)),
    )
    (sym (each_item core_width 0 items (within_length core_tops items h)))

pub counts_within : (items : List ℕ) → T (within tops items) → Each CountInRange (sensors_in sensor_count (drop 1 items))
unfolding tops within
counts_within [] h = absurd h
counts_within (stamp ∷ items) h = sensors_counted sensor_count core_tops items (and_yes (leb stamp (2 ^ 32 - 1)) _ h).1

-- The items of the core, in their ranges.
pub core_within : (items : List ℕ) → T (within tops items) → T (within core_tops (drop first_order items))
unfolding tops within
core_within [] h = absurd h
core_within (stamp ∷ items) h = (sensors_mirror sensor_count core_tops items (and_yes (leb stamp (2 ^ 32 - 1)) _ h).1).1

-- The controller that items in their ranges are of has those items, and its own stamp.
pub items_mirror : (stamp : ℕ) (items : List ℕ) → T (within tops items) → items_of (state_in stamp items) ≡ stamp ∷ drop 1 items
unfolding state_in items_of tops within
items_mirror stamp [] h = absurd h
items_mirror stamp (own ∷ items) h =
    let parts = sensors_mirror sensor_count core_tops items (and_yes (leb own (2 ^ 32 - 1)) _ h).1 in
    rw (core_mirror (drop sensor_width items) parts.1, parts.0)
