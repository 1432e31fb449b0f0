-- Sensors' items strung one after the other: how many there are, and which stands at a place; and so of their ranges.
-- Assumes nothing.
use Prim.Native.Nat.{ℕ, zero, suc, ◌+◌, ◌*◌, ◌-◌, ◌/◌, ◌%◌, ◌^◌, ◌<◌, ◌≤◌}
use native.Mathlib.Omega.{arith}
use mathlib.Core.List.{List, [], ◌∷◌, ◌++◌}
use mathlib.Core.Path.{◌≡◌, refl, sym, ap, ◌∙◌}
use lib.ListN.{length, get_or, take, drop, length-append, get_or-append}
use lib.Seq.{get_or-append-add, drop-drop}
use Rattle.voter.specs.declared.Voter.{Voter}
use Rattle.sensors.specs.Items.{items_per_sensor, sensor_items, sensor_tops, sensor_in}
use Rattle.sensors.proofs.Mirrors.{as_many_items}
use Rattle.controller.specs.declared.State.{State}
use Rattle.image.specs.Items.{
  sensor_count,
  sensor_width,
  first_order,
  item_count,
  sensors_items,
  order_items,
  orders_items,
  rest_items,
  core_items,
  items_of,
  sensors_tops,
  core_tops,
  tops,
  item_at,
  sensors_in,
}

-- ---- How many

pub sensors_items_length : (voters : List Voter) → length (sensors_items voters) ≡ items_per_sensor * length voters
unfolding sensors_items
sensors_items_length [] = refl
sensors_items_length (v ∷ voters) =
    omega (arith, length-append (sensor_items v) (sensors_items voters), as_many_items v, sensors_items_length voters)

pub items_of_length : (s : State) → length s.voters ≡ sensor_count → length (items_of s) ≡ item_count
unfolding items_of core_items orders_items order_items rest_items
items_of_length s all =
    omega (arith, length-append (sensors_items s.voters) (core_items s.core), sensors_items_length s.voters)

sensors_tops_length : length (sensors_tops sensor_count) ≡ sensor_width
unfolding sensors_tops
sensors_tops_length = refl

pub tops_length : length tops ≡ item_count
unfolding tops sensors_tops core_tops
tops_length = refl

pub sensors_length : (sensors : ℕ) (items : List ℕ) → length (sensors_in sensors items) ≡ sensors
unfolding sensors_in
sensors_length zero items = refl
sensors_length (suc sensors) items = ap suc (sensors_length sensors (drop items_per_sensor items))

-- ---- Sensor i, and item j of it

-- The items of one sensor, and those of the others behind them.
module _ (one others : List ℕ) (long : length one ≡ items_per_sensor) (j : ℕ) where
  of_the_first : j < items_per_sensor → get_or (one ++ others) (items_per_sensor * 0 + j) 0 ≡ get_or one j 0
  of_the_first h =
      let place : items_per_sensor * 0 + j ≡ j = omega arith in
      ap (λ (k : ℕ). get_or (one ++ others) k 0) place ∙ get_or-append one others 0 j (omega arith)

  of_the_others : (i : ℕ) → get_or (one ++ others) (items_per_sensor * suc i + j) 0 ≡ get_or others (items_per_sensor * i + j) 0
  of_the_others i =
      let place : items_per_sensor * suc i + j ≡ length one + (items_per_sensor * i + j) = omega arith in
      ap (λ (k : ℕ). get_or (one ++ others) k 0) place ∙ get_or-append-add one others (items_per_sensor * i + j) 0

strung_top : (sensors i j : ℕ) → i < sensors → j < items_per_sensor
    → get_or (sensors_tops sensors) (items_per_sensor * i + j) 0 ≡ get_or sensor_tops j 0
unfolding sensors_tops
strung_top zero i j h less = absurd (omega arith)
strung_top (suc sensors) zero j h less = of_the_first sensor_tops (sensors_tops sensors) refl j less
strung_top (suc sensors) (suc i) j h less =
    of_the_others sensor_tops (sensors_tops sensors) refl j i ∙ strung_top sensors i j (omega arith) less

pub strung_sensor : (sensors i : ℕ) (items : List ℕ) (d : Voter) → i < sensors
    → get_or (sensors_in sensors items) i d ≡ sensor_in (take items_per_sensor (drop (items_per_sensor * i) items))
unfolding sensors_in
strung_sensor zero i items d h = absurd (omega arith)
strung_sensor (suc sensors) zero items d h = refl
strung_sensor (suc sensors) (suc i) items d h =
    let place : items_per_sensor + items_per_sensor * i ≡ items_per_sensor * suc i = omega arith in
    strung_sensor sensors i (drop items_per_sensor items) d (omega arith)
    ∙ ap (λ (l : List ℕ). sensor_in (take items_per_sensor l))
    (drop-drop (items_per_sensor * i) items_per_sensor items ∙ ap (λ (n : ℕ). drop n items) place)

-- ---- Item k: behind the stamp those of the sensors, then those of the core

module _ (stamp : ℕ) (sensors core : List ℕ) (long : length sensors ≡ sensor_width) (k : ℕ) where
  of_sensor : (each : ℕ → List ℕ)
      → ((i j : ℕ) → i < sensor_count → j < items_per_sensor → get_or sensors (items_per_sensor * i + j) 0 ≡ get_or (each i) j 0)
      → 1 ≤ k → k < first_order
      → get_or (each ((k - 1) / items_per_sensor)) ((k - 1) % items_per_sensor) 0 ≡ get_or (stamp ∷ (sensors ++ core)) k 0
  of_sensor each strung low high =
      let i : ℕ = (k - 1) / items_per_sensor in
      let j : ℕ = (k - 1) % items_per_sensor in
      let place : k ≡ suc (items_per_sensor * i + j) = omega arith in
      sym
      (ap (λ (n : ℕ). get_or (stamp ∷ (sensors ++ core)) n 0) place
      ∙ get_or-append sensors core 0 (items_per_sensor * i + j) (omega arith)
      ∙ strung i j (omega arith) (omega arith))

  of_core : first_order ≤ k → get_or core (k - first_order) 0 ≡ get_or (stamp ∷ (sensors ++ core)) k 0
  of_core h =
      let place : k ≡ suc (length sensors + (k - first_order)) = omega arith in
      sym (ap (λ (n : ℕ). get_or (stamp ∷ (sensors ++ core)) n 0) place ∙ get_or-append-add sensors core (k - first_order) 0)

-- Of the ranges.
pub sensor_top : (k : ℕ) → 1 ≤ k → k < first_order → get_or sensor_tops ((k - 1) % items_per_sensor) 0 ≡ item_at tops k
unfolding tops
sensor_top k =
    of_sensor (2 ^ 32 - 1) (sensors_tops sensor_count) core_tops sensors_tops_length k (λ i. sensor_tops) (strung_top sensor_count)

pub core_top : (k : ℕ) → first_order ≤ k → get_or core_tops (k - first_order) 0 ≡ item_at tops k
unfolding tops
core_top k = of_core (2 ^ 32 - 1) (sensors_tops sensor_count) core_tops sensors_tops_length k
