-- Requests K3 and K6: the controller as items of the new form, and the controller that items are of. Each is the mirror of the other. What a
-- sensor is as items is `Rattle.sensors.specs.Items`; here they are strung over the eighteen sensors.
-- Assumes nothing.
use Rattle.std.specs.Prelude.{ℕ, zero, suc, ◌+◌, ◌*◌, ◌-◌, ◌^◌, Bool, true, false, ◌&&◌, List, [], ◌∷◌, ◌++◌, leb, get_or, take, drop}
use Rattle.common.specs.Bits.{bit, is_one}
use Rattle.forms.specs.Forms.{sensors as eighteen}
use Rattle.voter.specs.declared.Voter.{Voter}
use Rattle.sensors.specs.Items.{items_per_sensor, sensor_items, sensor_tops, sensor_in}
use Rattle.sequence.specs.Moves.{place}
use Rattle.sequence.specs.Numbers.{doors_number, gears_number, doors_at, gears_at, last_number as last_place}
use Rattle.orders.specs.declared.Order.{Order}
use Rattle.orders.specs.declared.Orders.{Orders}
use Rattle.orders.specs.Timing.{order, oldest}
use Rattle.controller.specs.declared.Core.{Core}
use Rattle.controller.specs.declared.State.{State}

-- ---- How many there are

-- Sensors: 18.
abbrev pub sensor_count : ℕ
sensor_count = eighteen

-- Items of all sensors; they stand behind the last stamp.
abbrev pub sensor_width : ℕ
sensor_width = items_per_sensor * sensor_count

-- The place of the first order's items, counted from 0.
abbrev pub first_order : ℕ
first_order = 1 + sensor_width

-- Items of the five orders, on and age, and handle age, doors, gears, cause.
abbrev pub core_width : ℕ
core_width = 5 * 2 + 4

-- Items in all: 87.
abbrev pub item_count : ℕ
item_count = first_order + core_width

-- ---- The items of a controller

-- The controller that has these parts.
abbrev pub state_of : ℕ → List Voter → Core → State
state_of stamp voters core = record { stamp = stamp; voters = voters; core = core }

-- One sensor after the other.
unfoldable pub sensors_items : List Voter → List ℕ
sensors_items [] = []
sensors_items (v ∷ vs) = sensor_items v ++ sensors_items vs

-- Per order on and age.
unfoldable pub order_items : Order → List ℕ
order_items o = bit o.on ∷ o.age ∷ []

-- The orders, as in the output row.
unfoldable pub orders_items : Orders → List ℕ
orders_items os =
    order_items os.general ++
    order_items os.closes ++
    order_items os.opens ++
    order_items os.retracts ++
    order_items os.extends

-- Handle age, doors, gears, cause.
unfoldable pub rest_items : Core → List ℕ
rest_items c = c.since ∷ doors_number c.place.doors ∷ gears_number c.place.gears ∷ c.cause ∷ []

unfoldable pub core_items : Core → List ℕ
core_items c = orders_items c.orders ++ rest_items c

-- Last stamp; the sensors; the rest.
unfoldable pub items_of : State → List ℕ
items_of s = s.stamp ∷ (sensors_items s.voters ++ core_items s.core)

-- ---- The range of each item, from 0 to these

-- Of so many sensors.
unfoldable pub sensors_tops : ℕ → List ℕ
sensors_tops zero = []
sensors_tops (suc sensors) = sensor_tops ++ sensors_tops sensors

abbrev pub last_cause : ℕ
last_cause = 13

unfoldable pub core_tops : List ℕ
core_tops =
    -- general_EV, close_EV, open_EV, retract_EV, extend_EV: on, and age to 60,000
    1 ∷ oldest ∷
    1 ∷ oldest ∷
    1 ∷ oldest ∷
    1 ∷ oldest ∷
    1 ∷ oldest ∷
    -- handle age, doors, gears, cause
    oldest ∷ last_place ∷ last_place ∷ last_cause ∷
    []

-- The stamp may be any that 32 bits hold.
unfoldable pub tops : List ℕ
tops = (2 ^ 32 - 1) ∷ (sensors_tops sensor_count ++ core_tops)

-- There are as many items as ranges, and each is in its range.
unfoldable pub within : List ℕ → List ℕ → Bool
within [] [] = true
within [] (item ∷ items) = false
within (top ∷ more) [] = false
within (top ∷ more) (item ∷ items) = leb item top && within more items

-- ---- The controller that items are of

-- So many sensors, one after the other.
unfoldable pub sensors_in : ℕ → List ℕ → List Voter
sensors_in zero items = []
sensors_in (suc sensors) items = sensor_in (take items_per_sensor items) ∷ sensors_in sensors (drop items_per_sensor items)

-- The item at a place, counted from 0.
abbrev pub item_at : List ℕ → ℕ → ℕ
item_at items k = get_or items k 0

-- Two items for each order, and four more.
abbrev pub core_in : List ℕ → Core
core_in items =
    record {
      orders =
          record {
            general = order (is_one (item_at items 0)) (item_at items 1);
            closes = order (is_one (item_at items 2)) (item_at items 3);
            opens = order (is_one (item_at items 4)) (item_at items 5);
            retracts = order (is_one (item_at items 6)) (item_at items 7);
            extends = order (is_one (item_at items 8)) (item_at items 9);
          };
      since = item_at items 10;
      place = place (doors_at (item_at items 11)) (gears_at (item_at items 12));
      cause = item_at items 13;
    }

-- Loading takes a new start stamp, and the image's own is left.
unfoldable pub state_in : ℕ → List ℕ → State
state_in stamp items = state_of stamp (sensors_in sensor_count (drop 1 items)) (core_in (drop first_order items))
