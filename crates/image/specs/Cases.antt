-- Requests K3 and K6, worked over the rules: the image of a fresh start item by item, in both forms, and what is given for an image that
-- differs from it in an item or two: both sides of each range, and each rule broken.
-- Assumes nothing.
use Rattle.std.specs.Prelude.{ℕ, ◌+◌, ◌*◌, List, [], ◌∷◌, ◌++◌, length, take, drop, set, replicate}
use Prim.Native.String.{String}
use Rattle.common.specs.Case.{Case}
use Rattle.controller.specs.Votes.{analogical_switch, circuit_pressurized}
use Rattle.controller.specs.Start.{fresh_of}
use Rattle.sensors.specs.Items.{items_per_sensor}
use Rattle.image.specs.Xdr.{bytes_of, items_in}
use Rattle.image.specs.Items.{first_order, item_count}
use Rattle.image.specs.Images.{image_of, save_of, loaded_at, refusal_of}

-- ---- Items by their places, counted from 0

abbrev pub voter_of : ℕ → ℕ
voter_of sensor = 1 + items_per_sensor * sensor

abbrev pub held_of : ℕ → ℕ
held_of sensor = 2 + items_per_sensor * sensor

abbrev pub odd_of : ℕ → ℕ
odd_of sensor = 3 + items_per_sensor * sensor

abbrev pub count_of : ℕ → ℕ
count_of sensor = 4 + items_per_sensor * sensor

-- Whether each order is on; its age stands next.
abbrev pub general_on : ℕ
general_on = first_order

abbrev pub close_on : ℕ
close_on = first_order + 2

abbrev pub open_on : ℕ
open_on = first_order + 4

abbrev pub extend_on : ℕ
extend_on = first_order + 8

abbrev pub extend_age : ℕ
extend_age = first_order + 9

abbrev pub handle_age : ℕ
handle_age = first_order + 10

abbrev pub doors : ℕ
doors = first_order + 11

abbrev pub gears : ℕ
gears = first_order + 12

abbrev pub cause : ℕ
cause = first_order + 13

-- Items with another at a place.
abbrev pub with : ℕ → ℕ → List ℕ → List ℕ
with at item items = set items at item

-- ---- Images

-- A fresh start at stamp 1,000, as Session S has it before its first row.
unfoldable pub fresh : List ℕ
fresh =
    -- last stamp
    1000 ∷
    -- per sensor its voter, held value, odd channel and count: handle, analogical_switch
    0 ∷ 1 ∷ 0 ∷ 0 ∷ 0 ∷ 0 ∷ 0 ∷ 0 ∷
    -- gear_extended
    0 ∷ 1 ∷ 0 ∷ 0 ∷ 0 ∷ 1 ∷ 0 ∷ 0 ∷ 0 ∷ 1 ∷ 0 ∷ 0 ∷
    -- gear_retracted
    0 ∷ 0 ∷ 0 ∷ 0 ∷ 0 ∷ 0 ∷ 0 ∷ 0 ∷ 0 ∷ 0 ∷ 0 ∷ 0 ∷
    -- gear_shock_absorber
    0 ∷ 0 ∷ 0 ∷ 0 ∷ 0 ∷ 0 ∷ 0 ∷ 0 ∷ 0 ∷ 0 ∷ 0 ∷ 0 ∷
    -- door_closed
    0 ∷ 1 ∷ 0 ∷ 0 ∷ 0 ∷ 1 ∷ 0 ∷ 0 ∷ 0 ∷ 1 ∷ 0 ∷ 0 ∷
    -- door_open
    0 ∷ 0 ∷ 0 ∷ 0 ∷ 0 ∷ 0 ∷ 0 ∷ 0 ∷ 0 ∷ 0 ∷ 0 ∷ 0 ∷
    -- circuit_pressurized
    0 ∷ 0 ∷ 0 ∷ 0 ∷
    -- general_EV, close_EV, open_EV, retract_EV, extend_EV: on and age
    0 ∷ 60000 ∷
    0 ∷ 60000 ∷
    0 ∷ 60000 ∷
    0 ∷ 60000 ∷
    0 ∷ 60000 ∷
    -- handle age; doors CLOSED; gears EXTENDED; no cause
    60000 ∷ 0 ∷ 2 ∷ 0 ∷
    []

-- The same in the old form, per sensor its voter and held value.
unfoldable pub old_fresh : List ℕ
old_fresh =
    1000 ∷
    0 ∷ 1 ∷ 0 ∷ 0 ∷
    -- gear_extended
    0 ∷ 1 ∷ 0 ∷ 1 ∷ 0 ∷ 1 ∷
    -- gear_retracted
    0 ∷ 0 ∷ 0 ∷ 0 ∷ 0 ∷ 0 ∷
    -- gear_shock_absorber
    0 ∷ 0 ∷ 0 ∷ 0 ∷ 0 ∷ 0 ∷
    -- door_closed
    0 ∷ 1 ∷ 0 ∷ 1 ∷ 0 ∷ 1 ∷
    -- door_open
    0 ∷ 0 ∷ 0 ∷ 0 ∷ 0 ∷ 0 ∷
    -- circuit_pressurized
    0 ∷ 0 ∷
    -- general_EV, close_EV, open_EV, retract_EV, extend_EV: on and age
    0 ∷ 60000 ∷
    0 ∷ 60000 ∷
    0 ∷ 60000 ∷
    0 ∷ 60000 ∷
    0 ∷ 60000 ∷
    -- handle age; doors CLOSED; gears EXTENDED; no cause
    60000 ∷ 0 ∷ 2 ∷ 0 ∷
    []

-- Doors OPENING, general_EV and open_EV on.
unfoldable pub opening : List ℕ
opening = with general_on 1 (with open_on 1 (with doors 1 fresh))

-- Doors OPEN, gears EXTENDING, general_EV and extend_EV on.
unfoldable pub extending : List ℕ
extending = with general_on 1 (with extend_on 1 (with doors 2 (with gears 1 fresh)))

-- The fresh start saved into a buffer of so many bytes: the number, and the buffer.
abbrev pub saved : ℕ → List ℕ
saved room = let answer = save_of (fresh_of 1000) (replicate room 7) in answer.0 ∷ answer.1

-- ---- The list

-- Items, and what is given for the image of them: 0 taken, 10, 11.
abbrev pub gives : String → List ℕ → ℕ → Case
gives name items refusal = record { name = name; gives = refusal_of (bytes_of items) ∷ []; wanted = refusal ∷ [] }

unfoldable pub image_cases : List Case
image_cases =
    record { name = "a fresh start"; gives = items_in (image_of (fresh_of 1000)); wanted = fresh } ∷
    record { name = "348 bytes"; gives = length (image_of (fresh_of 1000)) ∷ []; wanted = 348 ∷ [] } ∷
    record { name = "most significant byte first"; gives = take 4 (image_of (fresh_of 1000)); wanted = 0 ∷ 0 ∷ 3 ∷ 232 ∷ [] } ∷
    record { name = "an old image is 204 bytes"; gives = length (bytes_of old_fresh) ∷ []; wanted = 204 ∷ [] } ∷
    record { name = "and loads with both at 0"; gives = items_in (image_of (loaded_at 1000 (bytes_of old_fresh))); wanted = fresh } ∷
    record { name = "saving, 8: a byte short"; gives = saved 347; wanted = 8 ∷ replicate 347 7 } ∷
    record { name = "saving, the byte past it stays"; gives = saved 349; wanted = 0 ∷ (bytes_of fresh ++ 7 ∷ []) } ∷
    -- taken
    gives "a fresh start" fresh 0 ∷
    gives "doors OPENING, general_EV and open_EV on" opening 0 ∷
    gives "doors OPEN, gears EXTENDING, general_EV and extend_EV on" extending 0 ∷
    gives "channel 3 struck" (with (voter_of circuit_pressurized) 3 fresh) 0 ∷
    gives "a sensor invalid, cause 13" (with (voter_of analogical_switch) 4 (with cause 13 fresh)) 0 ∷
    gives "doors OPENING, general_EV off, cause 2" (with doors 1 (with cause 2 fresh)) 0 ∷
    gives "every item 0" (replicate item_count 0) 0 ∷
    gives "an old image" old_fresh 0 ∷
    gives "an old image, every item 0" (replicate 51 0) 0 ∷
    gives "channel 2 odd in 1 sample" (with (odd_of analogical_switch) 2 (with (count_of analogical_switch) 1 fresh)) 0 ∷
    gives "channel 3 odd in 2 samples" (with (odd_of circuit_pressurized) 3 (with (count_of circuit_pressurized) 2 fresh)) 0 ∷
    gives "channel 1 struck, the two differed in 2 samples" (with (voter_of circuit_pressurized) 1 (with (count_of circuit_pressurized) 2 fresh)) 0 ∷
    -- 11: a rule broken
    gives "gears EXTENDING, doors CLOSED" (with gears 1 fresh) 11 ∷
    gives "close_EV on, doors CLOSED" (with close_on 1 (with general_on 1 fresh)) 11 ∷
    gives "open_EV on, cause 2" (with cause 2 opening) 11 ∷
    gives "extend_EV on, general_EV off" (with general_on 0 extending) 11 ∷
    gives "doors OPENING, general_EV off, no cause" (with doors 1 fresh) 11 ∷
    gives "a sensor invalid, no cause" (with (voter_of analogical_switch) 4 fresh) 11 ∷
    gives "all valid, an odd channel without a count" (with (odd_of analogical_switch) 2 fresh) 11 ∷
    gives "all valid, a count without an odd channel" (with (count_of circuit_pressurized) 1 fresh) 11 ∷
    gives "one struck, an odd channel" (with (voter_of analogical_switch) 1 (with (odd_of analogical_switch) 2 (with (count_of analogical_switch) 1 fresh))) 11 ∷
    gives "invalid, an odd channel" (with (voter_of analogical_switch) 4 (with (odd_of analogical_switch) 2 (with cause 13 fresh))) 11 ∷
    gives "invalid, a count" (with (voter_of analogical_switch) 4 (with (count_of analogical_switch) 1 (with cause 13 fresh))) 11 ∷
    -- 10: length or range
    gives "a voter of 5" (with (voter_of analogical_switch) 5 fresh) 10 ∷
    gives "a held value of 2" (with (held_of analogical_switch) 2 fresh) 10 ∷
    gives "an odd channel of 4" (with (odd_of analogical_switch) 4 (with (count_of analogical_switch) 1 fresh)) 10 ∷
    gives "a count of 3" (with (odd_of analogical_switch) 2 (with (count_of analogical_switch) 3 fresh)) 10 ∷
    gives "an order that is on by 2" (with general_on 2 fresh) 10 ∷
    gives "an order's age of 60,001" (with extend_age 60001 fresh) 10 ∷
    gives "a handle age of 60,001" (with handle_age 60001 fresh) 10 ∷
    gives "doors of 4" (with doors 4 fresh) 10 ∷
    gives "gears of 4" (with gears 4 fresh) 10 ∷
    gives "cause 14" (with cause 14 fresh) 10 ∷
    gives "an item short" (drop 1 fresh) 10 ∷
    gives "an item more" (fresh ++ 0 ∷ []) 10 ∷
    record { name = "a byte short"; gives = refusal_of (drop 1 (bytes_of fresh)) ∷ []; wanted = 10 ∷ [] } ∷
    record { name = "a byte more"; gives = refusal_of (bytes_of fresh ++ 0 ∷ []) ∷ []; wanted = 10 ∷ [] } ∷
    record { name = "an old image, a byte short"; gives = refusal_of (drop 1 (bytes_of old_fresh)) ∷ []; wanted = 10 ∷ [] } ∷
    record { name = "an old image, a byte more"; gives = refusal_of (bytes_of old_fresh ++ 0 ∷ []) ∷ []; wanted = 10 ∷ [] } ∷
    record { name = "no byte"; gives = refusal_of [] ∷ []; wanted = 10 ∷ [] } ∷
    gives "an old image, a voter of 5" (with 1 5 old_fresh) 10 ∷
    gives "an old image, gears EXTENDING, doors CLOSED" (with 49 1 old_fresh) 11 ∷
    -- 10 before 11
    gives "gears EXTENDING with doors CLOSED, and a cause of 14" (with gears 1 (with cause 14 fresh)) 10 ∷
    []
