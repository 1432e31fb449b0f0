-- The words and names by which sensors, orders, lamps, doors, gears, handle, voters and causes are written, for every program.
-- Assumes nothing.
use Rattle.std.specs.Prelude.{ℕ, List, [], ◌∷◌, ◌++◌, get_or}
use Rattle.common.specs.Ascii.{ascii}
use Rattle.sequence.specs.declared.Aim.{Aim}
use Rattle.sequence.specs.declared.Aim.TheVariants.{ToRetracted, ToExtended}
use Rattle.sequence.specs.declared.Doors.{Doors}
use Rattle.sequence.specs.declared.Doors.TheVariants.{Closed, Opening, Open, Closing}
use Rattle.sequence.specs.declared.Gears.{Gears}
use Rattle.sequence.specs.declared.Gears.TheVariants.{Retracted, Extending, Extended, Retracting}
use Rattle.names.specs.declared.tables.Kind.{Kind}
use Rattle.names.specs.declared.tables.Kind.TheVariants.{Sensor, Order, Lamp, Voter, Cause}

-- The entry of a list of words at a place; past the last it is empty.
abbrev pub entry : List (List ℕ) → ℕ → List ℕ
entry list k = get_or list k []

-- ---- Names

-- A name with `_front`, `_left`, `_right`.
abbrev pub front_left_right : List ℕ → List (List ℕ)
front_left_right name = (name ++ ascii "_front") ∷ (name ++ ascii "_left") ∷ (name ++ ascii "_right") ∷ []

-- Document 01, "The sample": the 18 sensors, in its order.
unfoldable pub sensor_names : List (List ℕ)
sensor_names =
    ascii "handle" ∷ ascii "analogical_switch" ∷
    (front_left_right (ascii "gear_extended") ++ front_left_right (ascii "gear_retracted") ++
    front_left_right (ascii "gear_shock_absorber") ++ front_left_right (ascii "door_closed") ++
    front_left_right (ascii "door_open") ++ ascii "circuit_pressurized" ∷ [])

-- Document 01, "Orders".
abbrev pub general_name : List ℕ
general_name = ascii "general_EV"

abbrev pub closes_name : List ℕ
closes_name = ascii "close_EV"

abbrev pub opens_name : List ℕ
opens_name = ascii "open_EV"

abbrev pub retracts_name : List ℕ
retracts_name = ascii "retract_EV"

abbrev pub extends_name : List ℕ
extends_name = ascii "extend_EV"

-- The five orders, as in the output row.
unfoldable pub order_names : List (List ℕ)
order_names = general_name ∷ closes_name ∷ opens_name ∷ retracts_name ∷ extends_name ∷ []

-- The three lamps, as in the output row.
unfoldable pub lamp_names : List (List ℕ)
lamp_names = ascii "green" ∷ ascii "orange" ∷ ascii "red" ∷ []

-- ---- Words

-- Document 01, "Sequence": doors and gears.
abbrev pub doors_word : Doors → List ℕ
doors_word Closed = ascii "CLOSED"
doors_word Opening = ascii "OPENING"
doors_word Open = ascii "OPEN"
doors_word Closing = ascii "CLOSING"

abbrev pub gears_word : Gears → List ℕ
gears_word Retracted = ascii "RETRACTED"
gears_word Extending = ascii "EXTENDING"
gears_word Extended = ascii "EXTENDED"
gears_word Retracting = ascii "RETRACTING"

-- The handle that has an aim.
abbrev pub handle_word : Aim → List ℕ
handle_word ToRetracted = ascii "up"
handle_word ToExtended = ascii "down"

-- Request K3: a voter by its number.
unfoldable pub voter_words : List (List ℕ)
voter_words =
    ascii "all channels valid" ∷
    ascii "channel 1 struck" ∷
    ascii "channel 2 struck" ∷
    ascii "channel 3 struck" ∷
    ascii "invalid" ∷
    []

-- Request K3: a cause by its number, with 0 for none (document 01's table of the monitors).
unfoldable pub cause_words : List (List ℕ)
cause_words =
    ascii "none" ∷
    ascii "1, open_EV on for 7,000 ms or more, some door seen closed" ∷
    ascii "2, open_EV on for 7,000 ms or more, not all doors seen open" ∷
    ascii "3, close_EV on for 7,000 ms or more, some door seen open" ∷
    ascii "4, close_EV on for 7,000 ms or more, not all doors seen closed" ∷
    ascii "5, retract_EV on for 7,000 ms or more, some gear seen extended" ∷
    ascii "6, retract_EV on for 10,000 ms or more, not all gears seen retracted" ∷
    ascii "7, extend_EV on for 7,000 ms or more, some gear seen retracted" ∷
    ascii "8, extend_EV on for 10,000 ms or more, not all gears seen extended" ∷
    ascii "9, general_EV on for 2,000 ms or more, circuit not pressurized" ∷
    ascii "10, general_EV off for 10,000 ms or more, circuit pressurized" ∷
    ascii "11, handle age 1,000 to 19,999 ms, switch open" ∷
    ascii "12, handle age 21,500 ms or more, switch closed" ∷
    ascii "13, some sensor invalid" ∷
    []

-- ---- Lists

-- The words of a list.
abbrev pub words_of : Kind → List (List ℕ)
words_of Sensor = sensor_names
words_of Order = order_names
words_of Lamp = lamp_names
words_of Voter = voter_words
words_of Cause = cause_words
