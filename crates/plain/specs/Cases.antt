-- Requests K3 and K6: the lines that must be shown of a fresh start, and of sensors at which a count runs.
-- Assumes nothing.
use Rattle.std.specs.Prelude.{ℕ, true, List, [], ◌∷◌, ◌++◌}
use Prim.Native.String.{String}
use Rattle.common.specs.Ascii.{ascii, lf}
use Rattle.common.specs.Case.{Case}
use Rattle.controller.specs.Start.{fresh_of}
use Rattle.voter.specs.declared.Channels.{Channels}
use Rattle.voter.specs.declared.Channels.TheVariants.{All, Without1, Without3, Nothing}
use Rattle.voter.specs.Voting.{sensor}
use Rattle.plain.specs.Plain.{of_sensor, plain_of}

-- Lines, each with its LF.
unfoldable pub lines_of : List String → List ℕ
lines_of [] = []
lines_of (text ∷ texts) = ascii text ++ lf ∷ lines_of texts

-- A fresh start at 1,000.
unfoldable pub fresh_lines : List String
fresh_lines =
    "last stamp: 1000" ∷
    "handle: all channels valid, held 1" ∷
    "analogical_switch: all channels valid, held 0" ∷
    "gear_extended_front: all channels valid, held 1" ∷
    "gear_extended_left: all channels valid, held 1" ∷
    "gear_extended_right: all channels valid, held 1" ∷
    "gear_retracted_front: all channels valid, held 0" ∷
    "gear_retracted_left: all channels valid, held 0" ∷
    "gear_retracted_right: all channels valid, held 0" ∷
    "gear_shock_absorber_front: all channels valid, held 0" ∷
    "gear_shock_absorber_left: all channels valid, held 0" ∷
    "gear_shock_absorber_right: all channels valid, held 0" ∷
    "door_closed_front: all channels valid, held 1" ∷
    "door_closed_left: all channels valid, held 1" ∷
    "door_closed_right: all channels valid, held 1" ∷
    "door_open_front: all channels valid, held 0" ∷
    "door_open_left: all channels valid, held 0" ∷
    "door_open_right: all channels valid, held 0" ∷
    "circuit_pressurized: all channels valid, held 0" ∷
    "general_EV: off, age 60000 ms" ∷
    "close_EV: off, age 60000 ms" ∷
    "open_EV: off, age 60000 ms" ∷
    "retract_EV: off, age 60000 ms" ∷
    "extend_EV: off, age 60000 ms" ∷
    "handle age: 60000 ms" ∷
    "doors: CLOSED" ∷
    "gears: EXTENDED" ∷
    "cause: none" ∷
    []

unfoldable pub fresh_start : Case
fresh_start = record { name = "A fresh start"; gives = plain_of (fresh_of 1000); wanted = lines_of fresh_lines }

-- A sensor with these channels, which holds 1.
abbrev pub tells : String → Channels → ℕ → ℕ → String → Case
tells name channels odd count wanted = record { name = name; gives = of_sensor (sensor channels true odd count); wanted = ascii wanted }

unfoldable pub sensor_cases : List Case
sensor_cases =
    fresh_start ∷
    tells "an odd channel, count 1" All 2 1 "all channels valid, held 1, channel 2 odd in 1 sample" ∷
    tells "an odd channel, count 2" All 3 2 "all channels valid, held 1, channel 3 odd in 2 samples" ∷
    tells "two that differed once" Without3 0 1 "channel 3 struck, held 1, the two differed in 1 sample" ∷
    tells "two that differed twice" Without1 0 2 "channel 1 struck, held 1, the two differed in 2 samples" ∷
    tells "none struck, no count" All 0 0 "all channels valid, held 1" ∷
    tells "invalid" Nothing 0 0 "invalid, held 1" ∷
    []
