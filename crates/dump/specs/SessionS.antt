-- Request K2 on Session S: its dump, byte for byte. What is written of its trace is this, and this is what is read.
-- Assumes nothing.
use Rattle.std.specs.Prelude.{ℕ, List, [], ◌∷◌, ◌++◌}
use Prim.Native.String.{String}
use Rattle.common.specs.Ascii.{ascii}
use Rattle.dump.specs.Dumps.{line}

-- Lines, each with its LF.
unfoldable pub lines_of : List String → List ℕ
lines_of [] = []
lines_of (text ∷ texts) = line (ascii text) ++ lines_of texts

-- Its lines.
unfoldable pub session_lines : List String
session_lines =
    "$timescale 1 ms $end" ∷
    "$scope module rig $end" ∷
    "$var wire 1 ! general_EV $end" ∷
    "$var wire 1 \" close_EV $end" ∷
    "$var wire 1 # open_EV $end" ∷
    "$var wire 1 $ retract_EV $end" ∷
    "$var wire 1 % extend_EV $end" ∷
    "$var wire 1 & green $end" ∷
    "$var wire 1 ' orange $end" ∷
    "$var wire 1 ( red $end" ∷
    "$var wire 1 ) handle $end" ∷
    "$var wire 1 * analogical_switch $end" ∷
    "$var wire 1 + gear_extended_front $end" ∷
    "$var wire 1 , gear_extended_left $end" ∷
    "$var wire 1 - gear_extended_right $end" ∷
    "$var wire 1 . gear_retracted_front $end" ∷
    "$var wire 1 / gear_retracted_left $end" ∷
    "$var wire 1 0 gear_retracted_right $end" ∷
    "$var wire 1 1 gear_shock_absorber_front $end" ∷
    "$var wire 1 2 gear_shock_absorber_left $end" ∷
    "$var wire 1 3 gear_shock_absorber_right $end" ∷
    "$var wire 1 4 door_closed_front $end" ∷
    "$var wire 1 5 door_closed_left $end" ∷
    "$var wire 1 6 door_closed_right $end" ∷
    "$var wire 1 7 door_open_front $end" ∷
    "$var wire 1 8 door_open_left $end" ∷
    "$var wire 1 9 door_open_right $end" ∷
    "$var wire 1 : circuit_pressurized $end" ∷
    "$upscope $end" ∷
    "$enddefinitions $end" ∷
    "#0" ∷
    "$dumpvars" ∷
    "0!" ∷
    "0\"" ∷
    "0#" ∷
    "0$" ∷
    "0%" ∷
    "1&" ∷
    "0'" ∷
    "0(" ∷
    "1)" ∷
    "0*" ∷
    "1+" ∷
    "1," ∷
    "1-" ∷
    "0." ∷
    "0/" ∷
    "00" ∷
    "01" ∷
    "02" ∷
    "03" ∷
    "14" ∷
    "15" ∷
    "16" ∷
    "07" ∷
    "08" ∷
    "09" ∷
    "0:" ∷
    "$end" ∷
    "#150" ∷
    "1!" ∷
    "0)" ∷
    "#350" ∷
    "1#" ∷
    "#400" ∷
    "0#" ∷
    "1'" ∷
    "04" ∷
    "05" ∷
    "06" ∷
    "17" ∷
    "18" ∷
    "19" ∷
    "#450" ∷
    "1$" ∷
    "#550" ∷
    "0$" ∷
    "0&" ∷
    "1)" ∷
    "0+" ∷
    "0," ∷
    "0-" ∷
    "#650" ∷
    "1%" ∷
    []

unfoldable pub session_dump : List ℕ
session_dump = lines_of session_lines
