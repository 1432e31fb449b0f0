-- Request K2 on Session S: the sheet that must be written of its dump, row by row. And an input that is no dump.
-- Assumes nothing.
use Rattle.std.specs.Prelude.{ℕ, List, [], ◌∷◌, ◌++◌, map}
use Prim.Native.String.{String}
use Rattle.common.specs.Ascii.{ascii, lf, ended}

-- The sheet: its header, and the seven times at which something is written.
unfoldable pub session_rows : List String
session_rows =
    "time,general_EV,close_EV,open_EV,retract_EV,extend_EV,green,orange,red,handle,analogical_switch,gear_extended_front,gear_extended_left,gear_extended_right,gear_retracted_front,gear_retracted_left,gear_retracted_right,gear_shock_absorber_front,gear_shock_absorber_left,gear_shock_absorber_right,door_closed_front,door_closed_left,door_closed_right,door_open_front,door_open_left,door_open_right,circuit_pressurized" ∷
    "0,0,0,0,0,0,1,0,0,1,0,1,1,1,0,0,0,0,0,0,1,1,1,0,0,0,0" ∷
    "150,1,0,0,0,0,1,0,0,0,0,1,1,1,0,0,0,0,0,0,1,1,1,0,0,0,0" ∷
    "350,1,0,1,0,0,1,0,0,0,0,1,1,1,0,0,0,0,0,0,1,1,1,0,0,0,0" ∷
    "400,1,0,0,0,0,1,1,0,0,0,1,1,1,0,0,0,0,0,0,0,0,0,1,1,1,0" ∷
    "450,1,0,0,1,0,1,1,0,0,0,1,1,1,0,0,0,0,0,0,0,0,0,1,1,1,0" ∷
    "550,1,0,0,0,0,0,1,0,1,0,0,0,0,0,0,0,0,0,0,0,0,0,1,1,1,0" ∷
    "650,1,0,0,0,1,0,1,0,1,0,0,0,0,0,0,0,0,0,0,0,0,0,1,1,1,0" ∷
    []

-- All of it, each row with its CRLF.
unfoldable pub session_sheet : List ℕ
session_sheet = ended (map (λ (row : String). ascii row) session_rows)

-- A line that every dump has, and a second that none has.
unfoldable pub no_dump : List ℕ
no_dump = ascii "$timescale 1 ms $end" ++ lf ∷ ascii "$end"
