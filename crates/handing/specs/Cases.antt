-- Requests K3 and K6, worked: Session S of document 01 up to row 4, saved; the same behind row 5, which gets a 3, and where the battery tore row 5;
-- and traces that have no row 0. Of each, the line that its image is of.
-- Assumes nothing.
use Rattle.std.specs.Prelude.{ℕ, List, [], ◌∷◌, ◌++◌, take}
use Prim.Native.String.{String}
use Rattle.common.specs.Ascii.{ascii}
use Rattle.common.specs.Case.{Case}
use Rattle.controller.specs.Start.{fresh_of}
use Rattle.image.specs.Xdr.{bytes_of}
use Rattle.lines.specs.Rows.{rows_of}
use Rattle.reading.specs.Rows.{read_from}
use Rattle.reading.specs.Whole.{read_to}
use Rattle.reading.specs.SessionS.{trace_of, rows_of_s}
use Rattle.handing.specs.Handing.{saved_of, last_line}

-- The image that Session S leaves behind row 4.
unfoldable pub image_of_s : List ℕ
image_of_s =
    bytes_of
    -- last stamp
    (1350 ∷
    -- per sensor its voter, held value, odd channel and count: handle, held up; analogical_switch
    0 ∷ 0 ∷ 0 ∷ 0 ∷ 0 ∷ 0 ∷ 0 ∷ 0 ∷
    -- gear_extended, held 1
    0 ∷ 1 ∷ 0 ∷ 0 ∷ 0 ∷ 1 ∷ 0 ∷ 0 ∷ 0 ∷ 1 ∷ 0 ∷ 0 ∷
    -- gear_retracted
    0 ∷ 0 ∷ 0 ∷ 0 ∷ 0 ∷ 0 ∷ 0 ∷ 0 ∷ 0 ∷ 0 ∷ 0 ∷ 0 ∷
    -- gear_shock_absorber
    0 ∷ 0 ∷ 0 ∷ 0 ∷ 0 ∷ 0 ∷ 0 ∷ 0 ∷ 0 ∷ 0 ∷ 0 ∷ 0 ∷
    -- door_closed, held 1
    0 ∷ 1 ∷ 0 ∷ 0 ∷ 0 ∷ 1 ∷ 0 ∷ 0 ∷ 0 ∷ 1 ∷ 0 ∷ 0 ∷
    -- door_open
    0 ∷ 0 ∷ 0 ∷ 0 ∷ 0 ∷ 0 ∷ 0 ∷ 0 ∷ 0 ∷ 0 ∷ 0 ∷ 0 ∷
    -- circuit_pressurized
    0 ∷ 0 ∷ 0 ∷ 0 ∷
    -- general_EV on since row 2, open_EV on since row 4; the others off
    1 ∷ 200 ∷
    0 ∷ 60000 ∷
    1 ∷ 0 ∷
    0 ∷ 60000 ∷
    0 ∷ 60000 ∷
    -- handle age, doors OPENING, gears EXTENDED, no cause
    200 ∷ 1 ∷ 2 ∷ 0 ∷
    [])

unfoldable pub saves : String → List ℕ → List ℕ → Case
saves name input wanted = record { name = name; gives = saved_of (fresh_of 0) input; wanted = wanted }

unfoldable pub is_of_line : String → List ℕ → ℕ → Case
is_of_line name input line =
    record { name = name; gives = last_line (read_to (read_from (fresh_of 0)) (rows_of input)).phase ∷ []; wanted = line ∷ [] }

-- The header is line 1, so row 4 is line 6.
unfoldable pub handing_cases : List Case
handing_cases =
    saves "Session S up to row 4" (trace_of (take 5 rows_of_s)) image_of_s
    ∷ is_of_line "Session S up to row 4" (trace_of (take 5 rows_of_s)) 6
    ∷ saves "row 5 gets a 3" (trace_of (take 6 rows_of_s)) image_of_s
    ∷ is_of_line "row 5 gets a 3" (trace_of (take 6 rows_of_s)) 7
    ∷ saves "row 5 is torn" (trace_of (take 5 rows_of_s) ++ ascii "5,13") image_of_s
    ∷ is_of_line "row 5 is torn" (trace_of (take 5 rows_of_s) ++ ascii "5,13") 6
    ∷ saves "row 0 is torn" (trace_of [] ++ ascii "0,1000,111,0") []
    ∷ is_of_line "row 0 is torn" (trace_of [] ++ ascii "0,1000,111,0") 0
    ∷ saves "the header alone" (trace_of []) []
    ∷ is_of_line "the header alone" (trace_of []) 0
    ∷ saves "no header" [] []
    ∷ is_of_line "no header" [] 0
    ∷ []
