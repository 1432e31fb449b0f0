-- Document 01, "Session S": the bytes of its trace, for all that is made of it. What `replay` writes of them is shown in `lesson`, the
-- dump in `dumping`, the image in `handing`.
-- Assumes nothing.
use Rattle.std.specs.Prelude.{List, [], ◌∷◌, ◌++◌, ℕ}
use Rattle.common.specs.Ascii.{ascii, ended}
use Rattle.trace.specs.Header.{header_text as trace_header}

-- A trace: its header, and rows that each end in CRLF.
unfoldable pub trace_of : List (List ℕ) → List ℕ
trace_of rows = ended (trace_header ∷ rows)

-- The rest of a row of Session S by what changes in it: handle, gear_extended, door_closed, door_open.
abbrev pub at_rest : List ℕ
at_rest = ascii "111,000,111,111,111,000,000,000,000,000,000,111,111,111,000,000,000,000"

-- The handle is up.
abbrev pub handle_up : List ℕ
handle_up = ascii "000,000,111,111,111,000,000,000,000,000,000,111,111,111,000,000,000,000"

-- The doors are seen open too.
abbrev pub doors_open : List ℕ
doors_open = ascii "000,000,111,111,111,000,000,000,000,000,000,000,000,000,111,111,111,000"

-- The handle is down again, and the gears are seen at no end.
abbrev pub gears_moving : List ℕ
gears_moving = ascii "111,000,000,000,000,000,000,000,000,000,000,000,000,000,111,111,111,000"

-- Its rows, 0 to 11.
unfoldable pub rows_of_s : List (List ℕ)
rows_of_s =
    (ascii "0,1000," ++ at_rest)
    ∷ (ascii "1,1050," ++ at_rest)
    ∷ (ascii "2,1150," ++ handle_up)
    ∷ (ascii "3,1250," ++ handle_up)
    ∷ (ascii "4,1350," ++ handle_up)
    ∷ (ascii "5,1350," ++ handle_up)
    ∷ (ascii "6,1400," ++ doors_open)
    ∷ (ascii "7,1450," ++ doors_open)
    ∷ (ascii "8,1551," ++ doors_open)
    ∷ (ascii "9,1550," ++ gears_moving)
    ∷ (ascii "10,1649," ++ gears_moving)
    ∷ (ascii "11,1650," ++ gears_moving)
    ∷ []

-- All of it.
unfoldable pub session_trace : List ℕ
session_trace = trace_of rows_of_s
