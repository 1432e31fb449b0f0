-- Document 01, "The trace and its program": the header, and rows of a refusal, as they must be written.
-- Assumes nothing.
use Rattle.std.specs.Prelude.{ℕ, List, [], ◌∷◌, ◌++◌}
use Prim.Native.String.{String}
use Rattle.common.specs.Ascii.{ascii, crlf}
use Rattle.common.specs.Case.{Case}
use Rattle.output.specs.Rows.{header_text, refusal_text}

-- A text and the line that it must be.
abbrev pub is_line : List ℕ → String → Case
is_line text line = record { name = line; gives = text; wanted = ascii line ++ crlf }

-- The header; and a refusal that ends the run: on an early line, after the last label (a line number past 32 bits), and the greatest
-- number of 64 bits. (The rows of Session S are written in `lesson`.)
unfoldable pub lines : List Case
lines =
    is_line header_text "step,code,general_EV,close_EV,open_EV,retract_EV,extend_EV,doors,gears,green,orange,red" ∷
    is_line (refusal_text 12 5) "12,5,,,,,,,,,," ∷
    is_line (refusal_text 1 6) "1,6,,,,,,,,,," ∷
    is_line (refusal_text 4294967298 7) "4294967298,7,,,,,,,,,," ∷
    is_line (refusal_text 18446744073709551615 255) "18446744073709551615,255,,,,,,,,,," ∷
    []
