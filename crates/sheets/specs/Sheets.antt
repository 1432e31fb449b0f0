-- Request K2: the values of a dump as CSV by RFC 4180: a header, and a row for each time that is written; and the whole run of the
-- program `sheet`, from all bytes of its input to all bytes of its output, a bad dump among them.
-- Assumes nothing.
use Rattle.std.specs.Prelude.{ℕ, suc, ◌+◌, ◌*◌, Bool, cond, List, [], ◌∷◌, ◌++◌, map, take, ◌==◌}
use Rattle.std.proofs.Math.Option.{Option, none, some}
use Rattle.common.specs.Ascii.{ascii, comma, crlf, lf, joined_by_commas}
use Rattle.common.specs.Bits.{bit}
use Rattle.common.specs.Decimal.{decimal, digit0}
use Rattle.names.specs.Words.{lamp_names, sensor_names}
use Rattle.dump.specs.Wires.{wire_names, wires}
use Rattle.dump.specs.Dumps.{Moment}
use Rattle.readback.specs.Bytes.{new_reader}
use Rattle.readback.specs.Calls.{read_up_to, given_of}

-- `time`, and the wires' names.
unfoldable pub sheet_header : List ℕ
sheet_header = joined_by_commas (ascii "time" ∷ wire_names) ++ crlf

-- Behind the orders' names in it: those of lamps and sensors, with the commas before them.
unfoldable pub other_names : List ℕ
other_names = comma ∷ joined_by_commas lamp_names ++ comma ∷ [] ++ joined_by_commas sensor_names

-- It has so many bytes, and a row at most so many: 20 of its time, two of each wire and two of its end.
abbrev pub header_length : ℕ
header_length = 415

abbrev pub row_room : ℕ
row_room = 22 + 2 * wires

-- A value: 1 for on, 0 for off.
abbrev pub value_field : Bool → List ℕ
value_field value = (digit0 + bit value) ∷ []

-- The time in decimal, and the values of the wires at it.
unfoldable pub sheet_row : ℕ → List Bool → List ℕ
sheet_row time values = joined_by_commas (decimal time ∷ map value_field values) ++ crlf

-- The fields behind the time, each with the comma before it.
unfoldable pub later_fields : List Bool → List ℕ
later_fields [] = []
later_fields (value ∷ values) = (comma ∷ value_field value) ++ later_fields values

-- The rows of the moments.
unfoldable pub sheet_rows : List Moment → List ℕ
sheet_rows [] = []
sheet_rows (m ∷ ms) = sheet_row m.time m.values ++ sheet_rows ms

-- ---- The whole run

-- What is written for the bytes of the input: the header in every case, and the rows of all moments of a dump; of what is
-- no dump, those behind which the next one has begun in front of the byte that is refused.
unfoldable pub sheet_of : List ℕ → List ℕ
sheet_of bytes = sheet_header ++ sheet_rows (given_of bytes).0

-- So many lines end among bytes.
unfoldable pub lines_in : List ℕ → ℕ
lines_in [] = 0
lines_in (b ∷ bytes) = cond (b == lf) (suc (lines_in bytes)) (lines_in bytes)

-- The line up to which the bytes are read: the one that the refused byte stands in, or the one behind all bytes.
unfoldable pub line_of : List ℕ → ℕ
line_of bytes = suc (lines_in (take (read_up_to new_reader bytes) bytes))

-- The line of the 9, where the bytes are no dump.
unfoldable pub nine_at : List ℕ → Option ℕ
nine_at bytes = cond ((given_of bytes).1 == 0) none (some (line_of bytes))
