-- A whole trace: the reading that is left of it, with the controller as the last row left it.
-- Assumes nothing.
use Rattle.std.specs.Prelude.{ℕ, Bool, true, false, ◌||◌, List, [], ◌∷◌}
use Rattle.reading.specs.declared.Reading.{Reading}
use Rattle.reading.specs.declared.Came.{Came}
use Rattle.reading.specs.declared.Came.TheVariants.{Nothing, Answered, Refused}
use Rattle.reading.specs.Rows.{row_of, end_of}

-- The rows one after the other, and the end of the input.
unfoldable pub read_to : Reading → List (List ℕ) → Reading
read_to reading [] = (end_of reading).reading
read_to reading (row ∷ rows) = read_to (row_of reading row).reading rows

-- A row was read, and bears an answer.
abbrev pub is_answered : Came → Bool
is_answered Nothing = false
is_answered (Answered label code) = true
is_answered (Refused line refusal) = false

-- Some row was.
unfoldable pub some_answered : Reading → List (List ℕ) → Bool
some_answered reading [] = false
some_answered reading (row ∷ rows) = is_answered (row_of reading row).came || some_answered (row_of reading row).reading rows
