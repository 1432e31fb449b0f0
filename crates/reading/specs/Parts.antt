-- A trace by parts, "through a line buffer of 512 bytes" (document 01, "The trace and its program"), one row a call: what taking in a part of
-- the input gives, up to the end of its first row, and what the end of the input gives.
-- Assumes nothing.
use Rattle.std.specs.Prelude.{ℕ, ◌≤◌, false, cond, List, eqb, length, take}
use Rattle.lines.specs.Cuts.{cut_of, last_of}
use Rattle.trace.specs.Rows.{longest_row}
use Rattle.lines.specs.declared.Taken.{Taken}
use Rattle.lines.specs.declared.Taken.TheVariants.{Row, More, Over}
use Rattle.lines.specs.declared.Final.{Final}
use Rattle.lines.specs.declared.Final.TheVariants.{Nothing as NoRow, Last, Wider}
use Rattle.controller.specs.declared.State.{State}
use Rattle.controller.specs.Start.{fresh_of}
use Rattle.reading.specs.declared.Reading.{Reading}
use Rattle.reading.specs.declared.Came.TheVariants.{Nothing}
use Rattle.reading.specs.declared.Heard.{Heard}
use Rattle.reading.specs.declared.Run.{Run}
use Rattle.reading.specs.Answers.{Next}
use Rattle.reading.specs.declared.Found.{Found}
use Rattle.reading.specs.declared.Found.TheVariants.{Whole, TooLong, Unfinished, End}
use Rattle.reading.specs.declared.Piece.{Piece}
use Rattle.reading.specs.Rows.{untold, row_of, over_of, end_of, read_from}

-- ---- A run under way

-- So many bytes has the line buffer: as many as a row has at most.
abbrev pub line_bytes : ℕ
line_bytes = longest_row

-- At the start, behind each row and at the end no row is under way.
abbrev pub between : Reading → Run
between reading = record { reading = reading; len = 0; cr = false }

-- At the start nothing is read. The controller is the one to go on with.
unfoldable pub run_from : State → Run
run_from state = between (read_from state)

-- A run of `replay` or `waves` starts from a fresh controller.
unfoldable pub new_run : Run
new_run = run_from (fresh_of 0)

-- ---- What is found in the line buffer

-- A piece behind which no row is under way.
abbrev pub up_to : Found → ℕ → Piece
up_to found used = record { found = found; len = 0; cr = false; used = used }

-- What cutting a row off a part of `size` bytes finds. A row that is whole ends in front of byte `used`. Where the part is used up, the
-- row under way stays in the line buffer. A row that is over the line buffer uses the part up: nothing is read after it.
abbrev pub piece_of : Taken → ℕ → Piece
piece_of (Row used len) size = up_to (Whole len) used
piece_of (More len cr) size = record { found = Unfinished; len = len; cr = cr; used = size }
piece_of Over size = up_to TooLong size

-- What the end of the input finds: what is still in the line buffer is the last row.
abbrev pub last_piece : Final → Piece
last_piece NoRow = up_to End 0
last_piece (Last len) = up_to (Whole len) 0
last_piece Wider = up_to TooLong 0

-- A row that is whole lies in a line buffer of so many bytes.
abbrev pub Fits : Found → ℕ → Type 0
Fits (Whole len) bytes = len ≤ bytes
Fits TooLong bytes = Unit {0}
Fits Unfinished bytes = Unit {0}
Fits End bytes = Unit {0}

-- What it comes to.
abbrev pub found_by : Reading → Found → List ℕ → Heard
found_by reading (Whole len) line = row_of reading (take len line)
found_by reading TooLong line = over_of reading
found_by reading Unfinished line = untold reading
found_by reading End line = end_of reading

-- ---- A call

-- The run behind a piece, and what the piece came to.
abbrev pub next_by : Run → Piece → List ℕ → Next
next_by run piece line =
    record {
      run = record { reading = (found_by run.reading piece.found line).reading; len = piece.len; cr = piece.cr };
      came = (found_by run.reading piece.found line).came;
      used = piece.used;
      refusal = 0;
    }

-- Refusal 8, and the run as it was.
unfoldable pub refused : Run → Next
refused run = record { run = run; came = Nothing; used = 0; refusal = 8 }

-- The same with the line buffer, as cutting a row off, or the end of the input, left it.
abbrev pub after_cut : Run → ℕ → Taken × List ℕ → Next × List ℕ
after_cut run size cut = (next_by run (piece_of cut.0 size) cut.1, cut.1)

abbrev pub after_last : Run → Final × List ℕ → Next × List ℕ
after_last run last = (next_by run (last_piece last.0) last.1, last.1)

-- A line buffer that is not 512 bytes is refused, and stays as it was.
abbrev pub lent_line : Run → List ℕ → Next × List ℕ → Next × List ℕ
lent_line run line next = cond (eqb (length line) line_bytes) next (refused run, line)

-- The part up to the end of its first row, or all of it.
unfoldable pub take_of : Run → List ℕ → List ℕ → Next × List ℕ
take_of run part line = lent_line run line (after_cut run (length part) (cut_of part 0 line run.len run.cr))

-- The end of the input.
unfoldable pub finish_of : Run → List ℕ → Next × List ℕ
finish_of run line = lent_line run line (after_last run (last_of line run.len run.cr))
