-- Request K3, "Hand a lesson to another laptop": a whole run of saving, from all bytes of a trace to the image of its last state.
-- Assumes nothing.
use Rattle.std.specs.Prelude.{ℕ, ◌-◌, cond, List, [], eqb, ltb, take}
use Rattle.lines.specs.Rows.{rows_of}
use Rattle.controller.specs.declared.State.{State}
use Rattle.image.specs.Images.{size, image_of, save_of}
use Rattle.reading.specs.declared.Phase.{Phase}
use Rattle.reading.specs.declared.Phase.TheVariants.{Header, Rows, Ended}
use Rattle.reading.specs.declared.Reading.{Reading}
use Rattle.reading.specs.Rows.{line_of, has_started, read_from}
use Rattle.reading.specs.Whole.{read_to}
use Rattle.reading.specs.declared.Run.{Run}
use Rattle.handing.specs.Answers.{Saved}

-- ---- The whole run

-- Where row 0 has been read, the image of the controller as the last row that was answered left it: also where a 5, 6 or 7 ended the
-- reading behind row 0, for a battery that dies tears the last row of a log. Where it has not been read, nothing.
unfoldable pub image_left : Reading → List ℕ
image_left reading = cond (has_started reading.phase) (image_of reading.state) []

-- From the controller that a run starts from, and all bytes of a trace.
unfoldable pub saved_of : State → List ℕ → List ℕ
saved_of state input = image_left (read_to (read_from state) (rows_of input))

-- ---- Of which line the image is

-- The line before one. Row 0 is line 2, so there is a row before a line from 3 on; else 0.
abbrev pub line_before : ℕ → ℕ
line_before line = cond (ltb 2 line) (line - 1) 0

-- The line of the last row that was answered, with 0, 3 or 4 (`the_image_is_of_its_line` of the crate `files`): the one before the row that
-- is due, or before the line that the reading ended on. Where row 0 has not been read, 0.
abbrev pub last_line : Phase → ℕ
last_line Header = 0
last_line (Rows due) = line_before (line_of due)
last_line (Ended line refusal) = line_before line

-- ---- Into a lent buffer

-- What `save` of the crate `image` answers, with the number of bytes that it wrote: an image, or nothing where it was refused.
abbrev pub saved_by : ℕ × List ℕ → Saved × List ℕ
saved_by answer = (record { refusal = answer.0; written = cond (eqb answer.0 0) size 0 }, answer.1)

-- 8: there is an image to write, and the buffer is shorter; it is left as it was. Else 0: what is written stands in front, and the
-- bytes past it stay.
unfoldable pub save_last_of : Run → List ℕ → Saved × List ℕ
save_last_of run buffer =
    cond (has_started run.reading.phase) (saved_by (save_of run.reading.state buffer))
    (record { refusal = 0; written = 0 }, buffer)

-- What was written: so many bytes of the buffer as the answer says.
abbrev pub wrote : Saved × List ℕ → List ℕ
wrote answer = take answer.0.written answer.1
