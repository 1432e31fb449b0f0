-- Document 01, "The trace and its program": the whole run of `replay`, from all bytes of the input to all bytes of the
-- output. What each row comes to is the rule of `reading`; here is the text that is written of it.
-- Assumes nothing.
use Rattle.std.specs.Prelude.{ℕ, List, [], ◌++◌}
use Rattle.lines.specs.Rows.{rows_of}
use Rattle.controller.specs.declared.State.{State}
use Rattle.controller.specs.Lamps.{shown_of}
use Rattle.output.specs.Rows.{header_text, row_text, refusal_text}
use Rattle.reading.specs.declared.Reading.{Reading}
use Rattle.reading.specs.declared.Came.{Came}
use Rattle.reading.specs.declared.Came.TheVariants.{Nothing, Answered, Refused}
use Rattle.reading.specs.Rows.{read_from, nothing_read}
use Rattle.reading.specs.Runs.{Teller, in_rows}

-- ---- One row

-- One row per row: label, 0 or the refusal, and what the state after it shows. At the first 5, 6 or 7: the line number, the
-- refusal and ten empty fields. Where there is nothing to tell, nothing is written.
abbrev pub text_by : Came → State → List ℕ
text_by Nothing state = []
text_by (Answered label code) state = row_text label code (shown_of state)
text_by (Refused line refusal) state = refusal_text line refusal

-- What is made of a row: that text. Nothing is carried on from row to row.
abbrev pub text_told : Teller (Unit {0})
text_told nothing before came after = (Prim.tt, text_by came after)

-- ---- The whole run

-- The rows one after the other, and the end of the input.
unfoldable pub written_of : Reading → List (List ℕ) → List ℕ
written_of reading rows = (in_rows text_told Prim.tt reading rows).0

-- The output header comes first in every case; then what is written of the rows of the input.
unfoldable pub replay_of : List ℕ → List ℕ
replay_of input = header_text ++ written_of nothing_read (rows_of input)

-- Request K3: the same where a lesson goes on from a controller. Row 0 gives the new start stamp, and its row shows the controller.
unfoldable pub resumed_of : State → List ℕ → List ℕ
resumed_of state input = header_text ++ written_of (read_from state) (rows_of input)
