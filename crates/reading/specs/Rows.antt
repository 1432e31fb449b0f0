-- Document 01, "The trace and its program": what each row of a trace comes to. Each row gives how far the trace is read after
-- it, and what there is to tell of it: its label and 0 or a refusal, with the state after it, or the refusal that ends it.
-- Assumes nothing.
use Rattle.std.specs.Prelude.{ℕ, ◌+◌, Bool, true, false, cond, List, eqb, ltb, length, replicate, Option, Some, None}
use Rattle.common.specs.Answers.{Answer as RowAnswer, gives, refuses}
use Rattle.trace.specs.Numbers.{greatest}
use Rattle.trace.specs.Rows.{longest_row, read_row}
use Rattle.trace.specs.Header.{header_text as trace_header, same_text}
use Rattle.controller.specs.declared.State.{State}
use Rattle.controller.specs.Answers.{Answer}
use Rattle.controller.specs.Start.{fresh_of, started_at}
use Rattle.controller.specs.Steps.{step_of}
use Rattle.reading.specs.declared.Phase.{Phase}
use Rattle.reading.specs.declared.Phase.TheVariants.{Header, Rows, Ended}
use Rattle.reading.specs.declared.Reading.{Reading}
use Rattle.reading.specs.declared.Came.TheVariants.{Nothing, Answered, Refused}
use Rattle.reading.specs.declared.Heard.{Heard}

-- ---- Labels and lines

-- Labels count 0, 1, 2 and so on as numbers. After 4,294,967,295 no label is due.
abbrev pub next_due : Option ℕ → Option ℕ
next_due (Some n) = cond (ltb n greatest) (Some (n + 1)) None
next_due None = None

-- The line number of the row that is due: the header is line 1, so the row of label 0 is line 2.
abbrev pub line_of : Option ℕ → ℕ
line_of (Some n) = n + 2
line_of None = greatest + 3

-- The line that is due, or that the reading ended on.
abbrev pub line_at : Phase → ℕ
line_at Header = 1
line_at (Rows due) = line_of due
line_at (Ended line refusal) = line

-- ---- One row

-- There is nothing to tell.
abbrev pub untold : Reading → Heard
untold reading = record { reading = reading; came = Nothing }

-- At the first 5, 6 or 7: the line number and the refusal; and there it ends.
unfoldable pub ends_at : ℕ → ℕ → State → Heard
ends_at line refusal state = record { reading = record { phase = Ended line refusal; state = state }; came = Refused line refusal }

-- A first row over 512 bytes is line 1, refusal 6; one that is not the header is line 1, refusal 5. After the header label 0
-- is due. Of the header there is nothing to tell.
unfoldable pub header_row : State → List ℕ → Heard
header_row state row =
    cond (ltb longest_row (length row)) (ends_at 1 6 state)
    (cond (same_text row trace_header) (untold (record { phase = Rows (Some 0); state = state }))
    (ends_at 1 5 state))

-- Row 0 gives the start stamp; its sample is read but not used. (A run of `replay` starts from a fresh controller, so its row 0
-- is a fresh start at that stamp.) Each other row is a step of the controller.
unfoldable pub answer_to : State → ℕ → ℕ → List ℕ → Answer
answer_to state label stamp sample =
    cond (eqb label 0) (record { refusal = 0; state = started_at stamp state }) (step_of state stamp sample)

-- One row per row: label, 0 or the refusal, and the state to show; after a refusal 3 or 4 that is the state kept. A row that
-- gets 3 or 4 uses up its label.
unfoldable pub shown_row : Option ℕ → ℕ → Answer → Heard
shown_row due label answer =
    record {
      reading = record { phase = Rows (next_due due); state = answer.state };
      came = Answered label answer.refusal;
    }

-- What the row reader answers, with the sample that it read.
abbrev pub as_read : Option ℕ → State → RowAnswer (ℕ × ℕ) → List ℕ → Heard
as_read due state (gives head) sample = shown_row due head.0 (answer_to state head.0 head.1 sample)
as_read due state (refuses n) sample = ends_at (line_of due) n state

-- The sample buffer that is lent to the row reader.
unfoldable pub no_sample : List ℕ
no_sample = replicate 54 0

-- A row after the header, which must bear the label that is due.
unfoldable pub trace_row : Option ℕ → State → List ℕ → Heard
trace_row due state row = as_read due state (read_row row due no_sample).0 (read_row row due no_sample).1

-- A row of the trace, by how far it is read. After a refusal there is nothing more to tell.
abbrev pub row_by : Phase → Reading → List ℕ → Heard
row_by Header reading row = header_row reading.state row
row_by (Rows due) reading row = trace_row due reading.state row
row_by (Ended line refusal) reading row = untold reading

unfoldable pub row_of : Reading → List ℕ → Heard
row_of reading row = row_by reading.phase reading row

-- A row that does not fit a line buffer of 512 bytes is over them: refusal 6 on its line.
abbrev pub over_by : Phase → Reading → Heard
over_by Header reading = ends_at 1 6 reading.state
over_by (Rows due) reading = ends_at (line_of due) 6 reading.state
over_by (Ended line refusal) reading = untold reading

unfoldable pub over_of : Reading → Heard
over_of reading = over_by reading.phase reading

-- The end of the input. An input with no header is line 1, refusal 5.
abbrev pub end_by : Phase → Reading → Heard
end_by Header reading = ends_at 1 5 reading.state
end_by (Rows due) reading = untold reading
end_by (Ended line refusal) reading = untold reading

unfoldable pub end_of : Reading → Heard
end_of reading = end_by reading.phase reading

-- A refusal has ended the reading.
abbrev pub has_ended : Phase → Bool
has_ended Header = false
has_ended (Rows due) = false
has_ended (Ended line refusal) = true

-- Row 0, which is line 2, has been read: the line that is due, or that the reading ended on, is a later one. Then there is a
-- controller to save.
abbrev pub has_started : Phase → Bool
has_started Header = false
has_started (Rows due) = ltb 2 (line_of due)
has_started (Ended line refusal) = ltb 2 line

-- ---- The start

-- At the start nothing is read. The controller is the one to go on with: row 0 gives it its start stamp.
abbrev pub read_from : State → Reading
read_from state = record { phase = Header; state = state }

-- A run of `replay` or `waves` starts from a fresh controller. (Until row 0 gives it its stamp it is not used.)
unfoldable pub nothing_read : Reading
nothing_read = read_from (fresh_of 0)
