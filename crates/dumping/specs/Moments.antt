-- Request K2: the moments of a trace, and the dump of them, from all bytes of the input to all bytes of the dump. The rows of the
-- trace come to what they come to for `replay` (`row_of` of the crate `reading`). Request K3: so also where a lesson goes on from a
-- controller that was handed over; its dump begins at `#0` with what that controller shows.
-- Assumes nothing.
use Rattle.std.specs.Prelude.{◌≡◌, ℕ, ◌+◌, Bool, true, false, cond, ◌&&◌, List, [], ◌∷◌, ◌++◌, ◌==◌, Some}
use Rattle.common.specs.Answers.{Answer, gives, refuses}
use Rattle.lines.specs.Rows.{rows_of}
use Rattle.trace.specs.Rows.{read_row}
use Rattle.trace.specs.Header.{header_text, same_text}
use Rattle.controller.specs.declared.State.{State}
use Rattle.controller.specs.declared.Shown.{Shown}
use Rattle.controller.specs.Start.{fresh_of}
use Rattle.controller.specs.Stages.{elapsed_of}
use Rattle.controller.specs.Lamps.{shown_of, values_of}
use Rattle.reading.specs.declared.Reading.{Reading}
use Rattle.reading.specs.declared.Came.{Came}
use Rattle.reading.specs.declared.Came.TheVariants.{Nothing, Answered, Refused}
use Rattle.reading.specs.declared.Heard.{Heard}
use Rattle.reading.specs.Rows.{no_sample, row_of, read_from}
use Rattle.dump.specs.Dumps.{Moment, dump_of}

-- ---- The wires of a state

-- The five orders as in the output row, the three lamps, and then the 18 voted values as in the sample.
abbrev pub shown_wires : Shown → List Bool → List Bool
shown_wires s values =
    s.general ∷ s.closes ∷ s.opens ∷ s.retracts ∷ s.extends ∷
    s.lights.green ∷ s.lights.orange ∷ s.lights.red ∷
    values

unfoldable pub wires_of : State → List Bool
wires_of s = shown_wires (shown_of s) (values_of s)

-- ---- The moments of a trace

-- A time, and what a state shows.
abbrev pub at : ℕ → State → Moment
at time s = record { time = time; values = wires_of s }

-- The moment that a row adds, after the last moment's time, by what it came to. Row 0 adds the start, at time 0: the state at the
-- start stamp, before any accepted step. An accepted row adds a moment at the sum of the accepted elapsed times. A refused row adds
-- none, and so do the header and the refusal that ends the reading.
abbrev pub adds_by : Came → ℕ → State → State → List Moment
adds_by Nothing time before after = []
adds_by (Answered label code) time before after =
    cond (label == 0) (at 0 after ∷ [])
    (cond (code == 0) (at (time + elapsed_of before.stamp after.stamp) after ∷ [])
    [])
adds_by (Refused line refusal) time before after = []

unfoldable pub adds : ℕ → Reading → Heard → List Moment
adds time reading heard = adds_by heard.came time reading.state heard.reading.state

-- The time of the last moment.
abbrev pub time_after : ℕ → List Moment → ℕ
time_after time [] = time
time_after time (m ∷ ms) = m.time

-- The moments of the rows behind a time, one row after the other. The end of the input adds none.
unfoldable pub moments_after : ℕ → Reading → List (List ℕ) → List Moment
moments_after time reading [] = []
moments_after time reading (row ∷ rows) =
    adds time reading (row_of reading row)
    ++ moments_after (time_after time (adds time reading (row_of reading row))) (row_of reading row).reading rows

-- Moments of which the first is at time 0 and shows what a controller shows.
abbrev pub StartWith : State → List Moment → Type 0
StartWith s [] = ⊥
StartWith s (m ∷ ms) = m ≡ at 0 s

-- ---- Whether a trace has a row 0

-- The reader of rows takes a row.
abbrev pub is_taken : {A : Type 0} → Answer A → Bool
is_taken (gives x) = true
is_taken (refuses n) = false

-- The first line is the header, and the second is taken as row 0.
abbrev pub start_with_row0 : List (List ℕ) → Bool
start_with_row0 [] = false
start_with_row0 (header ∷ []) = false
start_with_row0 (header ∷ row ∷ rows) = same_text header header_text && is_taken (read_row row (Some 0) no_sample).0

abbrev pub has_row0 : List ℕ → Bool
has_row0 input = start_with_row0 (rows_of input)

-- ---- The whole run

-- From the controller that a run starts from, and all bytes of a trace: its moments, and the dump of them. With no row 0 there are
-- none, and nothing is written.
unfoldable pub moments_from : State → List ℕ → List Moment
moments_from state input = moments_after 0 (read_from state) (rows_of input)

unfoldable pub waves_from : State → List ℕ → List ℕ
waves_from state input = dump_of (moments_from state input)

-- A lesson that was not handed over starts from a fresh controller.
unfoldable pub waves_of : List ℕ → List ℕ
waves_of input = waves_from (fresh_of 0) input
