-- A trace in form, by the samples that it bears; what any input bears, up to its end or to the refusal that ends it; and the file that the
-- controller's own answers make (document 01, "The trace and its program").
-- Assumes nothing.
use Rattle.std.specs.Prelude.{ℕ, ◌+◌, ◌≤◌, cond, List, [], ◌∷◌, ◌++◌, map, ◌⊎◌, ◌≡◌, leb, length, Option, Some, None}
use Rattle.common.specs.Answers.{refuses}
use Rattle.lines.specs.Rows.{rows_of}
use Rattle.trace.specs.Numbers.{greatest}
use Rattle.trace.specs.Rows.{read_row}
use Rattle.trace.specs.Header.{header_text as trace_header}
use Rattle.trace.specs.Written.{row_text as trace_row_text, AllBits}
use Rattle.controller.specs.declared.State.{State}
use Rattle.controller.specs.declared.Shown.{Shown}
use Rattle.controller.specs.Answers.{Answer}
use Rattle.controller.specs.Start.{started_at}
use Rattle.controller.specs.Lamps.{shown_of}
use Rattle.controller.specs.Samples.{Row, answers}
use Rattle.output.specs.Rows.{header_text, row_text, refusal_text}
use Rattle.reading.specs.Rows.{no_sample}
use Rattle.reading.specs.SessionS.{trace_of}
use Rattle.lesson.specs.Replay.{resumed_of}

-- ---- The trace

-- What a row of the form can bear: a stamp of 32 bits, and 54 bytes, each 0 or 1.
abbrev pub Bearable : Row → Type 0
Bearable r = (r.0 ≤ greatest) × (length r.1 ≡ 54) × AllBits r.1

abbrev pub AllBearable : List Row → Type 0
AllBearable [] = Unit {0}
AllBearable (r ∷ rs) = Bearable r × AllBearable rs

-- Samples that a trace in form can bear: each row can, and there are no more than there are labels.
pub record InOneTrace (samples : List Row) : Type 0 where
  pub each : AllBearable samples
  pub labels : length samples ≤ greatest + 1

-- The rows of the form that bear them, with labels from this one on.
unfoldable pub rows_bearing : ℕ → List Row → List (List ℕ)
rows_bearing label [] = []
rows_bearing label (r ∷ rs) = trace_row_text label r.0 r.1 ∷ rows_bearing (label + 1) rs

-- The rows of the trace: its header, and these with labels 0, 1, 2 and so on.
abbrev pub rows_for : List Row → List (List ℕ)
rows_for samples = trace_header ∷ rows_bearing 0 samples

-- All its bytes: each row has its CRLF.
unfoldable pub trace_bearing : List Row → List ℕ
trace_bearing samples = trace_of (rows_bearing 0 samples)

-- ---- Any input

-- Behind so many rows this label is due; after 4,294,967,295 none is.
abbrev pub due_behind : ℕ → Option ℕ
due_behind n = cond (leb n greatest) (Some n) None

-- What follows so many rows, and what is written of it: nothing, or a row that is refused, and whatever is behind it; that row is on the
-- line behind the header and these rows.
pub data Ending (n : ℕ) : List (List ℕ) → List ℕ → Type 0 where
  at_end : Ending n [] []
  at_refusal : (row : List ℕ) (rows : List (List ℕ)) (refusal : ℕ)
      → (read_row row (due_behind n) no_sample).0 ≡ refuses refusal
      → Ending n (row ∷ rows) (refusal_text (n + 2) refusal)

-- An input bears these samples, and then it ends so: its rows are the header, rows of the form, and what follows them.
pub record Bears (input : List ℕ) (samples : List Row) (ending : List ℕ) : Type 0 where
  pub can : InOneTrace samples
  pub others : List (List ℕ)
  pub rows : rows_of input ≡ rows_for samples ++ others
  pub ends : Ending (length samples) others ending

-- ---- The file

-- A row of a file but for its label: its code, and what it shows.
abbrev pub Body : Type 0
Body = ℕ × Shown

abbrev pub body_of : Answer → Body
body_of a = (a.refusal, shown_of a.state)

-- These, with labels from this one on.
unfoldable pub labelled : ℕ → List Body → List ℕ
labelled label [] = []
labelled label (b ∷ bs) = row_text label b.0 b.1 ++ labelled (label + 1) bs

-- A file: the output header, and rows with labels 0, 1, 2 and so on.
unfoldable pub file_of : List Body → List ℕ
file_of bodies = header_text ++ labelled 0 bodies

-- ---- The controller's own answers

-- Row 0 gives the start stamp, and its sample is not used; each other row is a step with its stamp and its 54 bytes.
abbrev pub answers_to : State → List Row → List Answer
answers_to s [] = []
answers_to s (r ∷ rs) = record { refusal = 0; state = started_at r.0 s } ∷ answers (started_at r.0 s) rs

abbrev pub bodies_to : State → List Row → List Body
bodies_to s samples = map body_of (answers_to s samples)

-- ---- What there is of any input

-- It has no header, and then line 1 and the refusal is all that is written, from every controller; or it bears some samples.
pub data Account (input : List ℕ) : Type 0 where
  no_header : (refusal : ℕ)
      → (refusal ≡ 5) ⊎ (refusal ≡ 6)
      → ((s : State) → resumed_of s input ≡ header_text ++ refusal_text 1 refusal)
      → Account input
  has_header : (samples : List Row) (ending : List ℕ) → Bears input samples ending → Account input
