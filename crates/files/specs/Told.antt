-- A file of `replay` row by row: what each row of the input came to, with its place in the input and the state before and after it. What is
-- written are the texts of exactly these (`written_is_told` of proofs/Told.antt), so a law of these is a law of the rows of the file.
-- Assumes nothing.
use Rattle.std.specs.Prelude.{ℕ, ◌+◌, List, [], ◌∷◌, ◌++◌, ◌≡◌}
use Rattle.lines.specs.Rows.{rows_of}
use Rattle.controller.specs.declared.State.{State}
use Rattle.reading.specs.declared.Reading.{Reading}
use Rattle.reading.specs.declared.Came.{Came}
use Rattle.reading.specs.declared.Heard.{Heard}
use Rattle.reading.specs.Rows.{row_of, end_of, read_from}
use Rattle.lesson.specs.Replay.{text_by}

-- What a row of the input came to.
pub record Told : Type 0 where
  -- its place in the input; the header is line 1
  pub line : ℕ
  -- its bytes, without the CRLF
  pub row : List ℕ
  -- the state before it, what it came to, and the state after it, which its row of the file shows
  pub before : State
  pub came : Came
  pub after : State

abbrev pub told_of : ℕ → List ℕ → Reading → Heard → Told
told_of line row reading heard =
    record { line = line; row = row; before = reading.state; came = heard.came; after = heard.reading.state }

-- The rows one after the other, the first of them on this line, and last the end of the input, which has no bytes.
unfoldable pub told_from : ℕ → Reading → List (List ℕ) → List Told
told_from line reading [] = told_of line [] reading (end_of reading) ∷ []
told_from line reading (row ∷ rows) =
    told_of line row reading (row_of reading row) ∷ told_from (line + 1) (row_of reading row).reading rows

-- All rows of an input, where the lesson goes on from a controller. From a fresh one it is the file of `replay`.
unfoldable pub told : State → List ℕ → List Told
told state input = told_from 1 (read_from state) (rows_of input)

-- ---- What is written of them

abbrev pub text_of : Told → List ℕ
text_of t = text_by t.came t.after

-- One after the other.
unfoldable pub texts_of : List Told → List ℕ
texts_of [] = []
texts_of (t ∷ ts) = text_of t ++ texts_of ts

-- ---- From row to row

-- The first is on this line and starts from this state, and each other is on the next line and starts from the state that the one in front
-- of it shows.
abbrev pub Linked : ℕ → State → List Told → Type 0
Linked line s [] = Unit {0}
Linked line s (t ∷ ts) = (t.line ≡ line) × (t.before ≡ s) × Linked (line + 1) t.after ts
