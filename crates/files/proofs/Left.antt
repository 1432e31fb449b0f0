-- What a trace leaves is of its last row that was answered: the line that is named with an image, and the state in it.
-- Assumes nothing.
use Rattle.std.specs.Prelude.{Option as Due, Some, None}
use Prim.Native.Nat.{ℕ, ◌+◌, ◌≤◌, ◌<◌}
use native.Mathlib.Omega.{arith}
use mathlib.Core.Bool.{Bool, true, false, cond}
use mathlib.Core.List.{List, [], ◌∷◌}
use mathlib.Core.Option.{Option, none, some, or_else}
use mathlib.Core.Path.{◌≡◌, refl, sym, ap, ◌∙◌}
use borrow.Author.Tests.{lt-ltb}
use Rattle.lines.specs.Rows.{rows_of}
use Rattle.controller.specs.declared.State.{State}
use Rattle.reading.specs.declared.Phase.{Phase}
use Rattle.reading.specs.declared.Phase.TheVariants.{Header, Rows, Ended}
use Rattle.reading.specs.declared.Reading.{Reading}
use Rattle.reading.specs.declared.Heard.{Heard}
use Rattle.reading.specs.Rows.{next_due, line_of, ends_at, shown_row, trace_row, row_of, end_of, read_from}
use Rattle.reading.specs.Whole.{read_to, is_answered}
use Rattle.handing.specs.Handing.{line_before, last_line}
use Rattle.files.specs.Told.{Told, told_of, told_from, told}
use Rattle.files.specs.Left.{last_answered, line_or, state_or, OfLastAnswered}
use Rattle.files.proofs.EachRow.{by_header, Behind, behind, read_at, OnLine, next_line, next_on_its_line}
use Rattle.files.proofs.EachRow.Behind.{reads, ends}

-- ---- One row

-- What is left behind a row is of it where it is answered, and else of what was left before.
record OfIt (line : ℕ) (reading : Reading) (heard : Heard) : Type 0 where
  of_line : last_line heard.reading.phase ≡ cond (is_answered heard.came) line (last_line reading.phase)
  of_state : heard.reading.state ≡ cond (is_answered heard.came) heard.reading.state reading.state

-- The line before the one behind a row.
line_back : (line next : ℕ) → 2 ≤ line → line + 1 ≡ next → line_before next ≡ line
line_back line next row e = let later : 2 < next = omega (arith, e) in rw (lt-ltb 2 next later) (omega (arith, e))

from_2 : (due : Due ℕ) → 2 ≤ line_of due
from_2 (Some n) = omega arith
from_2 None = omega arith

of_row : (line : ℕ) (row : List ℕ) (phase : Phase) (state : State) → OnLine line phase
    → OfIt line (read_at phase state) (row_of (read_at phase state) row)
unfolding row_of shown_row ends_at
of_row line row Header state on =
    by_header (OfIt line (read_at Header state)) state row
    (record { of_line = refl; of_state = refl })
    (record { of_line = refl; of_state = refl })
    (record { of_line = refl; of_state = refl })
of_row line row (Rows due) state on = by (behind due state row) where
  by : Behind due state row → OfIt line (read_at (Rows due) state) (trace_row due state row)
  by (reads label stamp sample form was here) =
      let next : line + 1 ≡ line_of (next_due due) =
      next_line line label form.label_fits (on ∙ ap line_of was) ∙ ap (λ (d : Due ℕ). line_of (next_due d)) (sym was) in
      rw here (record { of_line = line_back line (line_of (next_due due)) (omega (arith, on, from_2 due)) next; of_state = refl })
  by (ends refusal code here) = rw here (record { of_line = refl; of_state = refl })
of_row line row (Ended at refusal) state on = record { of_line = refl; of_state = refl }

of_end : (line : ℕ) (phase : Phase) (state : State) → OfIt line (read_at phase state) (end_of (read_at phase state))
unfolding end_of ends_at
of_end line Header state = record { of_line = refl; of_state = refl }
of_end line (Rows due) state = record { of_line = refl; of_state = refl }
of_end line (Ended at refusal) state = record { of_line = refl; of_state = refl }

-- ---- One row after the other

-- The last of the rows behind it, or this one where it is answered, or what was before.
line_in_turn : (later : Option Told) (is_one : Bool) (t : Told) (line : ℕ)
    → line_or (cond is_one t.line line) later ≡ line_or line (or_else later (cond is_one (some t) none))
unfolding or_else
line_in_turn (some u) is_one t line = refl
line_in_turn none true t line = refl
line_in_turn none false t line = refl

state_in_turn : (later : Option Told) (is_one : Bool) (t : Told) (s : State)
    → state_or (cond is_one t.after s) later ≡ state_or s (or_else later (cond is_one (some t) none))
unfolding or_else
state_in_turn (some u) is_one t s = refl
state_in_turn none true t s = refl
state_in_turn none false t s = refl

line_left : (line : ℕ) (reading : Reading) (rows : List (List ℕ)) → OnLine line reading.phase
    → last_line (read_to reading rows).phase ≡ line_or (last_line reading.phase) (last_answered (told_from line reading rows))
unfolding read_to told_from last_answered
line_left line reading [] on =
    (of_end line reading.phase reading.state).of_line
    ∙ line_in_turn none (is_answered (end_of reading).came) (told_of line [] reading (end_of reading)) (last_line reading.phase)
line_left line reading (row ∷ rows) on =
    let heard = row_of reading row in
    let later = last_answered (told_from (line + 1) heard.reading rows) in
    line_left (line + 1) heard.reading rows (next_on_its_line line row reading.phase reading.state on)
    ∙ ap (λ (l : ℕ). line_or l later) (of_row line row reading.phase reading.state on).of_line
    ∙ line_in_turn later (is_answered heard.came) (told_of line row reading heard) (last_line reading.phase)

state_left : (line : ℕ) (reading : Reading) (rows : List (List ℕ)) → OnLine line reading.phase
    → (read_to reading rows).state ≡ state_or reading.state (last_answered (told_from line reading rows))
unfolding read_to told_from last_answered
state_left line reading [] on =
    (of_end line reading.phase reading.state).of_state
    ∙ state_in_turn none (is_answered (end_of reading).came) (told_of line [] reading (end_of reading)) reading.state
state_left line reading (row ∷ rows) on =
    let heard = row_of reading row in
    let later = last_answered (told_from (line + 1) heard.reading rows) in
    state_left (line + 1) heard.reading rows (next_on_its_line line row reading.phase reading.state on)
    ∙ ap (λ (s : State). state_or s later) (of_row line row reading.phase reading.state on).of_state
    ∙ state_in_turn later (is_answered heard.came) (told_of line row reading heard) reading.state

-- The line that is named with an image is that of the last row that was answered, with 0, 3 or 4, and the state in the image is the one that
-- this row shows; where no row was answered, the line is 0 and the state the one before.
pub the_image_is_of_its_line : (state : State) (input : List ℕ) → OfLastAnswered state input
unfolding told
the_image_is_of_its_line state input =
    record { line = line_left 1 (read_from state) (rows_of input) refl; shows = state_left 1 (read_from state) (rows_of input) refl }
