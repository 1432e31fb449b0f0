-- How a reading starts. Row 0 gives the controller that is held its start stamp, which in a run of `replay` is a fresh start; and
-- row 0 has been read exactly if some row was answered.
-- Assumes nothing.
use Rattle.std.specs.Prelude.{Option, Some, None}
use Prim.Native.Nat.{ℕ, ◌+◌}
use native.Mathlib.Omega.{arith}
use mathlib.Core.Bool.{Bool, true, false, ◌||◌, or-false}
use mathlib.Core.List.{List, [], ◌∷◌}
use mathlib.Core.Path.{◌≡◌, refl, ap, ◌∙◌}
use borrow.Author.Tests.{lt-ltb}
use lib.Dec.{ltb}
use Rattle.common.specs.Answers.{Answer as RowAnswer, gives, refuses}
use Rattle.common.specs.Ascii.{joined_by_commas}
use Rattle.lines.proofs.Steps.{either}
use Rattle.trace.specs.Numbers.{greatest}
use Rattle.trace.specs.Rows.{read_row}
use Rattle.names.specs.Words.{sensor_names}
use Rattle.trace.specs.Header.{header_names, header_text as trace_header, same_text}
use Rattle.trace.proofs.Laws.{what_is_taken_is_of_the_form}
use Rattle.controller.specs.declared.State.{State}
use Rattle.controller.specs.Start.{fresh_of, started_at}
use Rattle.reading.specs.declared.Phase.{Phase}
use Rattle.reading.specs.declared.Phase.TheVariants.{Header, Rows, Ended}
use Rattle.reading.specs.declared.Reading.{Reading}
use Rattle.reading.specs.declared.Heard.{Heard}
use Rattle.reading.specs.Rows.{
  next_due,
  line_of,
  untold,
  ends_at,
  header_row,
  answer_to,
  shown_row,
  as_read,
  no_sample,
  trace_row,
  row_of,
  end_of,
  has_started,
  read_from,
  nothing_read,
}
use Rattle.reading.specs.Whole.{read_to, is_answered, some_answered}
use Rattle.reading.proofs.FirstRow.{by_first_row}

-- ---- Row 0

-- A fresh controller at a new start stamp is a fresh start at that stamp.
pub row_0_is_a_fresh_start : (stamp : ℕ) → started_at stamp (fresh_of 0) ≡ fresh_of stamp
unfolding started_at fresh_of
row_0_is_a_fresh_start stamp = refl

-- Behind the header row 0 is due, and the controller is as it was.
pub behind_the_header : (state : State)
    → row_of (read_from state) trace_header ≡ untold (record { phase = Rows (Some 0); state = state })
unfolding row_of header_row trace_header header_names sensor_names joined_by_commas same_text
behind_the_header state = refl

-- A row that is read there is row 0: it is answered with 0, and the controller goes on at its stamp.
pub row_0_starts : (state : State) (row : List ℕ) (label stamp : ℕ) (sample : List ℕ)
    → read_row row (Some 0) no_sample ≡ (gives (label, stamp), sample)
    → row_of (record { phase = Rows (Some 0); state = state }) row
    ≡ shown_row (Some 0) 0 (record { refusal = 0; state = started_at stamp state })
unfolding row_of trace_row answer_to
row_0_starts state row label stamp sample e =
    let due = (what_is_taken_is_of_the_form row (Some 0) no_sample label stamp sample e).was_due in
    let same : label ≡ 0 = cc in rw (e, same)

-- In a run of `replay` it is a fresh start.
pub row_0_starts_fresh : (row : List ℕ) (label stamp : ℕ) (sample : List ℕ)
    → read_row row (Some 0) no_sample ≡ (gives (label, stamp), sample)
    → row_of (row_of nothing_read trace_header).reading row ≡ shown_row (Some 0) 0 (record { refusal = 0; state = fresh_of stamp })
unfolding nothing_read
row_0_starts_fresh row label stamp sample e =
    rw (behind_the_header (fresh_of 0), ← row_0_is_a_fresh_start stamp) (row_0_starts (fresh_of 0) row label stamp sample e)

-- ---- Whether row 0 has been read

-- After a row it has, exactly if the row was answered or it had before.
abbrev StartsBy : Bool → Heard → Type 0
StartsBy before heard = has_started heard.reading.phase ≡ (is_answered heard.came || before)

-- Behind a row that is answered the next line is past row 0's.
next_line : (due : Option ℕ) → ltb 2 (line_of (next_due due)) ≡ true
next_line (Some n) = either (ltb n greatest) (λ t. rw t (lt-ltb 2 (n + 1 + 2) (omega arith))) (λ t. rw t)
next_line None = refl

read_starts : (due : Option ℕ) (state : State) (answer : RowAnswer (ℕ × ℕ)) (sample : List ℕ)
    → StartsBy (ltb 2 (line_of due)) (as_read due state answer sample)
unfolding shown_row ends_at
read_starts due state (gives head) sample = next_line due
read_starts due state (refuses n) sample = refl

starts_in : (phase : Phase) (state : State) (row : List ℕ)
    → StartsBy (has_started phase) (row_of (record { phase = phase; state = state }) row)
unfolding row_of trace_row ends_at
starts_in Header state row = by_first_row (StartsBy false) state row (λ refusal. refl) refl
starts_in (Rows due) state row = read_starts due state (read_row row due no_sample).0 (read_row row due no_sample).1
starts_in (Ended line refusal) state row = refl

-- So it is for every reading.
pub started_by : (reading : Reading) (row : List ℕ)
    → has_started (row_of reading row).reading.phase ≡ (is_answered (row_of reading row).came || has_started reading.phase)
started_by reading row = starts_in reading.phase reading.state row

-- The end of the input changes nothing in it.
end_starts : (phase : Phase) (state : State)
    → has_started (end_of (record { phase = phase; state = state })).reading.phase ≡ has_started phase
unfolding end_of ends_at
end_starts Header state = refl
end_starts (Rows due) state = refl
end_starts (Ended line refusal) state = refl

-- The first row, the others, and what was before, in their order.
in_turn : (first others before : Bool) → (others || (first || before)) ≡ (first || others || before)
in_turn true true before = refl
in_turn true false before = refl
in_turn false true before = refl
in_turn false false before = refl

-- After all rows it has, exactly if some row was answered or it had before.
pub started_in_all : (reading : Reading) (rows : List (List ℕ))
    → has_started (read_to reading rows).phase ≡ (some_answered reading rows || has_started reading.phase)
unfolding read_to some_answered
started_in_all reading [] = end_starts reading.phase reading.state
started_in_all reading (row ∷ rows) =
    let heard = row_of reading row in
    started_in_all heard.reading rows
    ∙ ap (λ (t : Bool). some_answered heard.reading rows || t) (started_by reading row)
    ∙ in_turn (is_answered heard.came) (some_answered heard.reading rows) (has_started reading.phase)

-- From the start on, exactly if some row was answered.
pub started_exactly : (state : State) (rows : List (List ℕ))
    → has_started (read_to (read_from state) rows).phase ≡ some_answered (read_from state) rows
started_exactly state rows = started_in_all (read_from state) rows ∙ or-false (some_answered (read_from state) rows)
