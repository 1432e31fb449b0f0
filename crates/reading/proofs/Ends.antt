-- How a reading ends: a row over 512 bytes is read as one that is over, a refusal ends the reading, after it there is nothing
-- more to tell, and once a row is read there is nothing to tell of the end of the input. Each by the phases.
-- Assumes nothing.
use Rattle.std.specs.Prelude.{Option}
use Prim.Native.Nat.{ℕ, ◌<◌}
use mathlib.Core.List.{List}
use mathlib.Core.Path.{◌≡◌, refl}
use borrow.Author.Tests.{lt-ltb}
use lib.ListN.{length}
use Rattle.common.specs.Answers.{Answer as RowAnswer, gives, refuses}
use Rattle.trace.specs.Rows.{longest_row, read_row}
use Rattle.controller.specs.declared.State.{State}
use Rattle.reading.specs.declared.Phase.{Phase}
use Rattle.reading.specs.declared.Phase.TheVariants.{Header, Rows, Ended}
use Rattle.reading.specs.declared.Reading.{Reading}
use Rattle.reading.specs.declared.Came.TheVariants.{Refused}
use Rattle.reading.specs.declared.Heard.{Heard}
use Rattle.reading.specs.Rows.{untold, ends_at, header_row, shown_row, as_read, no_sample, trace_row, row_of, over_of, end_of}
use Rattle.reading.specs.Ends.{Silent}
use Rattle.reading.proofs.FirstRow.{by_first_row}

-- ---- A row over 512 bytes

over_in : (phase : Phase) (state : State) (row : List ℕ) → longest_row < length row
    → row_of (record { phase = phase; state = state }) row ≡ over_of (record { phase = phase; state = state })
unfolding row_of over_of header_row trace_row no_sample read_row
over_in Header state row h = rw (lt-ltb longest_row (length row) h)
over_in (Rows due) state row h = rw (lt-ltb longest_row (length row) h)
over_in (Ended line refusal) state row h = refl

pub over_row : (reading : Reading) (row : List ℕ) → longest_row < length row → row_of reading row ≡ over_of reading
over_row reading row h = over_in reading.phase reading.state row h

-- ---- After a refusal

refused_in : (line refusal : ℕ) (state : State) → Silent (record { phase = Ended line refusal; state = state })
unfolding row_of over_of end_of
refused_in line refusal state = record { at_row = λ row. refl; at_over = refl; at_end = refl }

ended_in : (phase : Phase) (line refusal : ℕ) (state : State) → phase ≡ Ended line refusal
    → Silent (record { phase = phase; state = state })
ended_in phase line refusal state e = rw e (refused_in line refusal state)

pub after_refusal : (reading : Reading) (line refusal : ℕ) → reading.phase ≡ Ended line refusal → Silent reading
after_refusal reading line refusal e = ended_in reading.phase line refusal reading.state e

after_over_in : (phase : Phase) (state : State) → Silent (over_of (record { phase = phase; state = state })).reading
unfolding over_of ends_at
after_over_in Header state = refused_in 1 6 state
after_over_in (Rows due) state = refused_in _ 6 state
after_over_in (Ended line refusal) state = refused_in line refusal state

pub after_over : (reading : Reading) → Silent (over_of reading).reading
after_over reading = after_over_in reading.phase reading.state

-- ---- Behind a row

-- A row that comes to a refusal ends the reading there, and none leaves the header still due: so the end of the input comes to
-- nothing.
record Past (heard : Heard) : Type 0 where
  ends : (line refusal : ℕ) → heard.came ≡ Refused line refusal → heard.reading.phase ≡ Ended line refusal
  quiet : end_of heard.reading ≡ untold heard.reading

refusal_past : (line refusal : ℕ) (state : State) → Past (ends_at line refusal state)
unfolding ends_at end_of
refusal_past line refusal state = record { ends = λ l n e. cc; quiet = refl }

header_past : (state : State) (row : List ℕ) → Past (header_row state row)
unfolding end_of
header_past state row =
    by_first_row Past state row (λ refusal. refusal_past 1 refusal state) (record { ends = λ l n g. cc; quiet = refl })

read_past : (due : Option ℕ) (state : State) (answer : RowAnswer (ℕ × ℕ)) (sample : List ℕ) → Past (as_read due state answer sample)
unfolding shown_row end_of
read_past due state (gives head) sample = record { ends = λ l n g. cc; quiet = refl }
read_past due state (refuses n) sample = refusal_past _ n state

past_in : (phase : Phase) (state : State) (row : List ℕ) → Past (row_of (record { phase = phase; state = state }) row)
unfolding row_of trace_row end_of
past_in Header state row = header_past state row
past_in (Rows due) state row = read_past due state (read_row row due no_sample).0 (read_row row due no_sample).1
past_in (Ended line refusal) state row = record { ends = λ l n g. cc; quiet = refl }

-- A row that comes to a refusal ends the reading there.
pub refused_row : (reading : Reading) (row : List ℕ) (line refusal : ℕ) → (row_of reading row).came ≡ Refused line refusal
    → (row_of reading row).reading.phase ≡ Ended line refusal
refused_row reading row line refusal e = (past_in reading.phase reading.state row).ends line refusal e

pub past_row : (reading : Reading) (row : List ℕ) → end_of (row_of reading row).reading ≡ untold (row_of reading row).reading
past_row reading row = (past_in reading.phase reading.state row).quiet
