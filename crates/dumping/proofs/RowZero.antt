-- A reading has read row 0 exactly if the trace has one, whatever the controller that it starts from.
-- Assumes nothing.
use Rattle.std.specs.Prelude.{Some}
use Rattle.std.proofs.Common.{◌≡◌, ℕ, Bool, true, false, ltb, List, [], ◌∷◌, length, sym, refl, ◌∙◌, subst}
use Rattle.common.specs.Answers.{Answer, gives, refuses}
use Rattle.lines.specs.Rows.{rows_of}
use Rattle.lines.proofs.Steps.{either}
use Rattle.trace.specs.Rows.{longest_row, read_row}
use Rattle.trace.specs.Header.{header_text, same_text}
use Rattle.trace.proofs.Laws.{the_header_is_known, what_is_known_is_the_header}
use Rattle.controller.specs.declared.State.{State}
use Rattle.reading.specs.declared.Phase.TheVariants.{Rows}
use Rattle.reading.specs.declared.Reading.{Reading}
use Rattle.reading.specs.Rows.{ends_at, header_row, shown_row, no_sample, trace_row, row_of, has_started, read_from}
use Rattle.reading.specs.Whole.{read_to, some_answered}
use Rattle.reading.specs.Ends.{Silent}
use Rattle.reading.proofs.Ends.{after_refusal}
use Rattle.reading.proofs.Starts.{behind_the_header, started_exactly}
use Rattle.dumping.specs.Moments.{is_taken, start_with_row0, has_row0}

-- Where the reading is at its end, no row is answered.
pub none_answered : (reading : Reading) → Silent reading → (rows : List (List ℕ)) → some_answered reading rows ≡ false
unfolding some_answered
none_answered reading s [] = refl
none_answered reading s (row ∷ rows) = rw (s.at_row row) (none_answered reading s rows)

-- A row that ends the reading.
ended : (reading : Reading) (row : List ℕ) (rows : List (List ℕ)) (line refusal : ℕ) (state : State)
    → row_of reading row ≡ ends_at line refusal state
    → some_answered reading (row ∷ rows) ≡ false
unfolding some_answered ends_at
ended reading row rows line refusal state e =
    rw e (none_answered _ (after_refusal (ends_at line refusal state).reading line refusal refl) rows)

-- Where row 0 is due.
abbrev due_row0 : State → Reading
due_row0 state = record { phase = Rows (Some 0); state = state }

by_answer : (state : State) (row : List ℕ) (rows : List (List ℕ)) (answer : Answer (ℕ × ℕ)) → (read_row row (Some 0) no_sample).0 ≡ answer
    → some_answered (due_row0 state) (row ∷ rows) ≡ is_taken answer
unfolding some_answered row_of trace_row shown_row
by_answer state row rows (gives head) e = rw e
by_answer state row rows (refuses n) e = ended (due_row0 state) row rows 2 n state (rw e)

-- Behind the header.
from_row_0 : (state : State) (rows : List (List ℕ)) → some_answered (due_row0 state) rows ≡ start_with_row0 (header_text ∷ rows)
unfolding some_answered
from_row_0 state [] = refl
from_row_0 state (row ∷ rows) = rw the_header_is_known (by_answer state row rows _ refl)

-- A first line that is the header.
at_header : (state : State) (rows : List (List ℕ)) → some_answered (read_from state) (header_text ∷ rows) ≡ start_with_row0 (header_text ∷ rows)
unfolding some_answered
at_header state rows = rw (behind_the_header state) (from_row_0 state rows)

-- A first line that is not.
ends_there : (state : State) (header : List ℕ) (rows : List (List ℕ)) → same_text header header_text ≡ false
    → some_answered (read_from state) (header ∷ rows) ≡ false
unfolding row_of header_row
ends_there state header rows e =
    either (ltb longest_row (length header)) (λ l. ended (read_from state) header rows 1 6 state (rw l))
    (λ l. ended (read_from state) header rows 1 5 state (rw (l, e)))

no_header : (header : List ℕ) (rows : List (List ℕ)) → same_text header header_text ≡ false → start_with_row0 (header ∷ rows) ≡ false
no_header header [] e = refl
no_header header (row ∷ rows) e = rw e

by_header : (state : State) (header : List ℕ) (rows : List (List ℕ)) (t : Bool) → same_text header header_text ≡ t
    → some_answered (read_from state) (header ∷ rows) ≡ start_with_row0 (header ∷ rows)
by_header state header rows true e =
    subst (λ (h : List ℕ). some_answered (read_from state) (h ∷ rows) ≡ start_with_row0 (h ∷ rows))
    (sym (what_is_known_is_the_header header e)) (at_header state rows)
by_header state header rows false e = rw (no_header header rows e) (ends_there state header rows e)

pub answered_exactly : (state : State) (rows : List (List ℕ)) → some_answered (read_from state) rows ≡ start_with_row0 rows
unfolding some_answered
answered_exactly state [] = refl
answered_exactly state (header ∷ rows) = by_header state header rows _ refl

-- So the reading that is left has read row 0 exactly if the trace has one: then there is a controller to save.
pub row_0_read : (state : State) (input : List ℕ) → has_started (read_to (read_from state) (rows_of input)).phase ≡ has_row0 input
row_0_read state input = started_exactly state (rows_of input) ∙ answered_exactly state (rows_of input)
