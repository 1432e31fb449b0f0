-- What a new start stamp and every step keep of a controller, a whole trace keeps.
-- Assumes nothing.
use Rattle.std.specs.Prelude.{Option}
use Prim.Native.Nat.{ℕ}
use mathlib.Core.List.{List, [], ◌∷◌}
use lib.Dec.{eqb}
use Rattle.common.specs.Answers.{Answer as RowAnswer, gives, refuses}
use Rattle.lines.proofs.Steps.{either}
use Rattle.trace.specs.Rows.{read_row}
use Rattle.controller.specs.declared.State.{State}
use Rattle.controller.specs.Start.{started_at}
use Rattle.controller.specs.Steps.{step_of}
use Rattle.reading.specs.declared.Phase.{Phase}
use Rattle.reading.specs.declared.Phase.TheVariants.{Header, Rows, Ended}
use Rattle.reading.specs.declared.Reading.{Reading}
use Rattle.reading.specs.declared.Heard.{Heard}
use Rattle.reading.specs.Rows.{ends_at, answer_to, shown_row, as_read, no_sample, trace_row, row_of, end_of}
use Rattle.reading.specs.Whole.{read_to}
use Rattle.reading.proofs.FirstRow.{by_first_row}

module _ (P : State → Type 0) (starts : (s : State) (stamp : ℕ) → P s → P (started_at stamp s))
    (steps : (s : State) (stamp : ℕ) (bytes : List ℕ) → P s → P (step_of s stamp bytes).state) where
  abbrev After : Heard → Type 0
  After heard = P heard.reading.state

  answer_keeps : (s : State) (label stamp : ℕ) (sample : List ℕ) → P s → P (answer_to s label stamp sample).state
  unfolding answer_to
  answer_keeps s label stamp sample p = either (eqb label 0) (λ e. rw e (starts s stamp p)) (λ e. rw e (steps s stamp sample p))

  read_keeps : (due : Option ℕ) (s : State) (answer : RowAnswer (ℕ × ℕ)) (sample : List ℕ) → P s → After (as_read due s answer sample)
  unfolding shown_row ends_at
  read_keeps due s (gives head) sample p = answer_keeps s head.0 head.1 sample p
  read_keeps due s (refuses n) sample p = p

  row_keeps : (phase : Phase) (s : State) (row : List ℕ) → P s → After (row_of (record { phase = phase; state = s }) row)
  unfolding row_of trace_row ends_at
  row_keeps Header s row p = by_first_row After s row (λ refusal. p) p
  row_keeps (Rows due) s row p = read_keeps due s (read_row row due no_sample).0 (read_row row due no_sample).1 p
  row_keeps (Ended line refusal) s row p = p

  end_keeps : (phase : Phase) (s : State) → P s → After (end_of (record { phase = phase; state = s }))
  unfolding end_of ends_at
  end_keeps Header s p = p
  end_keeps (Rows due) s p = p
  end_keeps (Ended line refusal) s p = p

  pub trace_keeps : (reading : Reading) (rows : List (List ℕ)) → P reading.state → P (read_to reading rows).state
  unfolding read_to
  trace_keeps reading [] p = end_keeps reading.phase reading.state p
  trace_keeps reading (row ∷ rows) p =
      trace_keeps (row_of reading row).reading rows (row_keeps reading.phase reading.state row p)
