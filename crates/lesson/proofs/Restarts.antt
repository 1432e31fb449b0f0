-- The stamp that a controller bears before a run is not used, for row 0 gives the start stamp: a lesson goes on in the same way from a
-- controller at any stamp.
-- Assumes nothing.
use Rattle.std.specs.Prelude.{Some}
use Prim.Native.Nat.{ℕ}
use mathlib.Core.List.{List, [], ◌∷◌, ◌++◌}
use mathlib.Core.Path.{◌≡◌, refl, sym, ap, ap₂, ◌∙◌}
use Rattle.common.specs.Answers.{Answer as RowAnswer, gives, refuses}
use Rattle.lines.specs.Rows.{rows_of}
use Rattle.trace.specs.Rows.{read_row}
use Rattle.controller.specs.declared.State.{State}
use Rattle.controller.specs.Start.{started_at}
use Rattle.output.specs.Rows.{header_text}
use Rattle.reading.specs.declared.Phase.{Phase}
use Rattle.reading.specs.declared.Phase.TheVariants.{Header, Rows, Ended}
use Rattle.reading.specs.declared.Reading.{Reading}
use Rattle.reading.specs.declared.Heard.{Heard}
use Rattle.reading.specs.Rows.{ends_at, no_sample, trace_row, row_of, end_of}
use Rattle.reading.proofs.Ends.{after_refusal}
use Rattle.reading.proofs.FirstRow.{First, first_row}
use Rattle.reading.proofs.FirstRow.First.{ends as fails, opens}
use Rattle.reading.proofs.Starts.{row_0_starts}
use Rattle.reading.specs.Runs.{in_rows}
use Rattle.lesson.specs.Replay.{text_by, written_of, resumed_of}
use Rattle.lesson.proofs.Law.{nothing_written}

-- What is written of a row.
abbrev text_of : Heard → List ℕ
text_of heard = text_by heard.came heard.reading.state

module _ (s : State) (stamp : ℕ) where
  -- The two readings at a phase, and that the same is written from both.
  abbrev here : Phase → Reading
  here phase = record { phase = phase; state = s }

  abbrev there : Phase → Reading
  there phase = record { phase = phase; state = started_at stamp s }

  abbrev Same : Phase → List (List ℕ) → Type 0
  Same phase rows = written_of (there phase) rows ≡ written_of (here phase) rows

  -- One row, by what it comes to in both.
  one_row : (phase : Phase) (row : List ℕ) (rows : List (List ℕ)) (a b : Heard)
      → row_of (there phase) row ≡ a
      → row_of (here phase) row ≡ b
      → text_of a ≡ text_of b
      → written_of a.reading rows ≡ written_of b.reading rows
      → Same phase (row ∷ rows)
  unfolding written_of in_rows
  one_row phase row rows a b e f text others = rw (e, f) (ap₂ (λ (l m : List ℕ). l ++ m) text others)

  -- A row that ends the reading in both.
  ended : (line refusal : ℕ) (rows : List (List ℕ)) → Same (Ended line refusal) rows
  ended line refusal rows =
      nothing_written (there (Ended line refusal)) (after_refusal (there (Ended line refusal)) line refusal refl) rows
      ∙ sym (nothing_written (here (Ended line refusal)) (after_refusal (here (Ended line refusal)) line refusal refl) rows)

  ends : (phase : Phase) (row : List ℕ) (rows : List (List ℕ)) (line refusal : ℕ)
      → row_of (there phase) row ≡ ends_at line refusal (started_at stamp s)
      → row_of (here phase) row ≡ ends_at line refusal s
      → Same phase (row ∷ rows)
  unfolding ends_at
  ends phase row rows line refusal e f = one_row phase row rows _ _ e f refl (ended line refusal rows)

  -- Where row 0 is due: it gives the start stamp in both.
  row_0 : (row : List ℕ) (rows : List (List ℕ)) (answer : RowAnswer (ℕ × ℕ)) (sample : List ℕ)
      → read_row row (Some 0) no_sample ≡ (answer, sample)
      → Same (Rows (Some 0)) (row ∷ rows)
  unfolding started_at row_of trace_row
  row_0 row rows (gives head) sample e =
      one_row (Rows (Some 0)) row rows _ _ (row_0_starts (started_at stamp s) row head.0 head.1 sample e)
      (row_0_starts s row head.0 head.1 sample e) refl refl
  row_0 row rows (refuses n) sample e = ends (Rows (Some 0)) row rows 2 n (rw e) (rw e)

  from_row_0 : (rows : List (List ℕ)) → Same (Rows (Some 0)) rows
  unfolding written_of in_rows end_of
  from_row_0 [] = refl
  from_row_0 (row ∷ rows) = row_0 row rows (read_row row (Some 0) no_sample).0 (read_row row (Some 0) no_sample).1 refl

  -- Where the header is due.
  header : (row : List ℕ) (rows : List (List ℕ)) → First row → Same Header (row ∷ rows)
  unfolding row_of
  header row rows (fails refusal e) = ends Header row rows 1 refusal (e (started_at stamp s)) (e s)
  header row rows (opens e) = one_row Header row rows _ _ (e (started_at stamp s)) (e s) refl (from_row_0 rows)

  from_header : (rows : List (List ℕ)) → Same Header rows
  unfolding written_of in_rows end_of ends_at
  from_header [] = refl
  from_header (row ∷ rows) = header row rows (first_row row)

  -- The whole run.
  pub start_stamp_not_used : (input : List ℕ) → resumed_of (started_at stamp s) input ≡ resumed_of s input
  unfolding resumed_of
  start_stamp_not_used input = ap (◌++◌ header_text) (from_header (rows_of input))
