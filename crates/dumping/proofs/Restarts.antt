-- The stamp that a controller bears before a run is not used, for row 0 gives the start stamp: the dump of a lesson that goes on is the same
-- from a controller at any stamp.
-- Assumes nothing.
use Rattle.std.specs.Prelude.{Some}
use Rattle.std.proofs.Common.{◌≡◌, ℕ, List, [], ◌∷◌, ◌++◌, sym, refl, ap, ◌∙◌}
use Rattle.common.specs.Answers.{Answer as RowAnswer, gives, refuses}
use Rattle.lines.specs.Rows.{rows_of}
use Rattle.trace.specs.Rows.{read_row}
use Rattle.controller.specs.declared.State.{State}
use Rattle.controller.specs.Start.{started_at}
use Rattle.reading.specs.declared.Phase.{Phase}
use Rattle.reading.specs.declared.Phase.TheVariants.{Header, Rows, Ended}
use Rattle.reading.specs.declared.Reading.{Reading}
use Rattle.reading.specs.declared.Heard.{Heard}
use Rattle.reading.specs.Rows.{ends_at, shown_row, no_sample, trace_row, row_of}
use Rattle.reading.proofs.Ends.{after_refusal}
use Rattle.reading.proofs.FirstRow.{First, first_row}
use Rattle.reading.proofs.FirstRow.First.{ends as fails, opens}
use Rattle.reading.proofs.Starts.{row_0_starts}
use Rattle.dump.specs.Dumps.{Moment, dump_of}
use Rattle.dumping.specs.Moments.{adds, time_after, moments_after, moments_from, waves_from}
use Rattle.dumping.proofs.Whole.{no_moments}

module _ (s : State) (stamp : ℕ) where
  -- The two readings at a phase, and that the same moments come from both.
  abbrev here : Phase → Reading
  here phase = record { phase = phase; state = s }

  abbrev there : Phase → Reading
  there phase = record { phase = phase; state = started_at stamp s }

  abbrev Same : Phase → List (List ℕ) → Type 0
  Same phase rows = moments_after 0 (there phase) rows ≡ moments_after 0 (here phase) rows

  -- One row, by what it comes to in both.
  one_row : (phase : Phase) (row : List ℕ) (rows : List (List ℕ)) (a b : Heard) (ms : List Moment)
      → row_of (there phase) row ≡ a
      → row_of (here phase) row ≡ b
      → adds 0 (there phase) a ≡ ms
      → adds 0 (here phase) b ≡ ms
      → moments_after (time_after 0 ms) a.reading rows ≡ moments_after (time_after 0 ms) b.reading rows
      → Same phase (row ∷ rows)
  unfolding moments_after
  one_row phase row rows a b ms e f p q others = rw (e, f, p, q) (ap (λ (l : List Moment). ms ++ l) others)

  -- A row that ends the reading in both.
  ended : (line refusal : ℕ) (rows : List (List ℕ)) → Same (Ended line refusal) rows
  ended line refusal rows =
      no_moments (there (Ended line refusal)) 0 (after_refusal (there (Ended line refusal)) line refusal refl) rows
      ∙ sym (no_moments (here (Ended line refusal)) 0 (after_refusal (here (Ended line refusal)) line refusal refl) rows)

  ends : (phase : Phase) (row : List ℕ) (rows : List (List ℕ)) (line refusal : ℕ)
      → row_of (there phase) row ≡ ends_at line refusal (started_at stamp s)
      → row_of (here phase) row ≡ ends_at line refusal s
      → Same phase (row ∷ rows)
  unfolding ends_at adds
  ends phase row rows line refusal e f = one_row phase row rows _ _ [] e f refl refl (ended line refusal rows)

  -- Where row 0 is due: it gives the start stamp in both.
  row_0 : (row : List ℕ) (rows : List (List ℕ)) (answer : RowAnswer (ℕ × ℕ)) (sample : List ℕ)
      → read_row row (Some 0) no_sample ≡ (answer, sample)
      → Same (Rows (Some 0)) (row ∷ rows)
  unfolding started_at row_of trace_row shown_row adds
  row_0 row rows (gives head) sample e =
      one_row (Rows (Some 0)) row rows _ _ _ (row_0_starts (started_at stamp s) row head.0 head.1 sample e)
      (row_0_starts s row head.0 head.1 sample e) refl refl refl
  row_0 row rows (refuses n) sample e = ends (Rows (Some 0)) row rows 2 n (rw e) (rw e)

  from_row_0 : (rows : List (List ℕ)) → Same (Rows (Some 0)) rows
  unfolding moments_after
  from_row_0 [] = refl
  from_row_0 (row ∷ rows) = row_0 row rows (read_row row (Some 0) no_sample).0 (read_row row (Some 0) no_sample).1 refl

  -- Where the header is due.
  header : (row : List ℕ) (rows : List (List ℕ)) → First row → Same Header (row ∷ rows)
  unfolding row_of adds
  header row rows (fails refusal e) = ends Header row rows 1 refusal (e (started_at stamp s)) (e s)
  header row rows (opens e) = one_row Header row rows _ _ [] (e (started_at stamp s)) (e s) refl refl (from_row_0 rows)

  from_header : (rows : List (List ℕ)) → Same Header rows
  unfolding moments_after
  from_header [] = refl
  from_header (row ∷ rows) = header row rows (first_row row)

  -- The whole run.
  pub start_stamp_not_used : (input : List ℕ) → waves_from (started_at stamp s) input ≡ waves_from s input
  unfolding waves_from moments_from
  start_stamp_not_used input = ap dump_of (from_header (rows_of input))
