-- The dump of a lesson that is brushed, every bounce forgiven, is that of the clean one, byte for byte (request K5); and so of all that is
-- written of it from a fresh start.
-- Assumes nothing.
use Rattle.std.specs.Prelude.{Option, Some}
use Prim.Native.Nat.{ℕ, suc, ◌+◌, ◌≤◌, ◌<◌}
use native.Mathlib.Omega.{arith}
use native.Mathlib.Nat.{add-zero}
use mathlib.Core.Bool.{cond}
use mathlib.Core.List.{List, [], ◌∷◌, ◌++◌}
use mathlib.Core.Path.{◌≡◌, refl, sym, ap, subst, ◌∙◌}
use borrow.Author.Tests.{ne_eqb}
use lib.Dec.{eqb}
use lib.ListN.{length}
use Rattle.trace.specs.Numbers.{greatest}
use Rattle.trace.specs.Header.{header_text as trace_header}
use Rattle.trace.specs.Written.{row_text as trace_row_text}
use Rattle.controller.specs.declared.State.{State}
use Rattle.controller.specs.Answers.{Answer}
use Rattle.controller.specs.Start.{fresh_of, started_at}
use Rattle.controller.specs.Stages.{elapsed_of}
use Rattle.controller.specs.Steps.{step_of}
use Rattle.controller.specs.Lamps.{values_of}
use Rattle.controller.specs.Samples.{Row, after}
use Rattle.image.specs.Items.{sensor_count}
use Rattle.laws.specs.Reached.{Reached}
use Rattle.laws.specs.Reached.Reached.{fresh, started}
use Rattle.laws.specs.Times.{next}
use Rattle.laws.proofs.Lifted.{reached_is_allowed}
use Rattle.laws.specs.Bounces.{AllQuiet, CountsAre0}
use Rattle.laws.proofs.Bounces.{fresh_is_quiet}
use Rattle.lesson.specs.Replay.{replay_of}
use Rattle.lesson.proofs.Law.{replay_is_fresh}
use Rattle.handing.specs.Handing.{saved_of}
use Rattle.reading.specs.declared.Phase.TheVariants.{Rows, Ended}
use Rattle.reading.specs.declared.Reading.{Reading}
use Rattle.reading.specs.declared.Heard.{Heard}
use Rattle.reading.specs.Rows.{ends_at, shown_row, answer_to, trace_row, row_of, read_from}
use Rattle.reading.proofs.Ends.{after_refusal}
use Rattle.reading.proofs.Starts.{behind_the_header}
use Rattle.dump.specs.Dumps.{Moment, dump_of}
use Rattle.dumping.specs.Moments.{wires_of, at, adds, time_after, moments_after, moments_from, waves_from, waves_of}
use Rattle.dumping.proofs.Whole.{no_moments}
use Rattle.files.specs.Traces.{Bearable, AllBearable, rows_bearing, rows_for, due_behind, Ending, Bears}
use Rattle.files.specs.Traces.Ending.{at_end, at_refusal}
use Rattle.files.specs.Brushed.{Clean, Brushed, AllForgiven, counts_dropped, but_for_counts}
use Rattle.files.proofs.EachRow.{read_at}
use Rattle.files.proofs.Traces.{row_read, a_step, next_due_lem, is_due, due_line}
use Rattle.files.proofs.Brushed.{dropped_says, dropped_shows, EachValid, same_step, valid_before, as_many, forgiven_is_valid, clean_is_forgiven, clean_leaves_no_count, brushed_file, brushed_image}

-- ---- What a step adds

-- What a wire shows is not the counts.
dropped_wires : (s : State) → wires_of (counts_dropped s) ≡ wires_of s
unfolding wires_of values_of counts_dropped
dropped_wires s = rw (dropped_shows s) (simp dropped_says)

-- A moment at the accepted time, or none.
abbrev adds_at : ℕ → ℕ → Answer → List Moment
adds_at time last a = cond (eqb a.refusal 0) (at (time + elapsed_of last a.state.stamp) a.state ∷ []) []

dropped_adds : (time last : ℕ) (a : Answer) → adds_at time last (but_for_counts a) ≡ adds_at time last a
unfolding counts_dropped
dropped_adds time last a = rw (dropped_wires a.state)

same_adds : (time : ℕ) (s t : State) (a b : Answer) → counts_dropped s ≡ counts_dropped t → but_for_counts a ≡ but_for_counts b
    → adds_at time s.stamp a ≡ adds_at time t.stamp b
unfolding counts_dropped
same_adds time s t a b alike same =
    sym (dropped_adds time s.stamp a)
    ∙ ap (adds_at time s.stamp) same
    ∙ dropped_adds time s.stamp b
    ∙ ap (λ (last : ℕ). adds_at time last b) (ap (λ (u : State). u.stamp) alike)

-- ---- A row

moments_step : (time : ℕ) (reading : Reading) (row : List ℕ) (rows : List (List ℕ)) (heard : Heard) (ms : List Moment)
    → row_of reading row ≡ heard → adds time reading heard ≡ ms
    → moments_after time reading (row ∷ rows) ≡ ms ++ moments_after (time_after time ms) heard.reading rows
unfolding moments_after
moments_step time reading row rows heard ms here added = rw (here, added)

-- A row behind row 0 that bears a sample.
sample_step : (n time : ℕ) (s : State) (r : Row) (rows : List (List ℕ)) → 0 < n → n ≤ greatest → Bearable r
    → (let answer = step_of s r.0 r.1 in
    let ms = adds_at time s.stamp answer in
    moments_after time (read_at (Rows (due_behind n)) s) (trace_row_text n r.0 r.1 ∷ rows)
    ≡ ms ++ moments_after (time_after time ms) (read_at (Rows (due_behind (n + 1))) answer.state) rows)
unfolding shown_row adds
sample_step n time s r rows later fits bears =
    let answer = step_of s r.0 r.1 in
    let ms = adds_at time s.stamp answer in
    rw (is_due n fits)
    (moments_step time (read_at (Rows (Some n)) s) (trace_row_text n r.0 r.1) rows (shown_row (Some n) n answer) ms
    (row_read n s r fits bears ∙ ap (shown_row (Some n) n) (a_step n s r later))
    (rw (ne_eqb n 0 (λ e. omega arith)))
    ∙ ap (λ (d : Option ℕ). ms ++ moments_after (time_after time ms) (read_at (Rows d) answer.state) rows) (next_due_lem n fits))

-- What follows the samples adds nothing.
ending_adds_none : (n time : ℕ) (s : State) (others : List (List ℕ)) (ending : List ℕ) → n ≤ greatest + 1 → Ending n others ending
    → moments_after time (read_at (Rows (due_behind n)) s) others ≡ []
unfolding moments_after adds ends_at row_of trace_row
ending_adds_none n time s others ending fits at_end = refl
ending_adds_none n time s others ending fits (at_refusal row rows refusal e) =
    rw (e, due_line n fits)
    (no_moments (read_at (Ended (n + 2) refusal) s) time (after_refusal (read_at (Ended (n + 2) refusal) s) (n + 2) refusal refl) rows)

-- ---- The rows behind row 0

same_moments : (n time : ℕ) (s t : State) (rows others : List Row) (rest other_rest : List (List ℕ)) (ending other_ending : List ℕ)
    → 0 < n
    → n + length rows ≤ greatest + 1
    → AllBearable rows → AllBearable others
    → Ending (n + length rows) rest ending → Ending (n + length others) other_rest other_ending
    → length s.voters ≡ sensor_count
    → counts_dropped s ≡ counts_dropped t
    → Brushed rows others
    → EachValid (after s rows).voters → EachValid (after t others).voters
    → moments_after time (read_at (Rows (due_behind n)) s) (rows_bearing n rows ++ rest)
    ≡ moments_after time (read_at (Rows (due_behind n)) t) (rows_bearing n others ++ other_rest)
unfolding Brushed rows_bearing after
same_moments n time s t [] [] rest other_rest ending other_ending later fits can other_can ends other_ends eighteen alike brushed all other =
    ending_adds_none n time s rest ending (omega arith) (subst (λ (k : ℕ). Ending k rest ending) (add-zero n) ends)
    ∙ sym (ending_adds_none n time t other_rest other_ending (omega arith) (subst (λ (k : ℕ). Ending k other_rest other_ending) (add-zero n) other_ends))
same_moments n time s t [] (q ∷ qs) rest other_rest ending other_ending later fits can other_can ends other_ends eighteen alike brushed all other = absurd brushed
same_moments n time s t (r ∷ rs) [] rest other_rest ending other_ending later fits can other_can ends other_ends eighteen alike brushed all other = absurd brushed
same_moments n time s t (r ∷ rs) (q ∷ qs) rest other_rest ending other_ending later fits can other_can ends other_ends eighteen alike brushed all other =
    let on : n + suc (length rs) ≡ n + 1 + length rs = omega arith in
    let other_on : n + suc (length qs) ≡ n + 1 + length qs = omega arith in
    let step =
    same_step s t r.0 q.0 r.1 q.1 eighteen alike brushed.0 brushed.1
    (valid_before (next s r) rs all) (valid_before (next t q) qs other)
    in
    let added = same_adds time s t (step_of s r.0 r.1) (step_of t q.0 q.1) alike step in
    let ms = adds_at time s.stamp (step_of s r.0 r.1) in
    sample_step n time s r (rows_bearing (n + 1) rs ++ rest) later (omega arith) can.0
    ∙ ap (◌++◌ ms)
    (same_moments (n + 1) (time_after time ms) (next s r) (next t q) rs qs rest other_rest ending other_ending (omega arith) (omega arith)
    can.1 other_can.1
    (subst (λ (k : ℕ). Ending k rest ending) on ends) (subst (λ (k : ℕ). Ending k other_rest other_ending) other_on other_ends)
    (as_many s (r ∷ []) ∙ eighteen) (ap (λ (a : Answer). a.state) step) brushed.2 all other)
    ∙ ap (λ (l : List Moment). l ++ moments_after (time_after time l) (read_at (Rows (due_behind (n + 1))) (next t q)) (rows_bearing (n + 1) qs ++ other_rest)) added
    ∙ sym (sample_step n time t q (rows_bearing (n + 1) qs ++ other_rest) later (omega arith) other_can.0)

-- ---- A whole input

-- The header adds nothing, and row 0 adds the start.
moments_of : (s : State) (start : Row) (rows : List Row) (rest : List (List ℕ)) → Bearable start
    → moments_after 0 (read_from s) (rows_for (start ∷ rows) ++ rest)
    ≡ at 0 (started_at start.0 s) ∷ moments_after 0 (read_at (Rows (due_behind 1)) (started_at start.0 s)) (rows_bearing 1 rows ++ rest)
unfolding rows_bearing shown_row adds answer_to
moments_of s start rows rest bears =
    moments_step 0 (read_from s) trace_header (trace_row_text 0 start.0 start.1 ∷ (rows_bearing 1 rows ++ rest)) _ [] (behind_the_header s) refl
    ∙ moments_step 0 (read_at (Rows (Some 0)) s) (trace_row_text 0 start.0 start.1) (rows_bearing 1 rows ++ rest) _
    (at 0 (started_at start.0 s) ∷ []) (row_read 0 s start (omega arith) bears) refl

-- Two inputs that bear a lesson and the same lesson brushed, with any row 0 of the same stamp, whatever they end in.
pub brushed_dump : (s : State) → Reached s → AllQuiet s
    → (start again : Row) (rows others : List Row) → start.0 ≡ again.0 → Brushed rows others
    → AllForgiven (started_at start.0 s) rows → AllForgiven (started_at start.0 s) others
    → (input other ending other_ending : List ℕ) → Bears input (start ∷ rows) ending → Bears other (again ∷ others) other_ending
    → waves_from s input ≡ waves_from s other
unfolding waves_from moments_from started_at
brushed_dump s reached quiet start again rows others times brushed forgiven other_forgiven input other ending other_ending bears other_bears =
    let from : State = started_at start.0 s in
    let same =
    same_moments 1 0 from from rows others bears.others other_bears.others ending other_ending (omega arith) (omega (arith, bears.can.labels))
    bears.can.each.1 other_bears.can.each.1 (on rows bears.others ending bears.ends) (on others other_bears.others other_ending other_bears.ends)
    (reached_is_allowed s reached).sensors refl brushed (forgiven_is_valid from quiet rows forgiven) (forgiven_is_valid from quiet others other_forgiven)
    in
    ap dump_of
    (ap (moments_after 0 (read_from s)) bears.rows
    ∙ moments_of s start rows bears.others bears.can.each.0
    ∙ ap (λ (ms : List Moment). at 0 from ∷ ms) same
    ∙ ap (λ (stamp : ℕ). at 0 (started_at stamp s) ∷ moments_after 0 (read_at (Rows (due_behind 1)) (started_at stamp s)) (rows_bearing 1 others ++ other_bears.others)) times
    ∙ sym (moments_of s again others other_bears.others other_bears.can.each.0)
    ∙ ap (moments_after 0 (read_from s)) (sym other_bears.rows))
  where
    on : (rows : List Row) (rest : List (List ℕ)) (ending : List ℕ) → Ending (suc (length rows)) rest ending → Ending (1 + length rows) rest ending
    on rows rest ending = subst (λ (k : ℕ). Ending k rest ending) (omega arith)

-- ---- From a fresh start: what `replay` writes, what `waves` writes, and what `save` saves

-- Of a clean lesson and the same lesson brushed, every bounce forgiven; the image where at the end of the brushed one every count is 0.
pub brushed_lesson : (start again : Row) (rows others : List Row) → start.0 ≡ again.0 → Clean rows → Brushed rows others
    → AllForgiven (started_at start.0 (fresh_of 0)) others
    → (input other ending : List ℕ) → Bears input (start ∷ rows) ending → Bears other (again ∷ others) ending
    → (replay_of input ≡ replay_of other) ×
    (waves_of input ≡ waves_of other) ×
    (CountsAre0 (after (started_at start.0 (fresh_of 0)) others) → saved_of (fresh_of 0) input ≡ saved_of (fresh_of 0) other)
unfolding waves_of started_at
brushed_lesson start again rows others times clean brushed forgiven input other ending bears other_bears =
    let from : State = started_at start.0 (fresh_of 0) in
    let none = clean_is_forgiven from (reached_is_allowed (fresh_of 0) (fresh 0)).sensors rows clean in
    let quiet = fresh_is_quiet 0 in (
      replay_is_fresh input
          ∙ brushed_file (fresh_of 0) (fresh 0) quiet start again rows others times brushed none forgiven input other ending bears other_bears
          ∙ sym (replay_is_fresh other),
      brushed_dump (fresh_of 0) (fresh 0) quiet start again rows others times brushed none forgiven input other ending ending bears other_bears,
      λ left. brushed_image (fresh_of 0) (fresh 0) quiet start again rows others times brushed none forgiven input other ending ending bears other_bears
          (clean_leaves_no_count from (started (fresh 0) start.0) (λ i h. (quiet i h).1) rows clean) left,
    )
