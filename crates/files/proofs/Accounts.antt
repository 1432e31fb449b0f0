-- Every input, whatever its bytes: it has no header, or it bears some samples, up to its end or to the refusal that ends it.
-- Assumes nothing.
use Prim.Native.Nat.{ℕ, suc, ◌+◌, ◌≤◌}
use native.Mathlib.Omega.{arith}
use native.Mathlib.Nat.{add-zero, zero-add}
use mathlib.Core.List.{List, [], ◌∷◌, ◌++◌, append-nil}
use mathlib.Core.Logic.{inl, inr}
use mathlib.Core.Path.{◌≡◌, refl, ap, subst, ◌∙◌}
use lib.Dec.{ltb}
use lib.ListN.{length}
use Rattle.common.specs.Answers.{Answer as Reads, gives, refuses}
use Rattle.lines.specs.Rows.{rows_of}
use Rattle.lines.proofs.Steps.{either}
use Rattle.trace.specs.Numbers.{greatest}
use Rattle.trace.specs.Rows.{longest_row, read_row}
use Rattle.trace.specs.Header.{header_text as trace_header, same_text}
use Rattle.trace.specs.Written.{row_text as trace_row_text}
use Rattle.trace.proofs.Laws.{what_is_taken_is_of_the_form, what_is_known_is_the_header}
use Rattle.controller.specs.declared.State.{State}
use Rattle.controller.specs.Samples.{Row}
use Rattle.output.specs.Rows.{header_text, refusal_text}
use Rattle.reading.specs.declared.Phase.TheVariants.{Ended}
use Rattle.reading.specs.Rows.{line_of, ends_at, header_row, no_sample, row_of, end_of, read_from}
use Rattle.reading.specs.Runs.{in_rows}
use Rattle.reading.proofs.Ends.{after_refusal}
use Rattle.lesson.specs.Replay.{written_of, resumed_of}
use Rattle.lesson.proofs.Law.{nothing_written}
use Rattle.files.specs.Traces.{AllBearable, rows_bearing, due_behind, Ending, Account}
use Rattle.files.specs.Traces.Ending.{at_end, at_refusal}
use Rattle.files.specs.Traces.Account.{no_header, has_header}
use Rattle.files.proofs.EachRow.{read_at}
use Rattle.files.proofs.Traces.{written_step, due_line}

-- ---- Behind the header

record Bearing (n : ℕ) (rows : List (List ℕ)) : Type 0 where
  samples : List Row
  each : AllBearable samples
  labels : n + length samples ≤ greatest + 1
  others : List (List ℕ)
  are : rows ≡ rows_bearing n samples ++ others
  ending : List ℕ
  ends : Ending (n + length samples) others ending

row_bears : (n : ℕ) (row : List ℕ) (rows : List (List ℕ)) → n ≤ greatest + 1 → (n + 1 ≤ greatest + 1 → Bearing (n + 1) rows)
    → (answer : Reads (ℕ × ℕ)) (sample : List ℕ)
    → read_row row (due_behind n) no_sample ≡ (answer, sample)
    → Bearing n (row ∷ rows)
unfolding rows_bearing
row_bears n row rows fits more (gives head) sample e =
    let right = what_is_taken_is_of_the_form row (due_behind n) no_sample head.0 head.1 sample e in
    let same : head.0 ≡ n = omega (arith, due_line n fits, ap line_of right.was_due) in
    let text : row ≡ trace_row_text n head.1 sample = right.in_form.text ∙ ap (λ (l : ℕ). trace_row_text l head.1 sample) same in
    let others = more (omega (arith, right.in_form.label_fits)) in
    let on : n + 1 + length others.samples ≡ n + suc (length others.samples) = omega arith in
    record {
      samples = (head.1, sample) ∷ others.samples;
      each = ((right.in_form.stamp_fits, right.in_form.whole, right.in_form.only_bits), others.each);
      labels = omega (arith, others.labels);
      others = others.others;
      are = rw (← others.are, ← text);
      ending = others.ending;
      ends = subst (λ (k : ℕ). Ending k others.others others.ending) on others.ends;
    }
row_bears n row rows fits more (refuses refusal) sample e =
    record {
      samples = [];
      each = tt;
      labels = omega arith;
      others = row ∷ rows;
      are = refl;
      ending = refusal_text (n + 0 + 2) refusal;
      ends = at_refusal row rows refusal (rw (add-zero n) (ap (λ (x : Reads (ℕ × ℕ) × List ℕ). x.0) e));
    }

rows_bear : (n : ℕ) (rows : List (List ℕ)) → n ≤ greatest + 1 → Bearing n rows
unfolding rows_bearing
rows_bear n [] fits = record { samples = []; each = tt; labels = omega arith; others = []; are = refl; ending = []; ends = at_end }
rows_bear n (row ∷ rows) fits =
    let read = read_row row (due_behind n) no_sample in
    row_bears n row rows fits (λ more. rows_bear (n + 1) rows more) read.0 read.1 refl

-- ---- From the header on

module _ (input : List ℕ) where
  ended_at_once : (row : List ℕ) (rows : List (List ℕ)) (refusal : ℕ) → rows_of input ≡ row ∷ rows
      → ((s : State) → row_of (read_from s) row ≡ ends_at 1 refusal s)
      → (s : State)
      → resumed_of s input ≡ header_text ++ refusal_text 1 refusal
  unfolding resumed_of ends_at
  ended_at_once row rows refusal are e s =
      let ended = read_at (Ended 1 refusal) s in
      ap (◌++◌ header_text)
      (ap (written_of (read_from s)) are
      ∙ written_step (read_from s) row rows (ends_at 1 refusal s) (e s)
      ∙ ap (◌++◌ (refusal_text 1 refusal)) (nothing_written ended (after_refusal ended 1 refusal refl) rows)
      ∙ append-nil (refusal_text 1 refusal))

  by_rows : (rows : List (List ℕ)) → rows_of input ≡ rows → Account input
  unfolding resumed_of written_of in_rows end_of ends_at row_of header_row
  by_rows [] are = no_header 5 (inl refl) (λ s. rw are)
  by_rows (row ∷ rows) are =
      either (ltb longest_row (length row))
      (λ long. no_header 6 (inr refl) (ended_at_once row rows 6 are (λ s. rw long)))
      (λ short. either (same_text row trace_header)
      (λ same.
      let is = what_is_known_is_the_header row same in
      let some = rows_bear 0 rows (omega arith) in
      has_header some.samples some.ending (record {
        can = record { each = some.each; labels = omega (arith, some.labels) };
        others = some.others;
        rows = are ∙ rw (is, ← some.are);
        ends = subst (λ (k : ℕ). Ending k some.others some.ending) (zero-add (length some.samples)) some.ends;
      }))
      (λ other. no_header 5 (inl refl) (ended_at_once row rows 5 are (λ s. rw (short, other)))))

  pub every_input_has_its_account : Account input
  every_input_has_its_account = by_rows (rows_of input) refl
