-- The file of any input is the controller's own answers to the samples that it bears, up to its end or to the refusal that ends it; for a
-- trace in form these are all.
-- Assumes nothing.
use Rattle.std.specs.Prelude.{Option, Some}
use Prim.Native.Nat.{ℕ, suc, ◌+◌, ◌≤◌, ◌<◌}
use native.Mathlib.Omega.{arith}
use mathlib.Core.Bool.{Bool, true, false, ◌||◌}
use mathlib.Core.List.{List, [], ◌∷◌, ◌++◌, map, append_assoc, append-nil}
use mathlib.Core.Path.{◌≡◌, refl, sym, ap, subst, ◌∙◌}
use native.Mathlib.Nat.{add-zero}
use borrow.Author.Tests.{ne_eqb, ltb-true, ltb-false, le-leb, lt-leb, leb-false}
use lib.Dec.{ltb, leb}
use lib.ListN.{length}
use Rattle.common.specs.Answers.{refuses}
use Rattle.common.specs.Ascii.{joined_by_commas}
use Rattle.common.specs.Decimal.{decimal}
use Rattle.lines.specs.Rows.{rows_of}
use Rattle.lines.proofs.Steps.{either}
use Rattle.names.specs.Words.{sensor_names}
use Rattle.trace.specs.Numbers.{greatest}
use Rattle.trace.specs.Rows.{read_row}
use Rattle.trace.specs.Header.{header_names, header_text as trace_header}
use Rattle.trace.specs.Written.{triple_texts, row_text as trace_row_text, InForm}
use Rattle.trace.proofs.Decimals.{decimal_over}
use Rattle.trace.proofs.TripleTexts.{texts_over}
use Rattle.trace.proofs.Laws.{a_row_of_the_form_is_taken}
use Rattle.controller.specs.declared.State.{State}
use Rattle.controller.specs.Start.{started_at}
use Rattle.controller.specs.Steps.{step_of}
use Rattle.controller.specs.Lamps.{shown_of}
use Rattle.controller.specs.Samples.{Row, answers, after}
use Rattle.output.specs.Rows.{header_text, row_text, refusal_text}
use Rattle.reading.specs.declared.Phase.TheVariants.{Rows, Ended}
use Rattle.reading.specs.declared.Reading.{Reading}
use Rattle.reading.specs.declared.Heard.{Heard}
use Rattle.reading.specs.Rows.{next_due, line_of, ends_at, answer_to, shown_row, no_sample, trace_row, row_of, end_of, has_started, read_from}
use Rattle.reading.specs.Runs.{in_rows}
use Rattle.reading.specs.SessionS.{trace_of}
use Rattle.reading.specs.Whole.{read_to, some_answered}
use Rattle.reading.proofs.Ends.{after_refusal}
use Rattle.reading.proofs.Starts.{behind_the_header, started_in_all}
use Rattle.lesson.specs.Replay.{text_by, written_of, resumed_of}
use Rattle.lesson.proofs.Law.{nothing_written}
use Rattle.files.specs.Left.{left_of}
use Rattle.files.specs.Traces.{
  Bearable,
  AllBearable,
  InOneTrace,
  rows_bearing,
  rows_for,
  trace_bearing,
  due_behind,
  Ending,
  Bears,
  body_of,
  labelled,
  file_of,
  bodies_to,
}
use Rattle.files.specs.Traces.Ending.{at_end, at_refusal}
use Rattle.files.proofs.EachRow.{read_at}
use Rattle.files.proofs.Cutting.{NoCr, NoneHasCr, clean, tested, cut_again, fields, all_digits}

-- ---- One row

pub row_read : (n : ℕ) (s : State) (r : Row) → n ≤ greatest → Bearable r
    → row_of (read_at (Rows (Some n)) s) (trace_row_text n r.0 r.1) ≡ shown_row (Some n) n (answer_to s n r.0 r.1)
unfolding row_of trace_row no_sample
row_read n s r fits bears =
    let form : InForm (trace_row_text n r.0 r.1) n r.0 r.1 =
    record { label_fits = fits; stamp_fits = bears.0; whole = bears.1; only_bits = bears.2; text = refl } in
    rw (a_row_of_the_form_is_taken _ n r.0 r.1 no_sample form refl)

pub a_step : (n : ℕ) (s : State) (r : Row) → 0 < n → answer_to s n r.0 r.1 ≡ step_of s r.0 r.1
unfolding answer_to
a_step n s r later = rw (ne_eqb n 0 (λ e. omega arith))

-- The label that is due behind it, and its line.
pub next_due_lem : (n : ℕ) → n ≤ greatest → next_due (Some n) ≡ due_behind (n + 1)
next_due_lem n fits =
    either (ltb n greatest)
    (λ t. let e : n + 1 ≤ greatest = omega (arith, ltb-true n greatest t) in rw (t, le-leb (n + 1) greatest e))
    (λ t. let e : greatest < n + 1 = omega (arith, ltb-false n greatest t) in rw (t, lt-leb (n + 1) greatest e))

pub is_due : (n : ℕ) → n ≤ greatest → due_behind n ≡ Some n
is_due n fits = rw (le-leb n greatest fits)

pub due_line : (n : ℕ) → n ≤ greatest + 1 → line_of (due_behind n) ≡ n + 2
due_line n fits =
    either (leb n greatest) (λ t. rw t) (λ t. rw t (omega (arith, leb-false n greatest t)))

-- One row in front of others, by what it comes to.
pub written_step : (reading : Reading) (row : List ℕ) (rows : List (List ℕ)) (heard : Heard) → row_of reading row ≡ heard
    → written_of reading (row ∷ rows) ≡ text_by heard.came heard.reading.state ++ written_of heard.reading rows
unfolding written_of in_rows
written_step reading row rows heard e = rw e

left_step : (reading : Reading) (row : List ℕ) (rows : List (List ℕ)) (heard : Heard) → row_of reading row ≡ heard
    → read_to reading (row ∷ rows) ≡ read_to heard.reading rows
unfolding read_to
left_step reading row rows heard e = ap (λ (h : Heard). read_to h.reading rows) e

-- ---- The rows behind row 0

-- What is written of them and of what follows, and the controller that they leave.
record Read (reading : Reading) (n : ℕ) (samples : List Row) (others : List (List ℕ)) (ending : List ℕ) : Type 0 where
  written : written_of reading (rows_bearing n samples ++ others) ≡ labelled n (map body_of (answers reading.state samples)) ++ ending
  left : (read_to reading (rows_bearing n samples ++ others)).state ≡ after reading.state samples

-- A refusal ends it.
nothing_left : (line refusal : ℕ) (s : State) (rows : List (List ℕ)) → (read_to (read_at (Ended line refusal) s) rows).state ≡ s
unfolding read_to row_of end_of
nothing_left line refusal s [] = refl
nothing_left line refusal s (row ∷ rows) = nothing_left line refusal s rows

refused : (n : ℕ) (s : State) (row : List ℕ) (rows : List (List ℕ)) (refusal : ℕ) → n ≤ greatest + 1
    → (read_row row (due_behind n) no_sample).0 ≡ refuses refusal
    → Read (read_at (Rows (due_behind n)) s) n [] (row ∷ rows) (refusal_text (n + 2) refusal)
unfolding rows_bearing labelled answers after ends_at row_of trace_row
refused n s row rows refusal fits e =
    let reading = read_at (Rows (due_behind n)) s in
    let heard = ends_at (n + 2) refusal s in
    let here : row_of reading row ≡ heard = rw (e, due_line n fits) in
    let ended = read_at (Ended (n + 2) refusal) s in
    record {
      written =
          written_step reading row rows heard here
          ∙ ap (◌++◌ (refusal_text (n + 2) refusal)) (nothing_written ended (after_refusal ended (n + 2) refusal refl) rows)
          ∙ append-nil (refusal_text (n + 2) refusal);
      left = ap (λ (l : Reading). l.state) (left_step reading row rows heard here) ∙ nothing_left (n + 2) refusal s rows;
    }

ending_read : (n : ℕ) (s : State) (others : List (List ℕ)) (ending : List ℕ) → n ≤ greatest + 1 → Ending n others ending
    → Read (read_at (Rows (due_behind n)) s) n [] others ending
unfolding rows_bearing labelled answers after written_of in_rows end_of read_to
ending_read n s others ending fits at_end = record { written = refl; left = refl }
ending_read n s others ending fits (at_refusal row rows refusal e) = refused n s row rows refusal fits e

one_more : (n : ℕ) (s : State) (r : Row) (rs : List Row) (others : List (List ℕ)) (ending : List ℕ) → 0 < n → n ≤ greatest → Bearable r
    → Read (read_at (Rows (due_behind (n + 1))) (step_of s r.0 r.1).state) (n + 1) rs others ending
    → Read (read_at (Rows (due_behind n)) s) n (r ∷ rs) others ending
unfolding rows_bearing labelled answers after shown_row
one_more n s r rs others ending later fits bears more =
    let reading = read_at (Rows (Some n)) s in
    let answer = step_of s r.0 r.1 in
    let heard = shown_row (Some n) n answer in
    let row = trace_row_text n r.0 r.1 in
    let rows = rows_bearing (n + 1) rs ++ others in
    let here : row_of reading row ≡ heard = row_read n s r fits bears ∙ ap (shown_row (Some n) n) (a_step n s r later) in
    let text = text_by heard.came answer.state in
    let next : Read heard.reading (n + 1) rs others ending =
    subst (λ (d : Option ℕ). Read (read_at (Rows d) answer.state) (n + 1) rs others ending) (sym (next_due_lem n fits)) more in
    subst (λ (d : Option ℕ). Read (read_at (Rows d) s) n (r ∷ rs) others ending) (sym (is_due n fits))
    (record {
      written =
          written_step reading row rows heard here
          ∙ ap (◌++◌ text) next.written
          ∙ sym (append_assoc text (labelled (n + 1) (map body_of (answers answer.state rs))) ending);
      left = ap (λ (l : Reading). l.state) (left_step reading row rows heard here) ∙ next.left;
    })

rows_read : (n : ℕ) (s : State) (samples : List Row) (others : List (List ℕ)) (ending : List ℕ) → 0 < n → n + length samples ≤ greatest + 1
    → AllBearable samples
    → Ending (n + length samples) others ending
    → Read (read_at (Rows (due_behind n)) s) n samples others ending
rows_read n s [] others ending later fits bears ends =
    ending_read n s others ending (omega arith) (subst (λ (k : ℕ). Ending k others ending) (add-zero n) ends)
rows_read n s (r ∷ rs) others ending later fits bears ends =
    let on : n + suc (length rs) ≡ n + 1 + length rs = omega arith in
    one_more n s r rs others ending later (omega arith) bears.0
    (rows_read (n + 1) (step_of s r.0 r.1).state rs others ending (omega arith) (omega arith) bears.1
    (subst (λ (k : ℕ). Ending k others ending) on ends))

-- ---- A whole input

or_true : (t : Bool) → (t || true) ≡ true
or_true true = refl
or_true false = refl

module _ (s : State) (first : Row) (rest : List Row) (others : List (List ℕ)) (ending : List ℕ) (can : InOneTrace (first ∷ rest))
    (ends : Ending (length (first ∷ rest)) others ending) where
  abbrev start : State
  start = started_at first.0 s

  abbrev all_rows : List (List ℕ)
  all_rows = rows_for (first ∷ rest) ++ others

  -- The header, and row 0.
  abbrev rest_rows : List (List ℕ)
  rest_rows = rows_bearing 1 rest ++ others

  abbrev row_0 : List ℕ
  row_0 = trace_row_text 0 first.0 first.1

  starts_at : row_of (read_at (Rows (Some 0)) s) row_0 ≡ shown_row (Some 0) 0 (record { refusal = 0; state = start })
  unfolding answer_to
  starts_at = row_read 0 s first (omega arith) can.each.0

  behind_row_0 : Read (read_at (Rows (Some 1)) start) 1 rest others ending
  behind_row_0 =
      let on : suc (length rest) ≡ 1 + length rest = omega arith in
      rows_read 1 start rest others ending (omega arith) (omega (arith, can.labels)) can.each.1
      (subst (λ (k : ℕ). Ending k others ending) on ends)

  all_written : written_of (read_from s) all_rows ≡ labelled 0 (bodies_to s (first ∷ rest)) ++ ending
  unfolding rows_bearing labelled shown_row
  all_written =
      let text = row_text 0 0 (shown_of start) in
      written_step (read_from s) trace_header (row_0 ∷ rest_rows) _ (behind_the_header s)
      ∙ written_step (read_at (Rows (Some 0)) s) row_0 rest_rows _ starts_at
      ∙ ap (◌++◌ text) behind_row_0.written
      ∙ sym (append_assoc text (labelled 1 (map body_of (answers start rest))) ending)

  left_is : read_to (read_from s) all_rows ≡ read_to (read_at (Rows (Some 1)) start) rest_rows
  unfolding rows_bearing shown_row
  left_is =
      left_step (read_from s) trace_header (row_0 ∷ rest_rows) _ (behind_the_header s)
      ∙ left_step (read_at (Rows (Some 0)) s) row_0 rest_rows _ starts_at

  all_left : (read_to (read_from s) all_rows).state ≡ after start rest
  all_left = ap (λ (l : Reading). l.state) left_is ∙ behind_row_0.left

  all_started : has_started (read_to (read_from s) all_rows).phase ≡ true
  all_started =
      ap (λ (l : Reading). has_started l.phase) left_is
      ∙ started_in_all (read_at (Rows (Some 1)) start) rest_rows
      ∙ or_true (some_answered (read_at (Rows (Some 1)) start) rest_rows)

header_alone : (s : State) (others : List (List ℕ)) (ending : List ℕ) → Ending 0 others ending
    → written_of (read_from s) (trace_header ∷ others) ≡ ending
unfolding rows_bearing labelled answers
header_alone s others ending ends =
    written_step (read_from s) trace_header others _ (behind_the_header s) ∙ (ending_read 0 s others ending (omega arith) ends).written

written_of_lem : (s : State) (samples : List Row) (others : List (List ℕ)) (ending : List ℕ) → InOneTrace samples
    → Ending (length samples) others ending
    → written_of (read_from s) (rows_for samples ++ others) ≡ labelled 0 (bodies_to s samples) ++ ending
unfolding rows_bearing labelled
written_of_lem s [] others ending can ends = header_alone s others ending ends
written_of_lem s (first ∷ rest) others ending can ends = all_written s first rest others ending can ends

-- Of any input: the file is the controller's own answers to the samples that it bears, up to its end or to the refusal that ends it.
pub what_it_bears_is_answered : (s : State) (input : List ℕ) (samples : List Row) (ending : List ℕ) → Bears input samples ending
    → resumed_of s input ≡ file_of (bodies_to s samples) ++ ending
unfolding resumed_of file_of
what_it_bears_is_answered s input samples ending bears =
    ap (λ (rows : List (List ℕ)). header_text ++ written_of (read_from s) rows) bears.rows
    ∙ ap (◌++◌ header_text) (written_of_lem s samples bears.others ending bears.can bears.ends)
    ∙ sym (append_assoc header_text (labelled 0 (bodies_to s samples)) ending)

-- The controller that it leaves, and that row 0 was read.
module _ (s : State) (input : List ℕ) (first : Row) (rest : List Row) (ending : List ℕ) (bears : Bears input (first ∷ rest) ending) where
  pub left_of_it : (left_of s input).state ≡ after (started_at first.0 s) rest
  left_of_it =
      ap (λ (rows : List (List ℕ)). (read_to (read_from s) rows).state) bears.rows
      ∙ all_left s first rest bears.others ending bears.can bears.ends

  pub row_0_was_read : has_started (left_of s input).phase ≡ true
  row_0_was_read =
      ap (λ (rows : List (List ℕ)). has_started (read_to (read_from s) rows).phase) bears.rows
      ∙ all_started s first rest bears.others ending bears.can bears.ends

-- ---- Its bytes

rows_clean : (label : ℕ) (samples : List Row) → NoneHasCr (rows_bearing label samples)
unfolding rows_bearing trace_row_text decimal
rows_clean label [] = tt
rows_clean label (r ∷ rs) = (
  fields (decimal label ∷ decimal r.0 ∷ triple_texts 18 r.1)
      (all_digits (decimal label ∷ decimal r.0 ∷ triple_texts 18 r.1)
      (decimal_over 20 label, (decimal_over 20 r.0, texts_over 18 r.1))),
  rows_clean (label + 1) rs,
)

header_clean : NoCr trace_header
unfolding trace_header header_names sensor_names joined_by_commas clean
header_clean = tested trace_header refl

pub rows_of_trace : (samples : List Row) → rows_of (trace_bearing samples) ≡ rows_for samples
unfolding trace_bearing trace_of
rows_of_trace samples = cut_again (rows_for samples) (header_clean, rows_clean 0 samples)

-- A trace in form bears its samples, and then it ends.
pub a_trace_bears_its_samples : (samples : List Row) → InOneTrace samples → Bears (trace_bearing samples) samples []
a_trace_bears_its_samples samples can =
    record { can = can; others = []; rows = rows_of_trace samples ∙ sym (append-nil (rows_for samples)); ends = at_end }

-- So its file is the controller's own answers to them.
pub a_trace_in_form_is_answered : (s : State) (samples : List Row) → InOneTrace samples
    → resumed_of s (trace_bearing samples) ≡ file_of (bodies_to s samples)
a_trace_in_form_is_answered s samples can =
    what_it_bears_is_answered s (trace_bearing samples) samples [] (a_trace_bears_its_samples samples can)
    ∙ append-nil (file_of (bodies_to s samples))
