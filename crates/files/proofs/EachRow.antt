-- What holds of each row of a file, from any controller and whatever the bytes of the input are: its number tells its place, its code is one
-- of document 01's, and what it bears is the controller's own answer.
-- Assumes nothing.
use Rattle.std.specs.Prelude.{Option, Some}
use Prim.Native.Nat.{ℕ, ◌+◌, ◌≤◌}
use native.Mathlib.Omega.{arith}
use mathlib.Core.Bool.{cond}
use mathlib.Core.List.{List, [], ◌∷◌}
use mathlib.Core.Logic.{◌⊎◌, inl, inr}
use mathlib.Core.Path.{◌≡◌, refl, sym, ap, subst, ◌∙◌}
use borrow.Author.Tests.{eqb-true, eqb-false, ltb-false}
use lib.Dec.{eqb, ltb}
use lib.ListN.{length}
use Rattle.common.specs.Answers.{Answer as Reads, gives, refuses}
use Rattle.lines.specs.Rows.{rows_of}
use Rattle.lines.proofs.Steps.{either}
use Rattle.trace.specs.Numbers.{greatest}
use Rattle.trace.specs.Rows.{longest_row, read_row}
use Rattle.trace.specs.Header.{header_text as trace_header, same_text}
use Rattle.trace.specs.Written.{InForm}
use Rattle.trace.proofs.Laws.{what_is_taken_is_of_the_form}
use Rattle.controller.specs.declared.State.{State}
use Rattle.controller.specs.Steps.{step_at}
use Rattle.reading.specs.declared.Phase.{Phase}
use Rattle.reading.specs.declared.Phase.TheVariants.{Header, Rows, Ended}
use Rattle.reading.specs.declared.Reading.{Reading}
use Rattle.reading.specs.declared.Came.TheVariants.{Answered}
use Rattle.reading.specs.declared.Heard.{Heard}
use Rattle.reading.specs.Rows.{next_due, line_of, untold, ends_at, header_row, answer_to, shown_row, no_sample, trace_row, row_of, end_of, read_from}
use Rattle.common.specs.Lists.{Each}
use Rattle.files.specs.Told.{Told, told_of, told_from, told}
use Rattle.files.specs.RowLaws.{Numbered, CodedBy, Coded, OwnAnswer, AnsweredRight}
use Rattle.files.specs.RowLaws.OwnAnswer.{starts, steps}
use Rattle.files.proofs.Refusals.{whichever, FiveSixSeven, row_refusals, sample_refusals}
use Rattle.files.proofs.Told.{each}

-- ---- A row by its cases

-- The first row: over 512 bytes, not the header, or the header.
pub by_header : (P : Heard → Type 0) (state : State) (row : List ℕ)
    → P (ends_at 1 6 state)
    → P (ends_at 1 5 state)
    → P (untold (record { phase = Rows (Some 0); state = state }))
    → P (header_row state row)
unfolding header_row
by_header P state row long other header =
    let opened = untold (record { phase = Rows (Some 0); state = state }) in
    let is_header = same_text row trace_header in
    let short = cond is_header opened (ends_at 1 5 state) in
    whichever P (ltb longest_row (length row)) (ends_at 1 6 state) short long (whichever P is_header opened (ends_at 1 5 state) header other)

-- A row behind it: one of the form whose label is due, or one that ends the reading.
pub data Behind (due : Option ℕ) (state : State) (row : List ℕ) : Type 0 where
  reads : (label stamp : ℕ) (sample : List ℕ)
      → InForm row label stamp sample
      → due ≡ Some label
      → trace_row due state row ≡ shown_row due label (answer_to state label stamp sample)
      → Behind due state row
  ends : (refusal : ℕ) → FiveSixSeven (refuses refusal) → trace_row due state row ≡ ends_at (line_of due) refusal state → Behind due state row

pub behind : (due : Option ℕ) (state : State) (row : List ℕ) → Behind due state row
unfolding trace_row
behind due state row = by (read_row row due no_sample).0 (read_row row due no_sample).1 refl where
  by : (answer : Reads (ℕ × ℕ)) (sample : List ℕ) → read_row row due no_sample ≡ (answer, sample) → Behind due state row
  by (gives head) sample e =
      let right = what_is_taken_is_of_the_form row due no_sample head.0 head.1 sample e in
      reads head.0 head.1 sample right.in_form right.was_due (rw e)
  by (refuses n) sample e =
      ends n (subst (λ (a : Reads (ℕ × ℕ) × List ℕ). FiveSixSeven a.0) e (row_refusals row due)) (rw e)

-- ---- What an answer bears

own_answer : (state : State) (label stamp : ℕ) (sample : List ℕ) → OwnAnswer state label stamp sample (answer_to state label stamp sample)
unfolding answer_to
own_answer state label stamp sample =
    either (eqb label 0)
    (λ e. rw (e, eqb-true label 0 e) (starts stamp sample))
    (λ e. rw e (steps label stamp sample (eqb-false label 0 e)))

answer_coded : (state : State) (label stamp : ℕ) (row sample : List ℕ) → InForm row label stamp sample
    → CodedBy (Answered label (answer_to state label stamp sample).refusal)
unfolding answer_to step_at
answer_coded state label stamp row sample form =
    either (eqb label 0) (λ e. rw e (inl refl)) (λ e. rw e (by (sample_refusals state stamp form) (eqb-false label 0 e))) where
      by : {code : ℕ} → (code ≡ 0) ⊎ (code ≡ 3) ⊎ (code ≡ 4) → ¬ (label ≡ 0) → CodedBy (Answered label code)
      by (inl e) other = inl e
      by (inr e) other = inr (other, e)

-- ---- One row after the other

abbrev pub read_at : Phase → State → Reading
read_at phase state = record { phase = phase; state = state }

record Right (t : Told) : Type 0 where
  numbered : Numbered t
  coded : Coded t
  answered : AnsweredRight t

-- The line of the row that is due.
abbrev pub OnLine : ℕ → Phase → Type 0
OnLine line Header = line ≡ 1
OnLine line (Rows due) = line ≡ line_of due
OnLine line (Ended at refusal) = Unit {0}

-- A row is right, and the next is on its line.
abbrev Goes : ℕ → List ℕ → Reading → Heard → Type 0
Goes line row reading heard = Right (told_of line row reading heard) × OnLine (line + 1) heard.reading.phase

pub next_line : (line label : ℕ) → label ≤ greatest → line ≡ label + 2 → line + 1 ≡ line_of (next_due (Some label))
next_line line label fits e =
    either (ltb label greatest) (λ t. rw t (omega arith)) (λ t. rw t (omega (arith, ltb-false label greatest t)))

ends_right : (line : ℕ) (row : List ℕ) (reading : Reading) (at refusal : ℕ) → line ≡ at → FiveSixSeven (refuses refusal)
    → Goes line row reading (ends_at at refusal reading.state)
unfolding ends_at
ends_right line row reading at refusal e code = (record { numbered = e; coded = code; answered = refl }, tt)

row_right : (line : ℕ) (row : List ℕ) (phase : Phase) (state : State) → OnLine line phase
    → Goes line row (read_at phase state) (row_of (read_at phase state) row)
unfolding row_of shown_row
row_right line row Header state e =
    let reading = read_at Header state in
    by_header (Goes line row reading) state row
    (ends_right line row reading 1 6 e (inr (inl refl)))
    (ends_right line row reading 1 5 e (inl refl))
    (record { numbered = tt; coded = tt; answered = refl }, omega arith)
row_right line row (Rows due) state e = by (behind due state row) where
  by : Behind due state row → Goes line row (read_at (Rows due) state) (trace_row due state row)
  by (reads label stamp sample form was here) =
      let on : line ≡ label + 2 = e ∙ ap line_of was in
      rw here (
        record {
          numbered = omega (arith, on);
          coded = answer_coded state label stamp row sample form;
          answered = record { stamp = stamp; sample = sample; in_form = form; own = own_answer state label stamp sample };
        },
        subst (λ (d : Option ℕ). line + 1 ≡ line_of (next_due d)) (sym was) (next_line line label form.label_fits on),
      )
  by (ends refusal code here) = rw here (ends_right line row (read_at (Rows due) state) (line_of due) refusal e code)
row_right line row (Ended at refusal) state e = (record { numbered = tt; coded = tt; answered = refl }, tt)

pub next_on_its_line : (line : ℕ) (row : List ℕ) (phase : Phase) (state : State) → OnLine line phase
    → OnLine (line + 1) (row_of (read_at phase state) row).reading.phase
next_on_its_line line row phase state e = (row_right line row phase state e).1

end_right : (line : ℕ) (phase : Phase) (state : State) → OnLine line phase
    → Right (told_of line [] (read_at phase state) (end_of (read_at phase state)))
unfolding end_of
end_right line Header state e = (ends_right line [] (read_at Header state) 1 5 e (inl refl)).0
end_right line (Rows due) state e = record { numbered = tt; coded = tt; answered = refl }
end_right line (Ended at refusal) state e = record { numbered = tt; coded = tt; answered = refl }

each_right : (line : ℕ) (reading : Reading) (rows : List (List ℕ)) → OnLine line reading.phase → Each Right (told_from line reading rows)
unfolding told_from
each_right line reading [] e = (end_right line reading.phase reading.state e, tt)
each_right line reading (row ∷ rows) e =
    let goes = row_right line row reading.phase reading.state e in
    (goes.0, each_right (line + 1) (row_of reading row).reading rows goes.1)

module _ (state : State) (input : List ℕ) where
  all_right : Each Right (told state input)
  unfolding told
  all_right = each_right 1 (read_from state) (rows_of input) refl

  -- The number of a row is its place in the input: row 0 is line 2, each label is the one of its line, and a refusal bears its line.
  pub numbers_tell_the_place : Each Numbered (told state input)
  numbers_tell_the_place = each Right Numbered (λ t r. r.numbered) (told state input) all_right

  -- Codes are 0, 3 and 4 only, of row 0 it is 0, and the refusal that ends the reading is 5, 6 or 7.
  pub codes_are : Each Coded (told state input)
  codes_are = each Right Coded (λ t r. r.coded) (told state input) all_right

  -- Each row that is answered is of the form, and what it bears is the controller's own answer to its stamp and its sample.
  pub rows_are_own_answers : Each AnsweredRight (told state input)
  rows_are_own_answers = each Right AnsweredRight (λ t r. r.answered) (told state input) all_right
