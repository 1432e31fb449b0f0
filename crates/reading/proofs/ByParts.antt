-- However the input is cut into parts, and whatever is made of its rows, a run by parts comes to what the rows of the whole input come to: what
-- is written in all, what is carried on, and the run that is left. By induction over the turns: what the rows to come still come to, behind
-- what was written, stays the same.
-- Assumes nothing.
use Prim.Native.Nat.{ℕ, zero, suc, ◌≤◌}
use native.Mathlib.Omega.{arith}
use mathlib.Core.Bool.{false}
use mathlib.Core.List.{List, [], ◌∷◌, ◌++◌, append-nil}
use mathlib.Core.Path.{◌≡◌, refl, sym, ap, ◌∙◌}
use borrow.Author.Tests.{eq-eqb, le-ltb}
use lib.ListN.{length, take, drop, length-drop}
use lib.Seq.{take-append_seam, drop-length}
use Rattle.lines.specs.Rows.{rows_of}
use Rattle.lines.specs.Cuts.{rows_from, cut_of, last_of}
use Rattle.lines.specs.declared.Taken.{Taken}
use Rattle.lines.specs.declared.Taken.TheVariants.{Row, More, Over}
use Rattle.lines.specs.declared.Final.{Final}
use Rattle.lines.specs.declared.Final.TheVariants.{Nothing as NoRow, Last, Wider}
use Rattle.lines.proofs.Law.{StartsOver, cut_law, last_law, start_law}
use Rattle.controller.specs.declared.State.{State}
use Rattle.reading.specs.declared.Phase.TheVariants.{Ended}
use Rattle.reading.specs.declared.Reading.{Reading}
use Rattle.reading.specs.declared.Came.TheVariants.{Nothing}
use Rattle.reading.specs.declared.Run.{Run}
use Rattle.reading.specs.Answers.{Next}
use Rattle.reading.specs.Rows.{row_of, over_of, read_from}
use Rattle.reading.specs.Whole.{read_to}
use Rattle.reading.specs.Ends.{Silent}
use Rattle.reading.specs.Parts.{line_bytes, between, run_from, after_cut, after_last, take_of, finish_of}
use Rattle.reading.specs.Runs.{Teller, told_of, behind, in_rows, to_come, Right, Answer, calls, lent, take_by, finish_by, input_of, wrote, in_turns, turns_for, AllRoom, in_all}
use Rattle.reading.proofs.Ends.{over_row, after_refusal, after_over, past_row}

module _ {A : Type 0} (tell : Teller A) where
  -- The run that is left bears the reading of the whole.
  pub left_of_rows : (a : A) (reading : Reading) (rows : List (List ℕ)) → (in_rows tell a reading rows).2 ≡ between (read_to reading rows)
  unfolding in_rows read_to
  left_of_rows a reading [] = refl
  left_of_rows a reading (row ∷ rows) = left_of_rows (told_of tell a reading (row_of reading row)).0 (row_of reading row).reading rows

-- Where nothing is made of what comes to nothing:
module _ {A : Type 0} (tell : Teller A) (quiet : (a : A) (before after : State) → tell a before Nothing after ≡ (a, [])) where
  -- ---- What rows come to

  -- Where the reading is at its end, nothing more is written.
  pub nothing_more : (a : A) (reading : Reading) → Silent reading → (rows : List (List ℕ))
      → in_rows tell a reading rows ≡ ([], a, between reading)
  unfolding in_rows
  nothing_more a reading s [] = rw (s.at_end, quiet a reading.state reading.state)
  nothing_more a reading s (row ∷ rows) = rw (s.at_row row, quiet a reading.state reading.state) (nothing_more a reading s rows)

  -- Rows of which the first is over the line come to what such a row comes to, and no more.
  starts_over : (a : A) (reading : Reading) (rows : List (List ℕ)) → StartsOver line_bytes rows
      → (let told = told_of tell a reading (over_of reading) in
      in_rows tell a reading rows ≡ (told.1, told.0, between (over_of reading).reading))
  unfolding in_rows
  starts_over a reading rows s =
      let told = told_of tell a reading (over_of reading) in
      rw (
        s.are,
        over_row reading s.first s.over,
        nothing_more told.0 (over_of reading).reading (after_over reading) s.others,
        append-nil told.1,
      )

  -- ---- A call

  module _ (a : A) (run : Run) (line : List ℕ) (h : length line ≡ line_bytes) where
    by_cut : (part : List ℕ) (r : Taken) (line' : List ℕ) → (r, line') ≡ cut_of part 0 line run.len run.cr
        → Right tell a run part line (after_cut run (length part) (r, line'))
    unfolding to_come in_rows
    by_cut part (Row used n) line' e =
        let l = cut_law part 0 line run.len run.cr (Row used n) line' e in
        record {
          taken = refl;
          full = l.0 ∙ h;
          inside = l.1.inside;
          forth = λ k. l.1.forth;
          same = λ rest. rw (l.1.are rest, start_law (drop used part ++ rest));
        }
    by_cut part (More n c) line' e =
        let l = cut_law part 0 line run.len run.cr (More n c) line' e in
        let s = run.reading.state in
        record {
          taken = refl;
          full = l.0 ∙ h;
          inside = omega arith;
          forth = λ k. k;
          same = λ rest. rw (l.1.are rest, drop-length part, quiet a s s);
        }
    by_cut part Over line' e =
        let l = cut_law part 0 line run.len run.cr Over line' e in
        let over = over_of run.reading in
        let told = told_of tell a run.reading over in
        let rows : List ℕ → List (List ℕ) = λ rest. rows_from (take run.len line) run.cr (part ++ rest) in
        record {
          taken = refl;
          full = l.0 ∙ h;
          inside = omega arith;
          forth = λ k. k;
          same = λ rest.
              rw (
                starts_over a run.reading (rows rest) (rw (l.0 ∙ h) at (l.1 rest)),
                nothing_more told.0 over.reading (after_over run.reading) (rows_from [] false (drop (length part) part ++ rest)),
                append-nil told.1,
              );
        }

    -- Of any run under way: a call writes what was to come, and the rest is still to come.
    pub take_right : (part : List ℕ) → Right tell a run part line (take_of run part line)
    unfolding take_of
    take_right part = rw (eq-eqb (length line) line_bytes h) (by_cut part _ _ refl)

    -- What the end of the input comes to is all that was to come.
    by_last : (r : Final) (line' : List ℕ) → (r, line') ≡ last_of line run.len run.cr
        → (let next = (after_last run (r, line')).0 in
        let told = tell a run.reading.state next.came next.run.reading.state in
        to_come tell a run line [] ≡ (told.1, told.0, next.run))
    unfolding to_come in_rows
    by_last NoRow line' e = rw (last_law line run.len run.cr NoRow line' e).1
    by_last (Last n) line' e =
        let heard = row_of run.reading (take n line') in
        let told = told_of tell a run.reading heard in
        let s = heard.reading.state in
        rw (
          (last_law line run.len run.cr (Last n) line' e).1.1,
          past_row run.reading (take n line'),
          quiet told.0 s s,
          append-nil told.1,
        )
    by_last Wider line' e =
        let l = last_law line run.len run.cr Wider line' e in
        starts_over a run.reading (rows_from (take run.len line) run.cr []) (rw (l.0 ∙ h) at l.1)

    -- The end of the input gives all that was to come.
    pub finish_right : (let next = (finish_of run line).0 in
        let told = tell a run.reading.state next.came next.run.reading.state in
        to_come tell a run line [] ≡ (told.1, told.0, next.run))
    unfolding finish_of
    finish_right = rw (eq-eqb (length line) line_bytes h) (by_last _ _ refl)

  -- Where a refusal has ended the reading nothing is to come, whatever follows.
  pub ended_nothing_to_come : (a : A) (run : Run) (line rest : List ℕ) (at refusal : ℕ) → run.reading.phase ≡ Ended at refusal
      → to_come tell a run line rest ≡ ([], a, between run.reading)
  unfolding to_come
  ended_nothing_to_come a run line rest at refusal e = nothing_more a run.reading (after_refusal run.reading at refusal e) _

  -- ---- The output buffers

  module _ (room : ℕ) (a : A) (run : Run) (line out : List ℕ) (fits : room ≤ length out) where
    -- With room in the output buffer nothing is refused,
    taken_in : (answer : Answer A) → lent room a run line out answer ≡ answer
    taken_in answer = rw (le-ltb (length out) room fits)

    -- and what was written is the text.
    text_of : (next : Next × List ℕ)
        → wrote (calls tell a run next out) ≡ (tell a run.reading.state next.0.came next.0.run.reading.state).1
    text_of next = take-append_seam (tell a run.reading.state next.0.came next.0.run.reading.state).1 _

  -- ---- The whole run

  module _ (room : ℕ) (lends : ℕ → List ℕ) (rooms : AllRoom room lends) where
    in_turns_lem : (turns : ℕ) (a : A) (run : Run) (line : List ℕ) (parts : List (List ℕ)) → length line ≡ line_bytes → turns_for parts ≤ turns
        → in_turns tell room lends turns a run line parts ≡ to_come tell a run line (input_of parts)
    unfolding in_turns take_by finish_by
    in_turns_lem zero a run line [] h enough = absurd (omega arith)
    in_turns_lem zero a run line (part ∷ parts) h enough = absurd (omega arith)
    in_turns_lem (suc turns) a run line [] h enough =
        let next = finish_of run line in
        rw (taken_in room a run line (lends turns) (rooms turns) (calls tell a run next (lends turns)), text_of room a run line (lends turns) (rooms turns) next)
        (sym (finish_right a run line h))
    in_turns_lem (suc turns) a run line ([] ∷ parts) h enough = in_turns_lem turns a run line parts h (omega arith)
    in_turns_lem (suc turns) a run line ((b ∷ part) ∷ parts) h enough =
        let next = take_of run (b ∷ part) line in
        let right = take_right a run line h (b ∷ part) in
        let told = tell a run.reading.state next.0.came next.0.run.reading.state in
        let fewer = length-drop next.0.used (b ∷ part) in
        rw (
          taken_in room a run line (lends turns) (rooms turns) (calls tell a run next (lends turns)),
          text_of room a run line (lends turns) (rooms turns) next,
        )
        (ap (behind told.1)
        (in_turns_lem turns told.0 next.0.run next.1 (drop next.0.used (b ∷ part) ∷ parts) right.full
        (omega (arith, enough, fewer, right.forth (omega arith), right.inside)))
        ∙ sym (right.same (input_of parts)))

    -- However the input is cut into parts, with any line buffer of 512 bytes and any output buffers that have room: from any run under way, what
    -- is written in all, carried on and left is what was to come of it.
    pub by_parts_from : (a : A) (run : Run) (line : List ℕ) (parts : List (List ℕ)) → length line ≡ line_bytes
        → in_all tell room lends a run line parts ≡ to_come tell a run line (input_of parts)
    by_parts_from a run line parts h = in_turns_lem (turns_for parts) a run line parts h (omega arith)

    -- So a run from its start comes to what the rows of the whole input come to.
    pub by_parts : (a : A) (state : State) (line : List ℕ) (parts : List (List ℕ)) → length line ≡ line_bytes
        → in_all tell room lends a (run_from state) line parts ≡ in_rows tell a (read_from state) (rows_of (input_of parts))
    unfolding run_from to_come
    by_parts a state line parts h =
        by_parts_from a (run_from state) line parts h ∙ rw (start_law (input_of parts))

    -- A program may stop where a refusal has ended the reading: whatever still follows, nothing more would be written, and what is carried on
    -- and the reading would stay.
    pub ended_for_good : (a : A) (run : Run) (line : List ℕ) (parts : List (List ℕ)) (at refusal : ℕ) → length line ≡ line_bytes
        → run.reading.phase ≡ Ended at refusal
        → in_all tell room lends a run line parts ≡ ([], a, between run.reading)
    ended_for_good a run line parts at refusal h e =
        by_parts_from a run line parts h ∙ ended_nothing_to_come a run line (input_of parts) at refusal e
