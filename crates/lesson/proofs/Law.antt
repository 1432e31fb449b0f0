-- However the input is cut into parts, a run comes to what the whole input comes to: the output header and what is written in all, and the
-- run that is left. It is the law of every run by parts (`by_parts` of the crate `reading`), where the text of a row is written of it.
-- Assumes nothing.
use Prim.Native.Nat.{ℕ, ◌≤◌}
use mathlib.Core.Bool.{false, cond, ◌&&◌}
use mathlib.Core.List.{List, [], ◌++◌}
use mathlib.Core.Path.{◌≡◌, refl, sym, ap, subst, ◌∙◌}
use lib.Dec.{eqb, leb}
use lib.ListN.{length}
use Rattle.lines.specs.Rows.{rows_of}
use Rattle.controller.specs.declared.State.{State}
use Rattle.controller.specs.Start.{fresh_of}
use Rattle.output.specs.Rows.{header_text}
use Rattle.reading.specs.declared.Phase.TheVariants.{Ended}
use Rattle.reading.specs.declared.Reading.{Reading}
use Rattle.reading.specs.declared.Run.{Run}
use Rattle.reading.specs.Rows.{read_from, nothing_read}
use Rattle.reading.specs.Whole.{read_to}
use Rattle.reading.specs.Ends.{Silent}
use Rattle.reading.specs.Parts.{line_bytes, between, run_from, new_run}
use Rattle.reading.specs.Runs.{Outcome, AllRoom, input_of}
use Rattle.reading.specs.Fills.{goes_on, Filled, Finished}
use Rattle.reading.proofs.ByParts as by
use Rattle.reading.proofs.Fills as fills
use Rattle.lesson.specs.Answers.{Took}
use Rattle.lesson.specs.Replay.{text_told, written_of, replay_of, resumed_of}
use Rattle.lesson.specs.Parts.{room, finish_of, answer_of, fill_of, written_in_all, left_in_all}
use Rattle.lesson.proofs.Filling.{quiet}

-- Where the reading is at its end nothing more is written.
pub nothing_written : (reading : Reading) → Silent reading → (rows : List (List ℕ)) → written_of reading rows ≡ []
unfolding written_of
nothing_written reading s rows =
    ap (λ (o : Outcome (Unit {0})). o.0) (by.nothing_more text_told quiet Prim.tt reading s rows)

-- A run of `replay` is one that goes on from a fresh controller.
pub replay_is_fresh : (input : List ℕ) → replay_of input ≡ resumed_of (fresh_of 0) input
unfolding replay_of resumed_of nothing_read
replay_is_fresh input = refl

-- However the input is cut into parts, with any line buffer of 512 bytes and any output buffers that have room:
module _ (lends : ℕ → List ℕ) (rooms : AllRoom room lends) (line : List ℕ) (h : length line ≡ line_bytes) (parts : List (List ℕ)) where
  -- the output header and what is written in all are the output of the whole input,
  pub resumed : (state : State) → header_text ++ written_in_all lends (run_from state) line parts ≡ resumed_of state (input_of parts)
  unfolding resumed_of written_of
  resumed state =
      ap (λ (o : Outcome (Unit {0})). header_text ++ o.0)
      (by.by_parts text_told quiet room lends rooms Prim.tt state line parts h)

  -- also in a run of `replay`;
  pub replayed : header_text ++ written_in_all lends new_run line parts ≡ replay_of (input_of parts)
  unfolding new_run
  replayed = resumed (fresh_of 0) ∙ sym (replay_is_fresh (input_of parts))

  -- and the run that is left bears the reading of the whole input.
  pub left : (state : State) → left_in_all lends (run_from state) line parts ≡ between (read_to (read_from state) (rows_of (input_of parts)))
  left state =
      ap (λ (o : Outcome (Unit {0})). o.2) (by.by_parts text_told quiet room lends rooms Prim.tt state line parts h)
      ∙ by.left_of_rows text_told Prim.tt (read_from state) (rows_of (input_of parts))

  -- A program may stop where a refusal has ended the reading: whatever still follows, nothing more would be written, and the reading
  -- that is left would be the same.
  pub ended_for_good : (run : Run) (at refusal : ℕ) → run.reading.phase ≡ Ended at refusal
      → (written_in_all lends run line parts ≡ []) × (left_in_all lends run line parts ≡ between run.reading)
  ended_for_good run at refusal e =
      let same = by.ended_for_good text_told quiet room lends rooms Prim.tt run line parts at refusal h e in
      (ap (λ (o : Outcome (Unit {0})). o.0) same, ap (λ (o : Outcome (Unit {0})). o.2) same)

-- A call of `fill`, and of `finish`, by what the contract says of it:
module _ (run : Run) (line out : List ℕ) (took : Took) (line' out' : List ℕ) where
  module _ (part : List ℕ) (e : (took, line', out') ≡ fill_of run part line out) where
    -- refusal 8 exactly if the output buffer has not 64 bytes or the line buffer not 512.
    pub eight_exactly : took.refusal ≡ cond (leb room (length out) && eqb (length line) line_bytes) 0 8
    unfolding fill_of
    eight_exactly = ap (λ (x : Took × List ℕ × List ℕ). x.0.refusal) e ∙ fills.eight_exactly text_told quiet room part Prim.tt run line out

    -- With both, what was to come of the lesson is what is written and what is still to come,
    pub filled : length line ≡ line_bytes → room ≤ length out → Filled text_told Prim.tt run part line out (answer_of took line' out')
    unfolding fill_of
    filled full long =
        subst (λ (x : Took × List ℕ × List ℕ). Filled text_told Prim.tt run part line out (answer_of x.0 x.1 x.2)) (sym e)
        (fills.fill_right text_told quiet room part Prim.tt run line out full long)

    -- and the call ends only where the part is used up, a refusal has ended the reading, or less than 64 bytes are left.
    pub fill_ends : length line ≡ line_bytes → room ≤ length out → goes_on room part (answer_of took line' out') ≡ false
    unfolding fill_of
    fill_ends full long =
        ap (λ (x : Took × List ℕ × List ℕ). goes_on room part (answer_of x.0 x.1 x.2)) e
        ∙ fills.fill_ends text_told quiet room part Prim.tt run line out full long

  -- The end of the input gives all that was to come.
  pub finished : (took, line', out') ≡ finish_of run line out → length line ≡ line_bytes → room ≤ length out
      → Finished text_told Prim.tt run line (answer_of took line' out')
  unfolding finish_of
  finished e full long =
      subst (λ (x : Took × List ℕ × List ℕ). Finished text_told Prim.tt run line (answer_of x.0 x.1 x.2)) (sym e)
      (fills.finish_all text_told quiet room [] Prim.tt run line out full long)
