-- However the trace is cut into parts, what is written in all is the dump of the whole. It is the law of every run by parts (`by_parts` of the
-- crate `reading`), where what the rows give is the dump of their moments (proofs/Whole.antt).
-- Assumes nothing.
use Rattle.std.proofs.Common.{◌≡◌, ℕ, ◌≤◌, Bool, true, false, cond, ◌&&◌, eqb, leb, List, [], length, sym, ap, ◌∙◌, subst}
use Rattle.lines.specs.Rows.{rows_of}
use Rattle.lines.proofs.Law.{start_law}
use Rattle.controller.specs.declared.State.{State}
use Rattle.controller.specs.Start.{fresh_of}
use Rattle.reading.specs.declared.Phase.TheVariants.{Ended}
use Rattle.reading.specs.Parts.{line_bytes, run_from}
use Rattle.reading.specs.Runs.{Outcome, to_come, AllRoom, input_of}
use Rattle.reading.specs.Fills.{goes_on, Filled, Finished}
use Rattle.reading.proofs.ByParts as by
use Rattle.reading.proofs.Fills as fills
use Rattle.dump.specs.declared.Dump.{Dump}
use Rattle.dump.specs.Dumps.{Rising, dump_of}
use Rattle.dump.specs.Writes.{starts_with}
use Rattle.dumping.specs.declared.Waves.{Waves}
use Rattle.dumping.specs.Answers.{Took}
use Rattle.dumping.specs.Moments.{has_row0, StartWith, moments_from, waves_from, waves_of}
use Rattle.dumping.specs.Parts.{given, nothing_told, from_rows, begun_from, new_waves, room, finish_of, answer_of, fill_of, written_in_all}
use Rattle.dumping.proofs.RowZero.{answered_exactly}
use Rattle.dumping.proofs.Whole.{RiseIf, from_header}

-- ---- The moments of a trace

-- By whether the trace has a row 0, from any controller.
rise_if : (state : State) (input : List ℕ) → RiseIf (has_row0 input) state (moments_from state input)
unfolding moments_from
rise_if state input =
    rw (← answered_exactly state (rows_of input)) (from_header state (starts_with []) (rows_of input)).rise

module _ (state : State) (input : List ℕ) where
  rise_by : (t : Bool) → has_row0 input ≡ t → RiseIf t state (moments_from state input)
  rise_by t e = subst (λ (b : Bool). RiseIf b state (moments_from state input)) e (rise_if state input)

  -- Where it has, the times of the moments rise from 0 and stay below 2 ^ 64, each with a value for each wire,
  pub moments_rise : has_row0 input ≡ true → Rising (moments_from state input)
  moments_rise e = (rise_by true e).0

  -- and the first of them is what the controller shows that the run started from.
  pub starts_as_shown : has_row0 input ≡ true → StartWith state (moments_from state input)
  starts_as_shown e = (rise_by true e).1

  -- Where it has none, there are no moments, and nothing is written.
  pub none_without_row_0 : has_row0 input ≡ false → (moments_from state input ≡ []) × (waves_from state input ≡ [])
  unfolding waves_from dump_of
  none_without_row_0 e = let none = rise_by false e in (none, rw none)

-- ---- However the trace is cut

-- What is to come of a run from its start is the dump of the whole trace.
pub dump_to_come : (state : State) (line input : List ℕ)
    → (to_come given (begun_from state).dump (begun_from state).run line input).0 ≡ waves_from state input
unfolding to_come begun_from run_from waves_from moments_from from_rows
dump_to_come state line input = rw (start_law input) (from_header state (begun_from state).dump (rows_of input)).text

-- With any line buffer of 512 bytes and any output buffers that have room for the head of a dump:
module _ (lends : ℕ → List ℕ) (rooms : AllRoom room lends) (line : List ℕ) (h : length line ≡ line_bytes) (parts : List (List ℕ)) where
  -- what is written in all is the dump of the whole trace, from any controller,
  pub dumped_from : (state : State) → written_in_all lends (begun_from state) line parts ≡ waves_from state (input_of parts)
  dumped_from state =
      ap (λ (o : Outcome Dump). o.0)
      (by.by_parts_from given nothing_told room lends rooms (begun_from state).dump (begun_from state).run line parts h)
      ∙ dump_to_come state line (input_of parts)

  -- also from a fresh one.
  pub dumped_in_all : written_in_all lends new_waves line parts ≡ waves_of (input_of parts)
  unfolding new_waves waves_of
  dumped_in_all = dumped_from (fresh_of 0)

  -- Where a refusal has ended the reading, nothing more is written, whatever still follows.
  pub ended_for_good : (waves : Waves) (at refusal : ℕ) → waves.run.reading.phase ≡ Ended at refusal
      → written_in_all lends waves line parts ≡ []
  ended_for_good waves at refusal e =
      ap (λ (o : Outcome Dump). o.0)
      (by.ended_for_good given nothing_told room lends rooms waves.dump waves.run line parts at refusal h e)

-- A call of `fill`, and of `finish`, by what the contract says of it:
module _ (waves : Waves) (line out : List ℕ) (took : Took) (line' out' : List ℕ) where
  module _ (part : List ℕ) (e : (took, line', out') ≡ fill_of waves part line out) where
    -- refusal 8 exactly if the output buffer has no room for the head of a dump or the line buffer is not 512 bytes.
    pub eight_exactly : took.refusal ≡ cond (leb room (length out) && eqb (length line) line_bytes) 0 8
    unfolding fill_of
    eight_exactly =
        ap (λ (x : Took × List ℕ × List ℕ). x.0.refusal) e
        ∙ fills.eight_exactly given nothing_told room part waves.dump waves.run line out

    -- With both, what was to come of the dump is what is written and what is still to come,
    pub filled : length line ≡ line_bytes → room ≤ length out
        → Filled given waves.dump waves.run part line out (answer_of took line' out')
    unfolding fill_of
    filled full long =
        subst
        (λ (x : Took × List ℕ × List ℕ). Filled given waves.dump waves.run part line out (answer_of x.0 x.1 x.2))
        (sym e) (fills.fill_right given nothing_told room part waves.dump waves.run line out full long)

    -- and the call ends only where the part is used up, a refusal has ended the reading, or there is no room for a further head.
    pub fill_ends : length line ≡ line_bytes → room ≤ length out → goes_on room part (answer_of took line' out') ≡ false
    unfolding fill_of
    fill_ends full long =
        ap (λ (x : Took × List ℕ × List ℕ). goes_on room part (answer_of x.0 x.1 x.2)) e
        ∙ fills.fill_ends given nothing_told room part waves.dump waves.run line out full long

  -- The end of the input gives all that was to come.
  pub finished : (took, line', out') ≡ finish_of waves line out → length line ≡ line_bytes → room ≤ length out
      → Finished given waves.dump waves.run line (answer_of took line' out')
  unfolding finish_of
  finished e full long =
      subst
      (λ (x : Took × List ℕ × List ℕ). Finished given waves.dump waves.run line (answer_of x.0 x.1 x.2))
      (sym e) (fills.finish_all given nothing_told room [] waves.dump waves.run line out full long)
