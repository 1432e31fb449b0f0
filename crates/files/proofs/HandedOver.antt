-- However a trace is cut into parts, what is written is the image of its last state, or nothing where row 0 was not read. From a fresh
-- start or a taken image that image is taken, and the lesson goes on from it, where no count of request K5 runs.
-- Assumes nothing.
use Prim.Native.Nat.{ℕ, ◌≤◌}
use mathlib.Core.Bool.{true}
use mathlib.Core.List.{List, []}
use mathlib.Core.Logic.{◌⊎◌, inl, inr}
use mathlib.Core.Path.{◌≡◌, sym, ap, subst, ◌∙◌}
use borrow.Author.Tests.{le-ltb}
use lib.ListN.{length, drop}
use lib.Seq.{take_at}
use Rattle.lines.specs.Rows.{rows_of}
use Rattle.lines.proofs.Steps.{either}
use Rattle.controller.specs.declared.State.{State}
use Rattle.controller.specs.Answers.{Answer}
use Rattle.controller.specs.Start.{started_at}
use Rattle.image.specs.Images.{size, image_of, save_of, load_of}
use Rattle.image.specs.Conditions.{Taken}
use Rattle.laws.specs.Reached.{Reached}
use Rattle.laws.specs.Reached.Reached.{started, step}
use Rattle.laws.proofs.Images.{reached_saves, reached_comes_back}
use Rattle.laws.proofs.Lifted.{reached_is_allowed}
use Rattle.image.proofs.RoundTrips.{image_length}
use Rattle.reading.specs.Rows.{has_started, read_from}
use Rattle.reading.specs.Whole.{read_to}
use Rattle.reading.specs.declared.Run.{Run}
use Rattle.reading.specs.Parts.{line_bytes, run_from}
use Rattle.reading.specs.Runs.{AllRoom, input_of}
use Rattle.reading.proofs.Kept.{trace_keeps}
use Rattle.lesson.specs.Replay.{resumed_of}
use Rattle.lesson.specs.Parts.{room, left_in_all}
use Rattle.lesson.proofs.Law.{left}
use Rattle.lesson.proofs.Restarts.{start_stamp_not_used}
use Rattle.handing.specs.Handing.{image_left, saved_of, saved_by, save_last_of, wrote}
use Rattle.handing.proofs.Saving.{with_row_0, without_row_0, image_left_lem, none_left}
use Rattle.files.specs.Left.{left_of}

-- ---- Into a lent buffer

-- An image of 348 bytes, where there is room.
wrote_image : (s : State) (out : List ℕ) → length (image_of s) ≡ size → size ≤ length out
    → wrote (saved_by (save_of s out)) ≡ image_of s
unfolding save_of
wrote_image s out long fits = rw (le-ltb (length out) size fits) (take_at (image_of s) (drop size out) size long)

wrote_left : (run : Run) (out : List ℕ) → Reached run.reading.state → size ≤ length out
    → wrote (save_last_of run out) ≡ image_left run.reading
wrote_left run out reached fits =
    let s = run.reading.state in
    either (has_started run.reading.phase)
    (λ read.
    ap wrote (with_row_0 run out read)
    ∙ wrote_image s out (image_length s (reached_is_allowed s reached).sensors) fits
    ∙ sym (image_left_lem run.reading read))
    (λ unread. ap wrote (without_row_0 run out unread) ∙ sym (none_left run.reading unread))

-- ---- From a fresh start or a taken image

module _ (state : State) (reached : Reached state) where
  -- A trace leaves a controller that is reached too: row 0 gives a new start stamp, and each other row is a step.
  pub left_is_reached : (rows : List (List ℕ)) → Reached (read_to (read_from state) rows).state
  left_is_reached rows =
      trace_keeps Reached (λ s stamp r. started r stamp) (λ s stamp bytes r. step r stamp bytes) (read_from state) rows reached

  -- However the trace is cut into parts, with any line buffer of 512 bytes and any output buffers that have room, what is written of the
  -- run that is left is what the whole trace gives.
  pub saved : (lends : ℕ → List ℕ) → AllRoom room lends
      → (line : List ℕ) → length line ≡ line_bytes
      → (parts : List (List ℕ)) (out : List ℕ)
      → size ≤ length out
      → wrote (save_last_of (left_in_all lends (run_from state) line parts) out) ≡ saved_of state (input_of parts)
  unfolding saved_of
  saved lends rooms line h parts out fits =
      let e = left lends rooms line h parts state in
      wrote_left (left_in_all lends (run_from state) line parts) out
      (subst (λ (r : Run). Reached r.reading.state) (sym e) (left_is_reached (rows_of (input_of parts)))) fits
      ∙ ap (λ (r : Run). image_left r.reading) e

  module _ (input : List ℕ) where
    -- What is written is nothing, or an image that is taken.
    pub saved_is_taken : (saved_of state input ≡ []) ⊎ Taken (saved_of state input)
    unfolding saved_of
    saved_is_taken =
        either (has_started (left_of state input).phase)
        (λ read.
        inr (rw (image_left_lem (left_of state input) read) (reached_saves (left_of state input).state (left_is_reached (rows_of input)))))
        (λ unread. inl (none_left (left_of state input) unread))

    -- Where row 0 was read, it loads as the controller that was left, at the new start stamp, whatever the other laptop held before ..
    pub saved_is_loaded : has_started (left_of state input).phase ≡ true → (before : State) (stamp : ℕ)
        → load_of before (saved_of state input) stamp ≡ record { refusal = 0; state = started_at stamp (left_of state input).state }
    unfolding saved_of
    saved_is_loaded read before stamp =
        rw (image_left_lem (left_of state input) read)
        (reached_comes_back (left_of state input).state (left_is_reached (rows_of input)) before stamp)

    -- .. and of any further trace the same is written there as from the controller that was left here.
    pub handed_over : has_started (left_of state input).phase ≡ true → (before : State) (stamp : ℕ) (further : List ℕ)
        → resumed_of (load_of before (saved_of state input) stamp).state further ≡ resumed_of (left_of state input).state further
    handed_over read before stamp further =
        ap (λ (a : Answer). resumed_of a.state further) (saved_is_loaded read before stamp)
        ∙ start_stamp_not_used (left_of state input).state stamp further
