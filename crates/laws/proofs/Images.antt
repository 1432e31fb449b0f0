-- Requests K3 and K6 over every sequence, from a fresh start or a taken image of either form: a reached state saves to an image that is taken,
-- comes back from it but for the stamp, and the lesson goes on as if it had not been handed over.
-- Assumes nothing.
use Prim.Native.Nat.{ℕ, ◌<◌, ◌^◌}
use native.Mathlib.Omega.{arith}
use mathlib.Core.List.{List, [], ◌∷◌}
use mathlib.Core.Path.{◌≡◌, refl, sym, ap}
use Rattle.controller.specs.declared.State.{State}
use Rattle.controller.specs.Answers.{Answer}
use Rattle.controller.specs.Start.{started_at}
use Rattle.controller.specs.Stages.{elapsed_of, accepted}
use Rattle.controller.specs.Steps.{refusal_at, refusal_of, step_at, step_of}
use Rattle.controller.specs.Samples.{Row, answers}
use Rattle.image.specs.Images.{image_of, loaded_at, load_of}
use Rattle.image.specs.Conditions.{Taken}
use Rattle.image.proofs.RoundTrips.{image_is_of, allowed_is_taken, saved_then_loaded}
use Rattle.laws.specs.Reached.{Reached}
use Rattle.laws.specs.Laws.{Always}
use Rattle.laws.specs.HandedOver.{but_for_stamp, AnswerTheSame, SameTimes, ahead, all_ahead, Of32Bits}
use Rattle.laws.proofs.Stages.{stages}
use Rattle.laws.proofs.Lifted.{steps_keep, step_keeps, reached_is_allowed}

-- ---- Saving and loading

-- Every reached state saves to an image that is taken ..
pub reached_saves : Always (λ (s : State). Taken (image_of s))
reached_saves s reached = allowed_is_taken s (reached_is_allowed s reached)

-- .. and comes back from it, at the new start stamp, whatever the other laptop held before.
pub reached_comes_back :
    (s : State) →
    Reached s →
    (before : State) (stamp : ℕ) →
    load_of before (image_of s) stamp ≡ record { refusal = 0; state = started_at stamp s }
reached_comes_back s reached = saved_then_loaded s (reached_is_allowed s reached)

-- So a new start stamp adds no state to those that are reached: what it gives is loaded from a taken image.
pub started_is_loaded : (s : State) → Reached s → (stamp : ℕ) → Taken (image_of s) × (started_at stamp s ≡ loaded_at stamp (image_of s))
started_is_loaded s reached stamp = (reached_saves s reached, sym (image_is_of s (reached_is_allowed s reached) stamp))

-- ---- One step, on two controllers that are the same but for the stamp: both look at the stamp through what has elapsed alone

module _
    (s other : State) (a b : ℕ) (bytes : List ℕ)
    (same : started_at 0 s ≡ started_at 0 other)
    (times : elapsed_of s.stamp a ≡ elapsed_of other.stamp b) where
  same_refusal : refusal_of s a bytes ≡ refusal_of other b bytes
  unfolding refusal_at
  same_refusal = rw times

  same_accepted : started_at 0 (accepted s a bytes) ≡ started_at 0 (accepted other b bytes)
  unfolding started_at stages
  same_accepted =
      let voters : s.voters ≡ other.voters = ap (λ (t : State). t.voters) same in
      let core : s.core ≡ other.core = ap (λ (t : State). t.core) same in
      rw (times, voters, core)

  same_step : but_for_stamp (step_of s a bytes) ≡ but_for_stamp (step_of other b bytes)
  unfolding step_at
  same_step =
      cc (
        same_refusal,
        steps_keep (λ (t u : State). started_at 0 t ≡ started_at 0 u) s other a b bytes same_refusal same_accepted same,
      )

same_row :
    (s other : State) (r q : Row) →
    started_at 0 s ≡ started_at 0 other →
    r.1 ≡ q.1 →
    elapsed_of s.stamp r.0 ≡ elapsed_of other.stamp q.0 →
    but_for_stamp (step_of s r.0 r.1) ≡ but_for_stamp (step_of other q.0 q.1)
same_row s other r q same sample times = rw (← sample) (same_step s other r.0 q.0 r.1 same times)

-- ---- A whole lesson

goes_on :
    (s other : State) (rows other_rows : List Row) →
    started_at 0 s ≡ started_at 0 other →
    SameTimes s rows other other_rows →
    AnswerTheSame s rows other other_rows
unfolding SameTimes answers
goes_on s other [] [] same times = refl
goes_on s other [] (q ∷ qs) same times = absurd times
goes_on s other (r ∷ rs) [] same times = absurd times
goes_on s other (r ∷ rs) (q ∷ qs) same times =
    let first = same_row s other r q same times.0 times.1 in
    let now = (step_of s r.0 r.1).state in
    let other_now = (step_of other q.0 q.1).state in
    cc (first, goes_on now other_now rs qs (ap (λ (a : Answer). a.state) first) times.2)

-- From the same controller at any other stamp, with the same samples at the same times, every answer is the same but for the stamp.
pub goes_on_the_same :
    (s : State) (stamp : ℕ) (rows other_rows : List Row) →
    SameTimes s rows (started_at stamp s) other_rows →
    AnswerTheSame s rows (started_at stamp s) other_rows
unfolding started_at
goes_on_the_same s stamp rows other_rows times = goes_on s (started_at stamp s) rows other_rows refl times

-- A lesson that is handed over goes on as if it had not been.
pub handed_over_goes_on :
    (s : State) →
    Reached s →
    (before : State) (stamp : ℕ) (rows other_rows : List Row) →
    SameTimes s rows (started_at stamp s) other_rows →
    AnswerTheSame s rows (load_of before (image_of s) stamp).state other_rows
handed_over_goes_on s reached before stamp rows other_rows times =
    rw (reached_comes_back s reached before stamp) (goes_on_the_same s stamp rows other_rows times)

-- ---- On a clock that is ahead

elapsed_ahead : (ms last stamp : ℕ) → last < 2 ^ 32 → elapsed_of last stamp ≡ elapsed_of (ahead ms last) (ahead ms stamp)
unfolding elapsed_of ahead
elapsed_ahead ms last stamp h = omega arith

-- The same controller by that clock.
abbrev pub on_ahead : ℕ → State → State
on_ahead ms s = started_at (ahead ms s.stamp) s

module _ (ms : ℕ) (s : State) (stamp : ℕ) (bytes : List ℕ) (is32 : s.stamp < 2 ^ 32) where
  accepted_ahead : accepted (on_ahead ms s) (ahead ms stamp) bytes ≡ on_ahead ms (accepted s stamp bytes)
  unfolding started_at stages
  accepted_ahead = rw (← elapsed_ahead ms s.stamp stamp is32)

  step_ahead : (step_of (on_ahead ms s) (ahead ms stamp) bytes).state ≡ on_ahead ms (step_of s stamp bytes).state
  unfolding started_at
  step_ahead =
      steps_keep (λ (t u : State). t ≡ on_ahead ms u) (on_ahead ms s) s (ahead ms stamp) stamp bytes
      (sym (same_refusal s (on_ahead ms s) stamp (ahead ms stamp) bytes refl (elapsed_ahead ms s.stamp stamp is32)))
      accepted_ahead
      refl

  pub step_is32 : stamp < 2 ^ 32 → (step_of s stamp bytes).state.stamp < 2 ^ 32
  unfolding stages
  step_is32 h = step_keeps (λ (t : State). t.stamp < 2 ^ 32) s stamp bytes h is32

-- By that clock the same samples come at the same times.
pub same_times_ahead :
    (ms : ℕ) (s : State) (rows : List Row) → s.stamp < 2 ^ 32 → Of32Bits rows → SameTimes s rows (on_ahead ms s) (all_ahead ms rows)
unfolding Of32Bits SameTimes started_at
same_times_ahead ms s [] is32 are32 = tt
same_times_ahead ms s (r ∷ rs) is32 are32 =
    let now = (step_of s r.0 r.1).state in
    let rest = same_times_ahead ms now rs (step_is32 ms s r.0 r.1 is32 are32.0) are32.1 in
    (refl, elapsed_ahead ms s.stamp r.0 is32, rw (step_ahead ms s r.0 r.1 is32) rest)

-- So it goes on by a clock that is ahead by any number of ms, modulo 2^32, where stamps are of 32 bits.
pub handed_over_to_another_clock :
    (s : State) →
    Reached s →
    s.stamp < 2 ^ 32 →
    (before : State) (ms : ℕ) (rows : List Row) →
    Of32Bits rows →
    AnswerTheSame s rows (load_of before (image_of s) (ahead ms s.stamp)).state (all_ahead ms rows)
handed_over_to_another_clock s reached is32 before ms rows are32 =
    handed_over_goes_on s reached before (ahead ms s.stamp) rows (all_ahead ms rows) (same_times_ahead ms s rows is32 are32)
