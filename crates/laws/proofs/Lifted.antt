-- From one step of the core to every state that the controller can come to: an accepted step is a step of the core on what the
-- votes say, and a refused one changes nothing.
-- Assumes nothing.
use Prim.Native.Nat.{ℕ}
use mathlib.Core.Bool.{Bool, true, false, cond}
use mathlib.Core.List.{List}
use mathlib.Core.Path.{◌≡◌, refl, sym, ◌∙◌, ap, subst}
use native.Mathlib.Nat.{le_refl}
use lib.Dec.{T, eqb, lit≤}
use lib.ListN.{length}
use Rattle.common.specs.Lists.{Each}
use Rattle.common.proofs.Each.{each_of_both}
use Rattle.common.proofs.Loops.{up_to_length, up_to_all}
use Rattle.voter.specs.declared.Voter.{Voter}
use Rattle.voter.specs.Counts.{CountInRange, KeepsCountRules, CountKept}
use Rattle.voter.proofs.Kept.{fresh_is_kept}
use Rattle.controller.specs.declared.Core.{Core}
use Rattle.controller.specs.declared.State.{State}
use Rattle.controller.specs.Votes.{handle, sensor, votes_at, all_voted, sight_of, seen_of, aimed, on_ground}
use Rattle.sequence.specs.Places.{moving_have_open}
use Rattle.controller.specs.Start.{off_long, fresh_orders, fresh_core, fresh_voters, fresh_of, started_at}
use Rattle.controller.specs.Stages.{anomaly, core_step, elapsed_of, ages_stage, turned, vote_stage, monitors_stage, in_force, sequence_stage, accepted}
use Rattle.controller.specs.Steps.{refusal_of, step_at, step_of}
use Rattle.image.specs.Conditions.{Allowed}
use Rattle.image.proofs.Keeping.{started_keeps}
use Rattle.image.proofs.RoundTrips.{taken_is_allowed}
use Rattle.laws.specs.Reached.Reached.{fresh, loaded, started, step}
use Rattle.laws.specs.Laws.{Always}
use Rattle.laws.proofs.Stages.{stages, core_stages}
use Rattle.laws.proofs.Model.{unless_red, keeps_open}
use Rattle.laws.proofs.Sensors.{fresh_each, votes_keep_counts}
use Rattle.laws.proofs.Kept.{since_aged, orders_allow}
use Rattle.laws.proofs.Watched.{accepted_to_13, accepted_has_cause, fresh_all_valid}

-- The step of the core that an accepted sample makes.
abbrev pub core_on : State → ℕ → List ℕ → Core
core_on s stamp bytes =
    let votes : List Voter = all_voted bytes s.voters in
    core_step (elapsed_of s.stamp stamp) (turned s.voters votes) (in_force votes s.core) (sight_of votes) s.core

pub core_of_accepted : (s : State) (stamp : ℕ) (bytes : List ℕ) → (accepted s stamp bytes).core ≡ core_on s stamp bytes
unfolding stages core_stages
core_of_accepted s stamp bytes = refl

-- A sample that is not refused is accepted.
pub taken_is_accepted : (s : State) (stamp : ℕ) (bytes : List ℕ) → (step_of s stamp bytes).refusal ≡ 0
    → (step_of s stamp bytes).state ≡ accepted s stamp bytes
unfolding step_at
taken_is_accepted s stamp bytes taken = rw taken refl

-- Two steps that get the same refusal keep between them what two accepted ones keep.
pub steps_keep :
    (Between : State → State → Type 0) (s other : State) (a b : ℕ) (bytes : List ℕ) →
    refusal_of s a bytes ≡ refusal_of other b bytes →
    Between (accepted s a bytes) (accepted other b bytes) →
    Between s other →
    Between (step_of s a bytes).state (step_of other b bytes).state
unfolding step_at
steps_keep Between s other a b bytes same taken before = rw same (either (eqb (refusal_of other b bytes) 0))
  where
    either : (is_taken : Bool) → Between (cond is_taken (accepted s a bytes) s) (cond is_taken (accepted other b bytes) other)
    either true = taken
    either false = before

-- A step keeps what every accepted step keeps.
pub step_keeps : (P : State → Type 0) (s : State) (stamp : ℕ) (bytes : List ℕ) → P (accepted s stamp bytes) → P s → P (step_of s stamp bytes).state
step_keeps P s stamp bytes = steps_keep (λ (t other : State). P t) s s stamp stamp bytes refl

-- ---- What is allowed stays so

-- A vote leaves as many sensors as there were.
pub votes_length : (bytes : List ℕ) (voters : List Voter) → length (all_voted bytes voters) ≡ length voters
unfolding all_voted
votes_length bytes voters =
    sym (ap length (up_to_all (votes_at bytes) 0 (length voters) voters (le_refl (length voters)))) ∙
    up_to_length (votes_at bytes) 0 (length voters) voters

-- Its odd channels and counts, with their ranges and rules.
pub counts_kept : (s : State) → Allowed s → Each CountKept s.voters
counts_kept s allowed =
    each_of_both CountInRange KeepsCountRules CountKept (λ v in_range rules. record { in_range = in_range; rules = rules })
    s.voters allowed.counts allowed.rules.counts_keep

pub accepted_allowed : (s : State) (stamp : ℕ) (bytes : List ℕ) → Allowed s → Allowed (accepted s stamp bytes)
unfolding aimed stages core_stages
accepted_allowed s stamp bytes allowed =
    let votes : List Voter = all_voted bytes s.voters in
    let elapsed : ℕ = elapsed_of s.stamp stamp in
    let watched : State = monitors_stage (vote_stage bytes (ages_stage stamp s)) in
    let moved : Core = (sequence_stage watched).core in
    orders_allow elapsed stamp moved.since moved.cause votes moved.place s.core.orders
    (votes_length bytes s.voters ∙ allowed.sensors)
    (keeps_open (unless_red (anomaly watched.core) (on_ground votes) (sensor handle votes) s.core.place (seen_of (sight_of votes)))
    allowed.rules.moving_have_open)
    (since_aged (turned s.voters votes) elapsed s.core.since)
    (accepted_to_13 s stamp bytes allowed.causes)
    (accepted_has_cause s stamp bytes)
    (votes_keep_counts bytes s.voters (counts_kept s allowed))

pub fresh_allowed : (stamp : ℕ) → Allowed (fresh_of stamp)
unfolding moving_have_open fresh_of fresh_core fresh_orders off_long fresh_voters
fresh_allowed stamp =
    record {
      sensors = refl;
      counts = fresh_each CountInRange (λ held. (fresh_is_kept held).in_range) stamp;
      ages = (lit≤ tt, lit≤ tt, lit≤ tt, lit≤ tt, lit≤ tt, lit≤ tt);
      causes = lit≤ tt;
      rules =
          record {
            moving_have_open = tt;
            on_is_wanted = (λ h. absurd h, λ h. absurd h, λ h. absurd h, λ h. absurd h);
            on_has_general = (λ h. absurd h, λ h. absurd h, λ h. absurd h, λ h. absurd h);
            open_have_general = λ not_closed none. absurd (not_closed refl);
            invalid_has_cause = λ h. absurd (subst T fresh_all_valid h);
            counts_keep = fresh_each KeepsCountRules (λ held. (fresh_is_kept held).rules) stamp;
          };
    }

-- A new start stamp is nothing that is asked of a state.
started_allowed : (s : State) (stamp : ℕ) → Allowed s → Allowed (started_at stamp s)
unfolding started_at
started_allowed s stamp allowed =
    record {
      sensors = allowed.sensors;
      counts = allowed.counts;
      ages = allowed.ages;
      causes = allowed.causes;
      rules = started_keeps stamp s allowed.rules;
    }

-- Every state that is reached, from a fresh start or a taken image, is one that an image may be of.
pub reached_is_allowed : Always Allowed
reached_is_allowed s (fresh stamp) = fresh_allowed stamp
reached_is_allowed s (loaded image taken stamp) = taken_is_allowed image taken stamp
reached_is_allowed s (started {s = before} reached stamp) = started_allowed before stamp (reached_is_allowed before reached)
reached_is_allowed s (step {s = before} reached stamp bytes) =
    let allowed : Allowed before = reached_is_allowed before reached in
    step_keeps Allowed before stamp bytes (accepted_allowed before stamp bytes allowed) allowed
