-- Requests K5 and K6: odd channel and count in every state that the controller can come to keep to ranges and rules. The counts alone tell
-- whether one runs.
-- Assumes nothing.
use Prim.Native.Nat.{ℕ, suc, ◌+◌, ◌<◌}
use native.Mathlib.Nat.{add-zero}
use native.Mathlib.Omega.{arith}
use mathlib.Core.Bool.{false}
use mathlib.Core.List.{List, [], ◌∷◌}
use mathlib.Core.Path.{◌≡◌, subst, subst⁻¹}
use lib.Dec.{T}
use lib.ListN.{length, get_or}
use Rattle.common.specs.Lists.{each_from, Each}
use Rattle.common.proofs.Each.{each_at_index}
use Rattle.voter.specs.declared.Voter.{Voter}
use Rattle.voter.specs.Voting.{fresh_with}
use Rattle.voter.specs.Counts.{CountKept, NoCountRunsAt}
use Rattle.voter.specs.Runs.{agree}
use Rattle.voter.proofs.Kept.{no_odd_at_0, agreement_leaves_none}
use Rattle.controller.specs.declared.State.{State}
use Rattle.controller.specs.Votes.{votes_at, all_voted}
use Rattle.controller.specs.Stages.{accepted}
use Rattle.controller.specs.Steps.{step_of}
use Rattle.controller.specs.Samples.{Row}
use Rattle.laws.specs.Reached.{Reached}
use Rattle.laws.specs.Laws.{Always}
use Rattle.laws.specs.Times.{next}
use Rattle.laws.specs.Bounces.{sensor_at, CountsKept, CountsAre0, NoCountRuns, reading_at, NoneDiffers}
use Rattle.laws.proofs.Stages.{stages}
use Rattle.laws.proofs.Lifted.{taken_is_accepted, counts_kept, reached_is_allowed}

pub counts_are_kept : Always CountsKept
counts_are_kept s reached = each_at_index CountKept (fresh_with false) s.voters (counts_kept s (reached_is_allowed s reached))

-- So no count runs where every count is 0, ..
pub counts_tell : (s : State) → Reached s → CountsAre0 s → NoCountRuns s
counts_tell s reached none i h = no_odd_at_0 (sensor_at i s) (counts_are_kept s reached i h).rules (none i h)

-- .. as behind every accepted sample in which at each sensor the valid channels agree.
agreed_each : (bytes : List ℕ) (k : ℕ) (vs : List Voter) → Each CountKept vs
    → ((i : ℕ) → i < length vs → T (agree (get_or vs i (fresh_with false)).channels (reading_at (k + i) bytes)))
    → Each NoCountRunsAt (each_from (votes_at bytes) k vs)
unfolding each_from
agreed_each bytes k [] each same = tt
agreed_each bytes k (v ∷ vs) each same =
    let first : T (agree v.channels (reading_at k bytes)) = subst (λ (n : ℕ). T (agree v.channels (reading_at n bytes))) (add-zero k) (same 0 (omega arith)) in (
      agreement_leaves_none v each.0 (reading_at k bytes) first,
      agreed_each bytes (suc k) vs each.1
          (λ i h. let place : k + suc i ≡ suc k + i = omega arith in
          subst (λ (n : ℕ). T (agree (get_or vs i (fresh_with false)).channels (reading_at n bytes))) place (same (suc i) (omega arith))),
    )

pub agreed_accepted : (s : State) → Reached s → (stamp : ℕ) (bytes : List ℕ) → NoneDiffers s bytes → NoCountRuns (accepted s stamp bytes)
unfolding stages all_voted
agreed_accepted s reached stamp bytes same =
    each_at_index NoCountRunsAt (fresh_with false) (accepted s stamp bytes).voters
    (agreed_each bytes 0 s.voters (counts_kept s (reached_is_allowed s reached))
    (λ i h. let place : 0 + i ≡ i = omega arith in
    subst⁻¹ (λ (n : ℕ). T (agree (sensor_at i s).channels (reading_at n bytes))) place (same i h)))

pub agreement_leaves_no_count : (s : State) → Reached s → (r : Row)
    → (step_of s r.0 r.1).refusal ≡ 0 → NoneDiffers s r.1 → NoCountRuns (next s r)
agreement_leaves_no_count s reached r taken same =
    subst⁻¹ NoCountRuns (taken_is_accepted s r.0 r.1 taken) (agreed_accepted s reached r.0 r.1 same)
