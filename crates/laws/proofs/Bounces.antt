-- Request K5 over the controller's run: a sensor hears the accepted samples, one after the other, and nothing of the refused ones. So while it
-- is not invalid a channel is struck exactly if in three accepted samples in a row it was the odd one while all were valid; and it is invalid
-- exactly if in three in a row the two that were left differed.
-- Assumes nothing.
use Prim.Native.Nat.{ℕ, zero, suc, ◌+◌, ◌≤◌, ◌<◌}
use native.Mathlib.Omega.{arith}
use mathlib.Core.Bool.{Bool, true, false, cond}
use mathlib.Core.List.{List, [], ◌∷◌}
use mathlib.Core.Logic.{◌↔◌}
use mathlib.Core.Path.{◌≡◌, refl, sym, ap, subst⁻¹, ◌∙◌}
use lib.Dec.{T, eqb}
use lib.ListN.{length, get_or}
use Rattle.common.specs.Lists.{each_from}
use Rattle.common.proofs.Each.{each_at_index}
use Rattle.voter.specs.declared.Voter.{Voter}
use Rattle.voter.specs.Voting.{fresh_with, is_invalid}
use Rattle.voter.specs.Runs.{Reading, heard, heard_all, Quiet, is_struck, ThreeOdd, ThreeDiffer}
use Rattle.voter.proofs.Laws.{all_is_valid, fresh_sensor_is_quiet}
use Rattle.voter.proofs.InARow.{struck_exactly}
use Rattle.voter.proofs.Splits.{invalid_exactly}
use Rattle.controller.specs.declared.State.{State}
use Rattle.controller.specs.Votes.{votes_at, all_voted}
use Rattle.controller.specs.Start.{fresh_voters, fresh_of}
use Rattle.controller.specs.Stages.{accepted}
use Rattle.controller.specs.Steps.{refusal_of, step_at, step_of}
use Rattle.controller.specs.Samples.{Row, after}
use Rattle.image.specs.Items.{sensor_count}
use Rattle.laws.specs.Times.{next}
use Rattle.laws.specs.Bounces.{sensor_at, AllQuiet, reading_at, readings_at}
use Rattle.laws.proofs.Stages.{stages}
use Rattle.laws.proofs.Sensors.{fresh_each}
use Rattle.laws.proofs.Lifted.{votes_length, step_keeps}

-- ---- A sample

each_at : (f : ℕ → Voter → Voter) (k i : ℕ) (vs : List Voter) (d : Voter) → i < length vs → get_or (each_from f k vs) i d ≡ f (k + i) (get_or vs i d)
unfolding each_from
each_at f k i [] d h = absurd (omega arith)
each_at f k zero (v ∷ vs) d h = ap (λ (n : ℕ). f n v) (omega arith)
each_at f k (suc i) (v ∷ vs) d h =
    let place : suc k + i ≡ k + suc i = omega arith in
    each_at f (suc k) i vs d (omega arith) ∙ ap (λ (n : ℕ). f n (get_or vs i d)) place

module _ (i : ℕ) (s : State) (within : i < length s.voters) where
  -- An accepted sample is heard.
  accepted_is_heard : (stamp : ℕ) (bytes : List ℕ) → sensor_at i (accepted s stamp bytes) ≡ heard (sensor_at i s) (reading_at i bytes)
  unfolding stages all_voted
  accepted_is_heard stamp bytes = each_at (votes_at bytes) 0 i s.voters (fresh_with false) within ∙ ap (λ (n : ℕ). votes_at bytes n (sensor_at i s)) (omega arith)

  -- A refused one is not, and there are as many sensors behind either.
  one_more : (r : Row) (more : List Reading)
      → heard_all (sensor_at i (next s r)) more
      ≡ heard_all (sensor_at i s) (cond (eqb (step_of s r.0 r.1).refusal 0) (reading_at i r.1 ∷ more) more)
  unfolding step_at heard_all
  one_more r more = by (eqb (refusal_of s r.0 r.1) 0)
    where
      by : (is_taken : Bool)
          → heard_all (sensor_at i (cond is_taken (accepted s r.0 r.1) s)) more
          ≡ heard_all (sensor_at i s) (cond is_taken (reading_at i r.1 ∷ more) more)
      by true = ap (λ (v : Voter). heard_all v more) (accepted_is_heard r.0 r.1)
      by false = refl

  within_next : (r : Row) → i < length (next s r).voters
  unfolding stages
  within_next r =
      step_keeps (λ (t : State). i < length t.voters) s r.0 r.1 (omega (arith, votes_length r.1 s.voters)) within

-- ---- A whole run

-- From any state, over any samples, a sensor is what the accepted ones make of it.
pub hears_the_accepted : (i : ℕ) (s : State) → i < length s.voters → (rows : List Row)
    → sensor_at i (after s rows) ≡ heard_all (sensor_at i s) (readings_at i s rows)
unfolding after readings_at heard_all
hears_the_accepted i s within [] = refl
hears_the_accepted i s within (r ∷ rs) =
    hears_the_accepted i (next s r) (within_next i s within r) rs ∙ one_more i s within r (readings_at i (next s r) rs)

-- So while it is not invalid a channel is struck exactly by three in a row, from any state in which all channels of its sensor are valid and
-- its count is 0; ..
pub struck_exactly_over_a_run : (i : ℕ) (s : State) → i < length s.voters → Quiet (sensor_at i s)
    → (k : ℕ) → 1 ≤ k → (rows : List Row)
    → is_invalid (sensor_at i (after s rows)) ≡ false
    → T (is_struck k (sensor_at i (after s rows))) ↔ ThreeOdd k (sensor_at i s) (readings_at i s rows)
struck_exactly_over_a_run i s within quiet k channel rows valid =
    let is = hears_the_accepted i s within rows in
    subst⁻¹ (λ (v : Voter). T (is_struck k v) ↔ ThreeOdd k (sensor_at i s) (readings_at i s rows)) is
    (struck_exactly (sensor_at i s) quiet.0 quiet.1 k channel (readings_at i s rows) (ap is_invalid (sym is) ∙ valid))

-- .. and it is invalid exactly by three in a row in which the two that are left differ, from any state in which it is not and its count is 0,
-- a channel struck or not.
pub invalid_exactly_over_a_run : (i : ℕ) (s : State) → i < length s.voters
    → is_invalid (sensor_at i s) ≡ false → (sensor_at i s).count ≡ 0 → (rows : List Row)
    → T (is_invalid (sensor_at i (after s rows))) ↔ ThreeDiffer (sensor_at i s) (readings_at i s rows)
invalid_exactly_over_a_run i s within valid none rows =
    subst⁻¹ (λ (v : Voter). T (is_invalid v) ↔ ThreeDiffer (sensor_at i s) (readings_at i s rows)) (hears_the_accepted i s within rows)
    (invalid_exactly (sensor_at i s) valid none (readings_at i s rows))

-- ---- A fresh start is such a state, for each of the eighteen sensors.

pub fresh_is_quiet : (stamp : ℕ) → AllQuiet (fresh_of stamp)
fresh_is_quiet stamp =
    each_at_index Quiet (fresh_with false) (fresh_of stamp).voters (fresh_each Quiet fresh_sensor_is_quiet stamp)

module _ (stamp i : ℕ) (within : i < sensor_count) where
  pub struck_exactly_from_a_fresh_start : (k : ℕ) → 1 ≤ k → (rows : List Row)
      → is_invalid (sensor_at i (after (fresh_of stamp) rows)) ≡ false
      → T (is_struck k (sensor_at i (after (fresh_of stamp) rows)))
      ↔ ThreeOdd k (sensor_at i (fresh_of stamp)) (readings_at i (fresh_of stamp) rows)
  unfolding fresh_of fresh_voters
  struck_exactly_from_a_fresh_start = struck_exactly_over_a_run i (fresh_of stamp) within (fresh_is_quiet stamp i within)

  pub invalid_exactly_from_a_fresh_start : (rows : List Row)
      → T (is_invalid (sensor_at i (after (fresh_of stamp) rows)))
      ↔ ThreeDiffer (sensor_at i (fresh_of stamp)) (readings_at i (fresh_of stamp) rows)
  unfolding fresh_of fresh_voters
  invalid_exactly_from_a_fresh_start =
      let quiet = fresh_is_quiet stamp i within in
      invalid_exactly_over_a_run i (fresh_of stamp) within (all_is_valid (sensor_at i (fresh_of stamp)) quiet.0) quiet.1
