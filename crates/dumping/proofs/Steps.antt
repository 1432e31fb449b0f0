-- An accepted step of the controller: it moves the stamp to its own, and 1 to 100 ms have elapsed.
-- Assumes nothing.
use Rattle.std.proofs.Common.{◌≡◌, ℕ, suc, ◌<◌, ◌≤◌, Bool, true, false, not, eqb, ltb, List, [], ◌∷◌, length, refl, arith, ltb-false}
use borrow.Author.Tests.{eqb-false}
use Rattle.common.specs.Lowest.{lowest}
use Rattle.controller.specs.declared.State.{State}
use Rattle.controller.specs.Stages.{elapsed_of, ages_stage, vote_stage, monitors_stage, sequence_stage, orders_stage, accepted}
use Rattle.controller.specs.Steps.{limit, some_over_one, refusal_of, refusal_at, step_of, step_at}

-- Where numbered tests give 0, none of them holds.
abbrev NoneHolds : List Bool → Type 0
NoneHolds [] = Unit {0}
NoneHolds (t ∷ ts) = (t ≡ false) × NoneHolds ts

none_holds : (n : ℕ) (ts : List Bool) → lowest (suc n) ts ≡ 0 → NoneHolds ts
none_holds n [] e = Prim.tt
none_holds n (true ∷ ts) e = absurd (omega arith)
none_holds n (false ∷ ts) e = (refl, none_holds (suc n) ts e)

-- 1 to 100 ms.
pub record InTime (elapsed : ℕ) : Type 0 where
  pub some_ms : 0 < elapsed
  pub few_ms : elapsed ≤ limit

-- A stamp that is not refused is so much later,
in_time_lem : (s : State) (stamp : ℕ) (bytes : List ℕ) → refusal_of s stamp bytes ≡ 0 → InTime (elapsed_of s.stamp stamp)
unfolding refusal_at
in_time_lem s stamp bytes e =
    let elapsed = elapsed_of s.stamp stamp in
    let none =
    none_holds 0 (not (eqb (length bytes) 54) ∷ some_over_one bytes ∷ eqb elapsed 0 ∷ ltb limit elapsed ∷ []) e in
    let not_0 = eqb-false elapsed 0 none.1.1.0 in
    record { some_ms = omega arith; few_ms = ltb-false limit elapsed none.1.1.1.0 }

-- and the state after it bears it.
pub accepted_in_time : (s : State) (stamp : ℕ) (bytes : List ℕ) → (step_of s stamp bytes).refusal ≡ 0
    → InTime (elapsed_of s.stamp (accepted s stamp bytes).stamp)
unfolding step_at ages_stage vote_stage monitors_stage sequence_stage orders_stage accepted
accepted_in_time s stamp bytes e = in_time_lem s stamp bytes e

-- A step that is not refused is answered by the accepted step.
pub step_taken : (s : State) (stamp : ℕ) (bytes : List ℕ) → (step_of s stamp bytes).refusal ≡ 0
    → step_of s stamp bytes ≡ record { refusal = 0; state = accepted s stamp bytes }
unfolding step_at
step_taken s stamp bytes e = rw e
