-- Demand 1: a refused step leaves the state as it was, to the last timer.
-- Assumes nothing.
use Rattle.std.proofs.Common.{◌≡◌, ℕ, List, ne_eqb}
use Rattle.controller.specs.declared.State.{State}
use Rattle.controller.specs.Steps.{refusal_of, step_of, step_at}

pub refused_stays : (s : State) (stamp : ℕ) (bytes : List ℕ) → ¬ ((step_of s stamp bytes).refusal ≡ 0) → (step_of s stamp bytes).state ≡ s
unfolding step_at
refused_stays s stamp bytes is_refused = simp (ne_eqb (refusal_of s stamp bytes) 0 is_refused)
