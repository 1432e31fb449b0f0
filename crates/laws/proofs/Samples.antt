-- From an accepted step to every sample.
-- Assumes nothing.
use mathlib.Core.Bool.{Bool, true, false, cond}
use Prim.Native.Nat.{ℕ}
use lib.Dec.{eqb}
use Rattle.controller.specs.declared.State.{State}
use Rattle.controller.specs.Stages.{elapsed_of, accepted}
use Rattle.controller.specs.Steps.{refusal_of, step_at}
use Rattle.controller.specs.Samples.{Row}
use Rattle.laws.specs.Times.{next, accepted_at}

-- What an accepted sample leaves with what has elapsed, and a refused one with nothing, every sample leaves with what it adds.
pub at_sample :
    (P : State → ℕ → Type 0) (s : State) (r : Row) →
    P (accepted s r.0 r.1) (elapsed_of s.stamp r.0) →
    P s 0 →
    P (next s r) (accepted_at s r)
unfolding step_at accepted_at
at_sample P s r taken refused = either (eqb (refusal_of s r.0 r.1) 0)
  where
    either : (is_taken : Bool) → P (cond is_taken (accepted s r.0 r.1) s) (cond is_taken (elapsed_of s.stamp r.0) 0)
    either true = taken
    either false = refused
