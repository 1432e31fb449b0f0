-- Accepted time: what has elapsed at the samples that are accepted. A refused one adds nothing, whatever its stamp.
-- Assumes nothing.
use Rattle.std.specs.Prelude.{cond, List, [], ◌∷◌, ℕ, ◌+◌, eqb}
use Rattle.controller.specs.declared.State.{State}
use Rattle.controller.specs.Stages.{elapsed_of}
use Rattle.controller.specs.Steps.{step_of}
use Rattle.controller.specs.Samples.{Row}

-- The state after a sample with its stamp.
abbrev pub next : State → Row → State
next s r = (step_of s r.0 r.1).state

-- What a sample adds to the accepted time: what has elapsed, or nothing if it is refused.
unfoldable pub accepted_at : State → Row → ℕ
accepted_at s r = cond (eqb (step_of s r.0 r.1).refusal 0) (elapsed_of s.stamp r.0) 0

-- The accepted time of a list of samples.
unfoldable pub accepted_in : State → List Row → ℕ
accepted_in s [] = 0
accepted_in s (r ∷ rs) = accepted_at s r + accepted_in (next s r) rs
