-- Document 01, "Refusal numbers", 1 to 4, and the step of the controller.
-- Assumes nothing.
use Rattle.std.specs.Prelude.{ℕ, Bool, cond, not, ltb, List, [], ◌∷◌, length, ◌==◌, nat_lt}
use Rattle.common.specs.Lists.{some}
use Rattle.common.specs.Lowest.{lowest}
use Rattle.controller.specs.declared.State.{State}
use Rattle.controller.specs.Answers.{Answer}
use Rattle.controller.specs.Stages.{elapsed_of, accepted}

-- Elapsed must be 1 to 100: the limit.
abbrev pub limit : ℕ
limit = 100

-- A byte is over 1.
unfoldable pub some_over_one : List ℕ → Bool
some_over_one bytes = some (ltb 1) bytes

-- For a sample: 1, 2, 3, 4; the first that applies is given. 0 where none does. For any limit, and for the one in force.
unfoldable pub refusal_at : ℕ → State → ℕ → List ℕ → ℕ
refusal_at limit s stamp bytes =
    lowest 1
    ( -- 1: sample is not 54 bytes
    not (length bytes == 54) ∷
    -- 2: a byte is over 1
    some_over_one bytes ∷
    -- 3: elapsed is 0
    (elapsed_of s.stamp stamp == 0) ∷
    -- 4: elapsed is over the limit
    nat_lt limit (elapsed_of s.stamp stamp) ∷
    [])

abbrev pub refusal_of : State → ℕ → List ℕ → ℕ
refusal_of = refusal_at limit

-- A step: the refusal's number and the state as before, or 0 and the accepted step. For any limit, and for the one in force.
unfoldable pub step_at : ℕ → State → ℕ → List ℕ → Answer
step_at limit s stamp bytes =
    record {
      refusal = refusal_at limit s stamp bytes;
      state = cond (refusal_at limit s stamp bytes == 0) (accepted s stamp bytes) s;
    }

abbrev pub step_of : State → ℕ → List ℕ → Answer
step_of = step_at limit
