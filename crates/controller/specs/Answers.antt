-- Document 01, "Refusal numbers": what a step answers.
-- Assumes nothing.
use Rattle.std.specs.Prelude.{ℕ, Result}
use Rattle.std.specs.Result.{result_unwrap_or}
use Rattle.refusals.specs.declared.Refusal.{Refusal}
use Rattle.refusals.specs.Answers.{code_of}
use Rattle.controller.specs.declared.State.{State}

-- 0 or the refusal's number, and the state after the step.
pub record Answer : Type 0 where
  pub refusal : ℕ
  pub state : State

-- A result as such an answer: a step that is taken gives its state, and a refused one leaves the state as it was.
abbrev pub answer_says : State → Result State Refusal → Answer
answer_says before result = record { refusal = code_of result; state = result_unwrap_or result before }
