-- Request K8: what a step of the joined rig answers.
-- Assumes nothing.
use Rattle.std.specs.Prelude.{ℕ, Result}
use Rattle.std.specs.Result.{result_unwrap_or}
use Rattle.refusals.specs.declared.Refusal.{Refusal}
use Rattle.refusals.specs.Answers.{code_of}
use Rattle.joined.specs.declared.Rig.{Rig}

-- 0 or the refusal's number, and the rig after the step.
pub record Stepped : Type 0 where
  pub refusal : ℕ
  pub rig : Rig

-- A result as such an answer: a step that is taken gives its rig, and a refused one leaves the rig as it was.
abbrev pub step_says : Rig → Result Rig Refusal → Stepped
step_says before answer = record { refusal = code_of answer; rig = result_unwrap_or answer before }
