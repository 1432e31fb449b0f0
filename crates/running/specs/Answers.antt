-- What a call of a task answers.
-- Assumes nothing.
use Rattle.std.specs.Prelude.{ℕ, Result, Ok, Err}
use Rattle.refusals.specs.declared.Refusal.{Refusal}
use Rattle.refusals.specs.Numbers.{number_of}
use Rattle.running.specs.declared.tasks.Filled.{Filled as Gave}

-- The work after the call, how much of the part is used, how many bytes were written, and 0 or refusal 8.
pub record Filled (A : Type 0) : Type 0 where
  pub work : A
  pub used : ℕ
  pub written : ℕ
  pub refusal : ℕ

-- A result as such an answer: where a call is refused, the work is as it was, and nothing is used or written.
abbrev pub filled_says : {A : Type 0} → A → Result (Gave A) Refusal → Filled A
filled_says before (Ok gave) = record { work = gave.work; used = gave.used; written = gave.written; refusal = 0 }
filled_says before (Err r) = record { work = before; used = 0; written = 0; refusal = number_of r }
