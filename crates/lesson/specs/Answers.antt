-- What a call comes to: 0 or refusal 8, the run after it, how much of the part is used, and how many bytes were written.
-- Assumes nothing.
use Rattle.std.specs.Prelude.{ℕ, Result, Ok, Err}
use Rattle.refusals.specs.declared.Refusal.{Refusal}
use Rattle.refusals.specs.Numbers.{number_of}
use Rattle.reading.specs.declared.Run.{Run}
use Rattle.lesson.specs.declared.Took.{Took as Given}

pub record Took : Type 0 where
  pub run : Run
  pub used : ℕ
  pub written : ℕ
  pub refusal : ℕ

-- A refusal has a number, uses and writes nothing, and leaves the run as it was.
abbrev pub took_says : Run → Result Given Refusal → Took
took_says run (Ok took) = record { run = took.run; used = took.used; written = took.written; refusal = 0 }
took_says run (Err r) = record { run = run; used = 0; written = 0; refusal = number_of r }
