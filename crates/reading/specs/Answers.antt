-- What a call of a run by parts comes to: 0 or a refusal, the run after it, what its row came to, and how much of the part is used.
-- Assumes nothing.
use Rattle.std.specs.Prelude.{ℕ, Result, Ok, Err}
use Rattle.refusals.specs.declared.Refusal.{Refusal}
use Rattle.refusals.specs.Numbers.{number_of}
use Rattle.reading.specs.declared.Came.{Came}
use Rattle.reading.specs.declared.Came.TheVariants.{Nothing}
use Rattle.reading.specs.declared.Run.{Run}
use Rattle.reading.specs.declared.Next.{Next as Given}

pub record Next : Type 0 where
  pub run : Run
  pub came : Came
  pub used : ℕ
  pub refusal : ℕ

-- A refusal has a number, and leaves the run as it was.
abbrev pub next_says : Run → Result Given Refusal → Next
next_says run (Ok next) = record { run = next.run; came = next.came; used = next.used; refusal = 0 }
next_says run (Err r) = record { run = run; came = Nothing; used = 0; refusal = number_of r }
