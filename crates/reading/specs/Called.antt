-- What a call of a run by parts comes to, whatever is made of its rows: 0 or refusal 8, the run and what is carried on after it, how much of the
-- part is used, and how many bytes were written.
-- Assumes nothing.
use Rattle.std.specs.Prelude.{Result, Ok, Err}
use Rattle.refusals.specs.declared.Refusal.{Refusal}
use Rattle.refusals.specs.Numbers.{number_of}
use Rattle.reading.specs.declared.Run.{Run}
use Rattle.reading.specs.declared.telling.Took.{Took}
use Rattle.reading.specs.Runs.{Called}

-- A refusal has a number, uses and writes nothing, and leaves all as it was.
abbrev pub called_says : {A : Type 0} → A → Run → Result (Took A) Refusal → Called A
called_says a run (Ok took) = record { run = took.run; carried = took.carried; used = took.used; written = took.written; refusal = 0 }
called_says a run (Err r) = record { run = run; carried = a; used = 0; written = 0; refusal = number_of r }
