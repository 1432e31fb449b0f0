-- What a call answers: 0 or refusal 8, the sheet after it, how much of the part is used, and how many bytes were written. After a refusal all is
-- as it was.
-- Assumes nothing.
use Rattle.std.specs.Prelude.{ℕ, Result, Ok, Err}
use Rattle.refusals.specs.declared.Refusal.{Refusal}
use Rattle.refusals.specs.Numbers.{number_of}
use Rattle.sheets.specs.declared.Sheet.{Sheet}
use Rattle.sheets.specs.declared.Took.{Took as Given}

pub record Took : Type 0 where
  pub sheet : Sheet
  pub used : ℕ
  pub written : ℕ
  pub refusal : ℕ

-- What a call on a sheet answers.
abbrev pub took_says : Sheet → Result Given Refusal → Took
took_says s (Ok t) = record { sheet = t.sheet; used = t.used; written = t.written; refusal = 0 }
took_says s (Err r) = record { sheet = s; used = 0; written = 0; refusal = number_of r }
