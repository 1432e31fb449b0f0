-- What saving comes to: 0 or refusal 8, and how many bytes were written.
-- Assumes nothing.
use Rattle.std.specs.Prelude.{ℕ, Result, Ok, Err}
use Rattle.refusals.specs.declared.Refusal.{Refusal}
use Rattle.refusals.specs.Numbers.{number_of}

pub record Saved : Type 0 where
  pub refusal : ℕ
  pub written : ℕ

-- A refusal has a number, and writes nothing.
abbrev pub saved_says : Result ℕ Refusal → Saved
saved_says (Ok written) = record { refusal = 0; written = written }
saved_says (Err r) = record { refusal = number_of r; written = 0 }
