-- Request K2: what the writer answers: 0 or a refusal, the dump after it, and how many bytes were written. A refusal leaves the dump as it was, and
-- writes nothing.
-- Assumes nothing.
use Rattle.std.specs.Prelude.{ℕ, Result, Ok, Err}
use Rattle.refusals.specs.declared.Refusal.{Refusal}
use Rattle.refusals.specs.Numbers.{number_of}
use Rattle.dump.specs.declared.Dump.{Dump}
use Rattle.dump.specs.declared.Wrote.{Wrote as Written}

pub record Wrote : Type 0 where
  pub refusal : ℕ
  pub dump : Dump
  pub written : ℕ

-- What a call on a dump answers.
abbrev pub wrote_says : Dump → Result Written Refusal → Wrote
wrote_says dump (Ok w) = record { refusal = 0; dump = w.dump; written = w.written }
wrote_says dump (Err r) = record { refusal = number_of r; dump = dump; written = 0 }
