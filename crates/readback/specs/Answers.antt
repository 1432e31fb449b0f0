-- Request K2: what a call of the reader answers. Beside the number 0 or a refusal: whether a moment is complete, its time, how much of the part
-- is used, and the reader behind it; after a refusal the reader is as it was.
-- Assumes nothing.
use Rattle.std.specs.Prelude.{ℕ, Bool, true, false, Option, Some, None, Result, Ok, Err}
use Rattle.refusals.specs.Numbers.{number_of}
use Rattle.readback.specs.declared.Reader.{Reader}
use Rattle.readback.specs.declared.Took.{Took as Given}
use Rattle.readback.specs.declared.Refused.{Refused}

pub record Took : Type 0 where
  pub refusal : ℕ
  pub given : Bool
  pub time : ℕ
  pub used : ℕ
  pub reader : Reader

-- Whether a moment is complete, and its time, or 0.
abbrev pub is_given : Option ℕ → Bool
is_given (Some time) = true
is_given None = false

abbrev pub time_given : Option ℕ → ℕ
time_given (Some time) = time
time_given None = 0

-- What a call on a reader answers.
abbrev pub took_says : Reader → Result Given Refused → Took
took_says r (Ok t) = record { refusal = 0; given = is_given t.moment; time = time_given t.moment; used = t.used; reader = t.reader }
took_says r (Err e) = record { refusal = number_of e.refusal; given = false; time = 0; used = e.used; reader = r }
