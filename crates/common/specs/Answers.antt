-- What an answer comes to in document 01: a value, or a number of its table "Refusal numbers".
-- Assumes nothing.
use Rattle.std.specs.Prelude.{ℕ}

-- It gives a value, or refuses with a number.
pub data Answer (A : Type 0) : Type 0 where
  gives : A → Answer A
  refuses : ℕ → Answer A
