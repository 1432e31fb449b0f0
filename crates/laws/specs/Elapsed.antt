-- Document 01, "The sample": "Elapsed is this stamp less the last accepted one, modulo 2^32", by itself and without a subtraction.
-- Assumes nothing.
use Rattle.std.specs.Prelude.{◌≡◌, ℕ, ◌+◌, ◌<◌, ◌%◌, ◌^◌}

-- So many ms, below 2^32, lead from the last stamp to this one on a clock that goes from 2^32 - 1 to 0.
abbrev pub Leads : ℕ → ℕ → ℕ → Type 0
Leads last stamp ms = (ms < 2 ^ 32) × ((last + ms) % 2 ^ 32 ≡ stamp)
