-- Demand 3's bound, once: below the run of 001 as printed, which outlasts it, and below demand 3 itself.
-- Assumes nothing.
use Rattle.std.specs.Prelude.{ℕ, ◌+◌, ◌*◌}
use Rattle.controller.specs.Steps.{limit}

-- In ms, where elapsed is at most this limit: 24,196 ms plus six times the limit.
unfoldable pub bound_for : ℕ → ℕ
bound_for limit = 24196 + 6 * limit

-- The bound for the limit in force: 24,796 ms.
abbrev pub bound : ℕ
bound = bound_for limit
