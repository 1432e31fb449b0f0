-- Request K1, "before the first accepted step": the states in which no step has been accepted, and what the lamps show in them.
-- Assumes nothing.
use Rattle.std.specs.Prelude.{◌≡◌, ℕ, true, false, List}
use Rattle.controller.specs.declared.State.{State}
use Rattle.controller.specs.declared.Lights.{Lights}
use Rattle.controller.specs.Start.{fresh_of}
use Rattle.controller.specs.Steps.{step_of}

-- A fresh start at any stamp, and what follows it over samples that are all refused.
pub data BeforeFirst : State → Type 0 where
  fresh : (stamp : ℕ) → BeforeFirst (fresh_of stamp)
  refused : {s : State} → BeforeFirst s → (stamp : ℕ) (bytes : List ℕ) → ¬ ((step_of s stamp bytes).refusal ≡ 0) → BeforeFirst (step_of s stamp bytes).state

-- Green 1, orange 0, red 0.
abbrev pub green_only : Lights
green_only = record { green = true; orange = false; red = false }
