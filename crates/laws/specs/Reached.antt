-- Every state that the controller can come to: a fresh start or a taken image of either form (requests K3 and K6), and from there any samples
-- at any stamps, refused ones among them, and any new start stamps.
-- Assumes nothing.
use Rattle.std.specs.Prelude.{List, ℕ}
use Rattle.controller.specs.declared.State.{State}
use Rattle.controller.specs.Start.{fresh_of, started_at}
use Rattle.controller.specs.Steps.{step_of}
use Rattle.image.specs.Images.{loaded_at}
use Rattle.image.specs.Conditions.{Taken}

pub data Reached : State → Type 0 where
  -- Document 01: "A fresh start takes a stamp".
  fresh : (stamp : ℕ) → Reached (fresh_of stamp)
  -- Request K3: "Loading takes a new start stamp."
  loaded : (image : List ℕ) → Taken image → (stamp : ℕ) → Reached (loaded_at stamp image)
  -- Row 0 of a trace that goes on gives a new start stamp.
  started : {s : State} → Reached s → (stamp : ℕ) → Reached (started_at stamp s)
  step : {s : State} → Reached s → (stamp : ℕ) (bytes : List ℕ) → Reached (step_of s stamp bytes).state
