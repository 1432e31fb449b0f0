-- The laws of document 01 over what a row of a file shows: orders, doors, gears.
-- Assumes nothing.
use Rattle.std.specs.Prelude.{T, not}
use Rattle.sequence.specs.Places.{are_open, are_moving}
use Rattle.controller.specs.declared.State.{State}
use Rattle.controller.specs.declared.Shown.{Shown}
use Rattle.controller.specs.Lamps.{shown_of}

pub record Lawful (x : Shown) : Type 0 where
  -- Opposites never together.
  pub opposites : (T x.opens → T x.closes → ⊥) × (T x.retracts → T x.extends → ⊥)
  -- None of the four without general_EV.
  pub with_general :
      (T x.closes → T x.general) ×
      (T x.opens → T x.general) ×
      (T x.retracts → T x.general) ×
      (T x.extends → T x.general)
  -- Gear orders only with doors OPEN.
  pub doors_open : (T x.retracts → T (are_open x.doors)) × (T x.extends → T (are_open x.doors))
  -- Door orders only with gears at rest.
  pub gears_rest : (T x.opens → T (not (are_moving x.gears))) × (T x.closes → T (not (are_moving x.gears)))

-- What a state shows keeps them.
abbrev pub LooksLawful : State → Type 0
LooksLawful s = Lawful (shown_of s)
