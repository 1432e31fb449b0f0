-- Document 01, "Lights", as request K1 has it: green and orange are read from the voted sensors. And what an output row shows of
-- a state.
-- Assumes nothing.
use Rattle.std.specs.Prelude.{ℕ, ◌+◌, Bool, not, ◌&&◌, ◌||◌, List, [], ◌∷◌, map}
use Rattle.voter.specs.declared.Voter.{Voter}
use Rattle.controller.specs.declared.State.{State}
use Rattle.controller.specs.declared.Lights.{Lights}
use Rattle.controller.specs.declared.Shown.{Shown}
use Rattle.controller.specs.Votes.{gear_extended, gear_retracted, door_closed, sensor, three_from}
use Rattle.controller.specs.Stages.{anomaly}

-- Green: all three gears voted extended.
unfoldable pub green_of : List Voter → Bool
green_of vs = (three_from gear_extended vs).all

-- A gear (0 front, 1 left, 2 right) voted neither extended nor retracted.
unfoldable pub neither_at : ℕ → List Voter → Bool
neither_at gear vs = not (sensor (gear_extended + gear) vs) && not (sensor (gear_retracted + gear) vs)

-- Orange: some door is not voted closed, or some gear is voted neither extended nor retracted.
unfoldable pub orange_of : List Voter → Bool
orange_of vs = not (three_from door_closed vs).all || neither_at 0 vs || neither_at 1 vs || neither_at 2 vs

-- Red: anomaly.
unfoldable pub lights_of : State → Lights
lights_of s = record { green = green_of s.voters; orange = orange_of s.voters; red = anomaly s.core }

-- The five orders, doors, gears and the lights.
unfoldable pub shown_of : State → Shown
shown_of s =
    record {
      general = s.core.orders.general.on;
      closes = s.core.orders.closes.on;
      opens = s.core.orders.opens.on;
      retracts = s.core.orders.retracts.on;
      extends = s.core.orders.extends.on;
      doors = s.core.place.doors;
      gears = s.core.place.gears;
      lights = lights_of s;
    }

-- The eighteen voted values, in the sample's order.
unfoldable pub values_of : State → List Bool
values_of s =
    map (λ (i : ℕ). sensor i s.voters)
    (0 ∷ 1 ∷ 2 ∷ 3 ∷ 4 ∷ 5 ∷ 6 ∷ 7 ∷ 8 ∷ 9 ∷ 10 ∷ 11 ∷ 12 ∷ 13 ∷ 14 ∷ 15 ∷ 16 ∷ 17 ∷ [])
