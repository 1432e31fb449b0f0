-- What a state shows, by the words of document 01 and request K3: the laws and the rules of an image speak of these.
-- Assumes nothing.
use Rattle.std.specs.Prelude.{Bool, not}
use Rattle.sequence.specs.declared.Doors.{Doors}
use Rattle.sequence.specs.declared.Gears.{Gears}
use Rattle.sequence.specs.Places.{are_moving}
use Rattle.controller.specs.declared.State.{State}
use Rattle.controller.specs.Votes.{some_invalid}
use Rattle.controller.specs.Stages.{anomaly}

-- ---- The five orders

abbrev pub general_ev : State → Bool
general_ev s = s.core.orders.general.on

abbrev pub close_ev : State → Bool
close_ev s = s.core.orders.closes.on

abbrev pub open_ev : State → Bool
open_ev s = s.core.orders.opens.on

abbrev pub retract_ev : State → Bool
retract_ev s = s.core.orders.retracts.on

abbrev pub extend_ev : State → Bool
extend_ev s = s.core.orders.extends.on

-- ---- Doors and gears

abbrev pub doors_of : State → Doors
doors_of s = s.core.place.doors

abbrev pub gears_of : State → Gears
gears_of s = s.core.place.gears

-- Gears EXTENDING or RETRACTING.
abbrev pub gears_move : State → Bool
gears_move s = are_moving (gears_of s)

-- Gears RETRACTED or EXTENDED.
abbrev pub gears_rest : State → Bool
gears_rest s = not (gears_move s)

-- ---- The anomaly, and the sensors

abbrev pub red : State → Bool
red s = anomaly s.core

abbrev pub invalid_sensor : State → Bool
invalid_sensor s = some_invalid s.voters
