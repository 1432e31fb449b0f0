-- Requests K3 and K6: what an image must keep to beside its ranges, as tests over the controller that it is of.
-- Assumes nothing.
use Rattle.std.specs.Prelude.{ℕ, Bool, not, ◌&&◌, List, [], ◌∷◌}
use Rattle.common.specs.Lists.{all}
use Rattle.common.specs.Tests.{implies, every}
use Rattle.voter.specs.Counts.{odd_with_count, no_odd_of_two, none_of_invalid}
use Rattle.orders.specs.Timing.{wanted_of}
use Rattle.sequence.specs.Places.{are_closed, moving_have_open}
use Rattle.controller.specs.declared.State.{State}
use Rattle.controller.specs.Shows.{general_ev, close_ev, open_ev, retract_ev, extend_ev, doors_of, red, invalid_sensor}

-- There are so many.
abbrev pub rule_count : ℕ
rule_count = 10

unfoldable pub rules : State → List Bool
rules s =
    -- moving gears have doors OPEN
    moving_have_open s.core.place ∷
    -- any of the four orders that is on is wanted and has general_EV on
    implies (close_ev s) ((wanted_of s.core.place (red s)).closes && general_ev s) ∷
    implies (open_ev s) ((wanted_of s.core.place (red s)).opens && general_ev s) ∷
    implies (retract_ev s) ((wanted_of s.core.place (red s)).retracts && general_ev s) ∷
    implies (extend_ev s) ((wanted_of s.core.place (red s)).extends && general_ev s) ∷
    -- doors not CLOSED without a cause has general_EV on
    implies (not (are_closed (doors_of s)) && not (red s)) (general_ev s) ∷
    -- an invalid sensor has a cause
    implies (invalid_sensor s) (red s) ∷
    -- at every sensor: with all channels valid the odd channel is 0 exactly if the count is 0
    all odd_with_count s.voters ∷
    -- with one struck it is 0
    all no_odd_of_two s.voters ∷
    -- with the sensor invalid both are 0
    all none_of_invalid s.voters ∷
    []

unfoldable pub rules_hold : State → Bool
rules_hold s = every (rules s)
