-- Where doors and gears stand, as document 01's rules and laws and the rules of requests K3 and K7 ask it.
-- Assumes nothing.
use Rattle.std.specs.Prelude.{Bool, true, false, not, ◌||◌}
use Rattle.sequence.specs.declared.Doors.{Doors}
use Rattle.sequence.specs.declared.Doors.TheVariants.{Closed, Opening, Open, Closing}
use Rattle.sequence.specs.declared.Gears.{Gears}
use Rattle.sequence.specs.declared.Gears.TheVariants.{Retracted, Extending, Extended, Retracting}
use Rattle.sequence.specs.declared.Place.{Place}

-- Doors CLOSED.
abbrev pub are_closed : Doors → Bool
are_closed Closed = true
are_closed Opening = false
are_closed Open = false
are_closed Closing = false

-- Doors OPEN.
abbrev pub are_open : Doors → Bool
are_open Closed = false
are_open Opening = false
are_open Open = true
are_open Closing = false

-- Gears EXTENDED.
abbrev pub are_extended : Gears → Bool
are_extended Retracted = false
are_extended Extending = false
are_extended Extended = true
are_extended Retracting = false

-- Gears EXTENDING or RETRACTING.
abbrev pub are_moving : Gears → Bool
are_moving Retracted = false
are_moving Extending = true
are_moving Extended = false
are_moving Retracting = true

-- Moving gears have doors OPEN: so it is at every place that a run comes to.
unfoldable pub moving_have_open : Place → Bool
moving_have_open p = not (are_moving p.gears) || are_open p.doors
