-- Document 01, "The sample": a fresh start takes a stamp and gives doors CLOSED, gears EXTENDED, five orders off, no anomaly,
-- all channels valid, handle held down, other sensors held 0, every age 60,000. Request K1: it holds the gear_extended and
-- door_closed sensors at 1.
-- Assumes nothing.
use Rattle.std.specs.Prelude.{ℕ, true, false, List, [], ◌∷◌, ◌++◌, replicate}
use Rattle.voter.specs.declared.Voter.{Voter}
use Rattle.voter.specs.Voting.{fresh_with}
use Rattle.sequence.specs.declared.Doors.TheVariants.{Closed}
use Rattle.sequence.specs.declared.Gears.TheVariants.{Extended}
use Rattle.sequence.specs.Moves.{place}
use Rattle.orders.specs.declared.Order.{Order}
use Rattle.orders.specs.declared.Orders.{Orders}
use Rattle.orders.specs.Timing.{order, oldest}
use Rattle.controller.specs.declared.Core.{Core}
use Rattle.controller.specs.declared.State.{State}

-- Off, with age 60,000.
unfoldable pub off_long : Order
off_long = order false oldest

-- Five orders off.
unfoldable pub fresh_orders : Orders
fresh_orders = record { general = off_long; closes = off_long; opens = off_long; retracts = off_long; extends = off_long }

-- Doors CLOSED, gears EXTENDED, no anomaly.
unfoldable pub fresh_core : Core
fresh_core = record { orders = fresh_orders; since = oldest; place = place Closed Extended; cause = 0 }

-- All channels valid; handle held down, gear_extended and door_closed held 1, the others held 0. In the sample's order.
unfoldable pub fresh_voters : List Voter
fresh_voters =
    -- handle, analogical_switch
    fresh_with true ∷ fresh_with false ∷
    -- gear_extended
    replicate 3 (fresh_with true) ++
    -- gear_retracted
    replicate 3 (fresh_with false) ++
    -- gear_shock_absorber
    replicate 3 (fresh_with false) ++
    -- door_closed
    replicate 3 (fresh_with true) ++
    -- door_open
    replicate 3 (fresh_with false) ++
    -- circuit_pressurized
    fresh_with false ∷
    []

-- A fresh start takes a stamp.
unfoldable pub fresh_of : ℕ → State
fresh_of stamp = record { stamp = stamp; voters = fresh_voters; core = fresh_core }

-- Request K3: a lesson that goes on takes a new start stamp, and all else is as it was.
unfoldable pub started_at : ℕ → State → State
started_at stamp s = record { stamp = stamp; voters = s.voters; core = s.core }
