-- Document 01, "Ages" and "Orders": the five orders and their ages over one accepted step.
-- Assumes nothing.
use Rattle.std.specs.Prelude.{Bool, true, false, cond, not, ◌&&◌, ◌||◌, ℕ, ◌+◌, min, leb}
use Rattle.std.specs.Bool.{beq}
use Rattle.sequence.specs.declared.Doors.{Doors}
use Rattle.sequence.specs.declared.Doors.TheVariants.{Closed, Opening, Open, Closing}
use Rattle.sequence.specs.declared.Gears.{Gears}
use Rattle.sequence.specs.declared.Gears.TheVariants.{Retracted, Extending, Extended, Retracting}
use Rattle.sequence.specs.declared.Place.{Place}
use Rattle.sequence.specs.Places.{are_closed}
use Rattle.orders.specs.declared.Order.{Order}
use Rattle.orders.specs.declared.Orders.{Orders}
use Rattle.orders.specs.declared.Wanted.{Wanted}

abbrev pub order : Bool → ℕ → Order
order on age = record { on = on; age = age }

-- ---- Ages

-- Ages stop at 60,000.
abbrev pub oldest : ℕ
oldest = 60000

-- All grow by elapsed and stop there.
unfoldable pub grown_age : ℕ → ℕ → ℕ
grown_age elapsed age = min (age + elapsed) oldest

unfoldable pub grown : ℕ → Order → Order
grown elapsed o = order o.on (grown_age elapsed o.age)

unfoldable pub all_grown : ℕ → Orders → Orders
all_grown elapsed os =
    record {
      general = grown elapsed os.general;
      closes = grown elapsed os.closes;
      opens = grown elapsed os.opens;
      retracts = grown elapsed os.retracts;
      extends = grown elapsed os.extends;
    }

-- ---- Orders

-- On before this step with this age or more; off with this age or more.
unfoldable pub on_for : ℕ → Order → Bool
on_for ms o = o.on && leb ms o.age

unfoldable pub off_for : ℕ → Order → Bool
off_for ms o = not o.on && leb ms o.age

-- Each order that changes gets age 0.
unfoldable pub switched : Bool → Order → Order
switched on o = cond (beq on o.on) o (order on 0)

-- Wanted: open_EV when OPENING, close_EV when CLOSING.
abbrev pub is_opening : Doors → Bool
is_opening Closed = false
is_opening Opening = true
is_opening Open = false
is_opening Closing = false

abbrev pub is_closing : Doors → Bool
is_closing Closed = false
is_closing Opening = false
is_closing Open = false
is_closing Closing = true

-- Wanted: retract_EV when RETRACTING, extend_EV when EXTENDING.
abbrev pub is_retracting : Gears → Bool
is_retracting Retracted = false
is_retracting Extending = false
is_retracting Extended = false
is_retracting Retracting = true

abbrev pub is_extending : Gears → Bool
is_extending Retracted = false
is_extending Extending = true
is_extending Extended = false
is_extending Retracting = false

-- Wanted, and none with an anomaly.
unfoldable pub wanted_of : Place → Bool → Wanted
wanted_of p anomaly =
    record {
      closes = is_closing p.doors && not anomaly;
      opens = is_opening p.doors && not anomaly;
      retracts = is_retracting p.gears && not anomaly;
      extends = is_extending p.gears && not anomaly;
    }

-- An unwanted one stops at once. A wanted one that is off starts if general_EV was on before this step with age 200 or more,
-- and its opposite was off with age 100 or more.
unfoldable pub directed : Bool → Order → Order → Order → Order
directed wanted general opposite o = switched (wanted && (o.on || on_for 200 general && off_for 100 opposite)) o

-- All four others were off before this step with age 1,000 or more.
unfoldable pub off_together : Orders → Bool
off_together os = off_for 1000 os.closes && off_for 1000 os.opens && off_for 1000 os.retracts && off_for 1000 os.extends

-- General_EV starts when doors are not CLOSED and there is no anomaly. It stops when doors are CLOSED or there is an anomaly,
-- and all four others were off before this step with age 1,000 or more.
unfoldable pub general_of : Bool → Bool → Order → Order
general_of needed stops o = switched (cond o.on (needed || not stops) needed) o

-- The orders of a step, from those before it (their ages grown), the new doors and gears and the new anomaly.
unfoldable pub orders_of : Place → Bool → Orders → Orders
orders_of p anomaly os =
    record {
      general = general_of (not (are_closed p.doors) && not anomaly) (off_together os) os.general;
      closes = directed (wanted_of p anomaly).closes os.general os.opens os.closes;
      opens = directed (wanted_of p anomaly).opens os.general os.closes os.opens;
      retracts = directed (wanted_of p anomaly).retracts os.general os.extends os.retracts;
      extends = directed (wanted_of p anomaly).extends os.general os.retracts os.extends;
    }
