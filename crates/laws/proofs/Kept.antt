-- The last stages of an accepted step leave an allowed controller. Only the doors under moving gears, and the counts, which the vote has kept,
-- need the state before: the rest is given by the rule for orders and by ages that stop at 60,000.
-- Assumes nothing.
use Prim.Native.Nat.{ℕ, ◌≤◌, zero-le}
use native.Mathlib.Omega.{arith}
use mathlib.Core.Bool.{Bool, true, false, cond, not, ◌&&◌}
use mathlib.Core.List.{List}
use mathlib.Core.Path.{◌≡◌}
use lib.Dec.{T, eqb}
use lib.ListN.{length}
use mir.Facts.{yes_and}
use Rattle.common.specs.Lists.{Each}
use Rattle.common.proofs.Each.{each_so}
use Rattle.voter.specs.declared.Voter.{Voter}
use Rattle.voter.specs.Counts.{CountInRange, KeepsCountRules, CountKept}
use Rattle.sequence.specs.declared.Doors.{Doors}
use Rattle.sequence.specs.declared.Doors.TheVariants.{Closed, Opening, Open, Closing}
use Rattle.sequence.specs.declared.Gears.{Gears}
use Rattle.sequence.specs.declared.Gears.TheVariants.{Extending, Retracting}
use Rattle.sequence.specs.declared.Place.{Place}
use Rattle.sequence.specs.Places.{are_closed, are_open, are_moving, moving_have_open}
use Rattle.orders.specs.declared.Order.{Order}
use Rattle.orders.specs.declared.Orders.{Orders}
use Rattle.orders.specs.declared.Wanted.{Wanted}
use Rattle.orders.specs.Timing.{oldest, order, grown_age, grown, all_grown, switched, wanted_of, directed, off_together, general_of, orders_of}
use Rattle.orders.proofs.Laws.{on_is_wanted, needed_keeps_general}
use Rattle.controller.specs.declared.State.{State}
use Rattle.controller.specs.Stages.{anomaly, core_orders, orders_stage}
use Rattle.image.specs.Items.{sensor_count}
use Rattle.image.specs.Conditions.{InvalidSensorHasCause, CausesTo13, Allowed}
use Rattle.image.proofs.Keeping.{are_out, no_red}
use Rattle.common.proofs.Tests.{then}
use Rattle.laws.proofs.Wanted.{close_says, open_says, retract_says, extend_says}

-- ---- Ages stop at 60,000.

grown_aged : (elapsed age : ℕ) → grown_age elapsed age ≤ oldest
unfolding grown_age
grown_aged elapsed age = omega arith

pub since_aged : (turned : Bool) (elapsed age : ℕ) → cond turned 0 (grown_age elapsed age) ≤ oldest
since_aged true elapsed age = zero-le
since_aged false elapsed age = grown_aged elapsed age

-- ---- A switched order is no older than before.

switched_aged : (told on : Bool) (age : ℕ) → age ≤ oldest → (switched told (order on age)).age ≤ oldest
unfolding switched
switched_aged true true age h = h
switched_aged true false age h = zero-le
switched_aged false true age h = zero-le
switched_aged false false age h = h

-- ---- General_EV, and one of the four.

general_aged : (elapsed : ℕ) (needed stops : Bool) (o : Order) → (general_of needed stops (grown elapsed o)).age ≤ oldest
unfolding general_of grown
general_aged elapsed needed stops o = switched_aged _ o.on (grown_age elapsed o.age) (grown_aged elapsed o.age)

-- One of the four, where this says whether it is wanted: if it is on it is wanted and has general_EV on; its age.
record SoundOrder (wanted : Bool) (general o : Order) : Type 0 where
  is_wanted : T o.on → T wanted
  has_general : T o.on → T general.on
  aged : o.age ≤ oldest

sound_order :
    (elapsed : ℕ) (wanted needed stops : Bool) (general opposite o : Order) →
    (T wanted → T needed) →
    SoundOrder wanted (general_of needed stops general) (directed wanted general opposite (grown elapsed o))
unfolding grown directed
sound_order elapsed wanted needed stops general opposite o implies =
    record {
      is_wanted = on_is_wanted wanted general opposite (grown elapsed o);
      has_general = λ h. needed_keeps_general needed stops general (implies (on_is_wanted wanted general opposite (grown elapsed o) h));
      aged = switched_aged _ o.on (grown_age elapsed o.age) (grown_aged elapsed o.age);
    }

-- ---- What is wanted needs general_EV: doors are not CLOSED, and there is no anomaly.

-- Moving gears have doors OPEN.
pub open_under : (p : Place) → T (moving_have_open p) → T (are_moving p.gears) → T (are_open p.doors)
unfolding moving_have_open
open_under p = then (are_moving p.gears) (are_open p.doors)

open_is_out : (doors : Doors) → T (are_open doors) → T (not (are_closed doors))
open_is_out Closed h = h
open_is_out Opening h = tt
open_is_out Open h = tt
open_is_out Closing h = tt

abbrev needed : Place → Bool → Bool
needed p red = not (are_closed p.doors) && not red

needed_at : (p : Place) (red : Bool) (doors : Doors) → p.doors ≡ doors → T (not (are_closed doors)) → T (not red) → T (needed p red)
needed_at p red doors e out calm = rw e (yes_and (not (are_closed doors)) (not red) out calm)

moving_needs : (p : Place) (red : Bool) (gears : Gears) → T (moving_have_open p) → p.gears ≡ gears → T (are_moving gears) → T (not red) → T (needed p red)
moving_needs p red gears m e moving calm =
    yes_and (not (are_closed p.doors)) (not red) (open_is_out p.doors (open_under p m (rw e moving))) calm

module _ (p : Place) (red : Bool) where
  close_needs : T (wanted_of p red).closes → T (needed p red)
  close_needs w = let says = close_says p red w in needed_at p red Closing says.0 tt says.1

  open_needs : T (wanted_of p red).opens → T (needed p red)
  open_needs w = let says = open_says p red w in needed_at p red Opening says.0 tt says.1

  retract_needs : T (moving_have_open p) → T (wanted_of p red).retracts → T (needed p red)
  retract_needs m w = let says = retract_says p red w in moving_needs p red Retracting m says.0 tt says.1

  extend_needs : T (moving_have_open p) → T (wanted_of p red).extends → T (needed p red)
  extend_needs m w = let says = extend_says p red w in moving_needs p red Extending m says.0 tt says.1

-- ---- The orders' stage

-- The controller that it looks at: ages have grown.
module _ (elapsed stamp since cause : ℕ) (voters : List Voter) (p : Place) (os : Orders) where
  abbrev grown_to : State
  grown_to =
      record { stamp = stamp; voters = voters; core = record { orders = all_grown elapsed os; since = since; place = p; cause = cause } }

  pub orders_allow :
      length voters ≡ sensor_count →
      T (moving_have_open p) →
      since ≤ oldest →
      CausesTo13 grown_to →
      InvalidSensorHasCause grown_to →
      Each CountKept voters →
      Allowed (orders_stage grown_to)
  unfolding orders_stage core_orders orders_of all_grown anomaly
  orders_allow eighteen m aged caused invalid kept =
      let red : Bool = not (eqb cause 0) in
      let before : Orders = all_grown elapsed os in
      let general : Order = before.general in
      let wanted : Wanted = wanted_of p red in
      let need : Bool = needed p red in
      let stops : Bool = off_together before in
      let closes = sound_order elapsed wanted.closes need stops general before.opens os.closes (close_needs p red) in
      let opens = sound_order elapsed wanted.opens need stops general before.closes os.opens (open_needs p red) in
      let retracts = sound_order elapsed wanted.retracts need stops general before.extends os.retracts (retract_needs p red m) in
      let extends = sound_order elapsed wanted.extends need stops general before.retracts os.extends (extend_needs p red m) in
      record {
        sensors = eighteen;
        counts = each_so CountKept CountInRange (λ v own. own.in_range) voters kept;
        ages = (general_aged elapsed need stops os.general, closes.aged, opens.aged, retracts.aged, extends.aged, aged);
        causes = caused;
        rules =
            record {
              moving_have_open = m;
              on_is_wanted = (closes.is_wanted, opens.is_wanted, retracts.is_wanted, extends.is_wanted);
              on_has_general = (closes.has_general, opens.has_general, retracts.has_general, extends.has_general);
              open_have_general =
                  λ not_closed none.
                  needed_keeps_general need stops general
                  (yes_and (not (are_closed p.doors)) (not red) (are_out p.doors not_closed) (no_red grown_to none));
              invalid_has_cause = invalid;
              counts_keep = each_so CountKept KeepsCountRules (λ v own. own.rules) voters kept;
            };
      }
