-- Document 01, "Both sides of each threshold", P1 to P3 as request K5 changes them: P1 to P12 as one list. P1 to P3 are the voter's, and
-- then bounces with refused samples between; P4 to P12 are worked over whole steps, of the controller or of its core.
-- Assumes nothing.
use Rattle.std.specs.Prelude.{Bool, true, false, List, [], ◌∷◌, ◌++◌, ℕ, ◌-◌}
use Rattle.common.specs.Bits.{bit}
use Rattle.common.specs.Case.{Case}
use Rattle.voter.specs.Cases.{shown, voter_cases}
use Rattle.sequence.specs.declared.Doors.TheVariants.{Closed, Opening, Open, Closing}
use Rattle.sequence.specs.declared.Gears.TheVariants.{Retracted, Extending, Extended, Retracting}
use Rattle.sequence.specs.declared.Aim.{Aim}
use Rattle.sequence.specs.declared.Aim.TheVariants.{ToRetracted, ToExtended}
use Rattle.sequence.specs.declared.Place.{Place}
use Rattle.sequence.specs.Moves.{place}
use Rattle.sequence.specs.Numbers.{doors_number}
use Rattle.orders.specs.declared.Order.{Order}
use Rattle.orders.specs.declared.Orders.{Orders}
use Rattle.orders.specs.Timing.{order, oldest}
use Rattle.monitors.specs.declared.Three.{Three}
use Rattle.monitors.specs.declared.Sight.{Sight}
use Rattle.controller.specs.declared.Core.{Core}
use Rattle.controller.specs.Answers.{Answer}
use Rattle.controller.specs.Votes.{analogical_switch}
use Rattle.controller.specs.Start.{fresh_of, fresh_orders}
use Rattle.controller.specs.Stages.{elapsed_of, core_step}
use Rattle.controller.specs.Steps.{step_of}
use Rattle.controller.specs.Samples.{sees, Row, after}
use Rattle.laws.specs.Bounces.{sensor_at}
use Rattle.laws.specs.Lesson.{switch_says}

-- ---- Bounces with refused samples between

-- The switch after samples from a fresh start at stamp 0, shown as the voter's cases show it.
unfoldable pub switch_after : List Row → List ℕ
switch_after rows = shown (sensor_at analogical_switch (after (fresh_of 0) rows))

-- Channel 3 is the odd one at 100 and 200 ms; then a sample at 200 ms again, which gets 3.
unfoldable pub twice_then_refused : List ℕ → List Row
twice_then_refused refused = (100, switch_says 0 0 1) ∷ (200, switch_says 0 0 1) ∷ (200, refused) ∷ []

unfoldable pub bounce_cases : List Case
bounce_cases =
    record { name = "a refused sample does not add to a count"; gives = switch_after (twice_then_refused (switch_says 0 0 1)); wanted = 0 ∷ 0 ∷ 3 ∷ 2 ∷ [] } ∷
    record { name = "a refused sample does not reset a count"; gives = switch_after (twice_then_refused (switch_says 0 0 0)); wanted = 0 ∷ 0 ∷ 3 ∷ 2 ∷ [] } ∷
    record { name = "the third accepted one strikes"; gives = switch_after (twice_then_refused (switch_says 0 0 0) ++ (300, switch_says 0 0 1) ∷ []); wanted = 0 ∷ 3 ∷ 0 ∷ 0 ∷ [] } ∷
    []

-- ---- A step of the controller

-- An answer shown by its refusal and the last accepted stamp.
unfoldable pub shown_answer : Answer → List ℕ
shown_answer a = a.refusal ∷ a.state.stamp ∷ []

-- P4: a fresh start, the handle goes up at stamp 4,294,967,290, and the next sample comes at stamp 4. Beside its answer, the ages of
-- the handle and of general_EV, which both changed at the sample before: what has elapsed since.
unfoldable pub answered_over_the_round : List ℕ
answered_over_the_round =
    let up : List ℕ = sees 0 1 1 0 1 0 0 in
    let answer : Answer = step_of (step_of (fresh_of 4294967200) 4294967290 up).state 4 up in
    shown_answer answer ++ answer.state.core.since ∷ answer.state.core.orders.general.age ∷ []

-- P5: a fresh start at stamp 0, then a sample so many ms later.
unfoldable pub answered_after : ℕ → List ℕ
answered_after ms = shown_answer (step_of (fresh_of 0) ms (sees 1 0 1 0 1 0 0))

-- ---- A step of the core, of 1 ms, in which the handle does not change

-- An order on for so long, and one off. The cases name ages as the step looks at them: grown. Before it they are 1 ms less.
abbrev pub on_from : ℕ → Order
on_from age = order true (age - 1)

abbrev pub off_from : ℕ → Order
off_from age = order false (age - 1)

-- No cause yet; orders, the handle's age (grown), doors and gears.
abbrev pub core_from : Orders → ℕ → Place → Core
core_from os since p = record { orders = os; since = since - 1; place = p; cause = 0 }

-- Sensors at which no door and no gear is seen anywhere, the switch is open and none is invalid; with or without pressure.
unfoldable pub nothing_seen : Bool → Sight
nothing_seen pressurized =
    let none : Three = record { any = false; all = false } in
    record {
      closed = none;
      opened = none;
      extended = none;
      retracted = none;
      pressurized = pressurized;
      switch = false;
      invalid = false;
    }

-- The core after such a step.
unfoldable pub step_from : Core → Aim → Bool → Core
step_from c aim pressurized = core_step 1 false aim (nothing_seen pressurized) c

-- General_EV on; the others off, each for so long.
abbrev pub general_only : ℕ → ℕ → Orders
general_only general others =
    record {
      general = on_from general;
      closes = off_from others;
      opens = off_from others;
      retracts = off_from others;
      extends = off_from others;
    }

-- Is an order on after the step?
unfoldable pub is_on_after : (Orders → Order) → Orders → Place → Aim → ℕ
is_on_after which os p aim = bit (which (step_from (core_from os oldest p) aim false).orders).on

-- P6: doors OPENING, handle up, general_EV on for this age. Is open_EV on?
unfoldable pub opens_at_general : ℕ → ℕ
opens_at_general age = is_on_after (λ (os : Orders). os.opens) (general_only age oldest) (place Opening Extended) ToRetracted

-- P7: one of the four is wanted, general_EV on for long, its opposite (as all others) off for 99 ms, and for 100. Is it on?
unfoldable pub starts_at_opposite : (Orders → Order) → Place → Aim → List ℕ
starts_at_opposite which p aim = is_on_after which (general_only 1000 99) p aim ∷ is_on_after which (general_only 1000 100) p aim ∷ []

-- P8: doors CLOSED, gears EXTENDED, handle down, the four off for this age. Is general_EV on?
unfoldable pub general_at_others : ℕ → ℕ
general_at_others age = is_on_after (λ (os : Orders). os.general) (general_only 1500 age) (place Closed Extended) ToExtended

-- P9: open_EV on for this age, no door seen closed and none open. The cause after the step.
unfoldable pub cause_at_open : ℕ → ℕ
cause_at_open age =
    let off : Order = off_from oldest in
    let os : Orders = record { general = on_from 10000; closes = off; opens = on_from age; retracts = off; extends = off } in
    (step_from (core_from os oldest (place Opening Extended)) ToRetracted true).cause

-- P10: all at rest, the switch open at this handle age. The cause after the step.
unfoldable pub cause_at_handle : ℕ → ℕ
cause_at_handle since = (step_from (core_from fresh_orders since (place Closed Extended)) ToExtended false).cause

-- P11, P12: handle down. The doors after the step, by K3's number: OPENING is 1, CLOSING is 3.
unfoldable pub doors_down : Place → List ℕ
doors_down p = doors_number (step_from (core_from (general_only 1000 1000) oldest p) ToExtended false).place.doors ∷ []

-- ---- The list

-- P4 to P12.
unfoldable pub step_cases : List Case
step_cases =
    record { name = "P4 stamps 4,294,967,290 then 4: elapsed 10"; gives = elapsed_of 4294967290 4 ∷ []; wanted = 10 ∷ [] } ∷
    record { name = "P4 a step over the round: taken, and 10 ms have elapsed"; gives = answered_over_the_round; wanted = 0 ∷ 4 ∷ 10 ∷ 10 ∷ [] } ∷
    record { name = "P5 elapsed 100 taken"; gives = answered_after 100; wanted = 0 ∷ 100 ∷ [] } ∷
    record { name = "P5 elapsed 101 refused"; gives = answered_after 101; wanted = 4 ∷ 0 ∷ [] } ∷
    record { name = "P6 general age 199 holds open_EV back, 200 starts it"; gives = opens_at_general 199 ∷ opens_at_general 200 ∷ []; wanted = 0 ∷ 1 ∷ [] } ∷
    record { name = "P7 opposite age 99 and 100: open_EV"; gives = starts_at_opposite (λ (os : Orders). os.opens) (place Opening Extended) ToRetracted; wanted = 0 ∷ 1 ∷ [] } ∷
    record { name = "P7 opposite age 99 and 100: close_EV"; gives = starts_at_opposite (λ (os : Orders). os.closes) (place Closing Extended) ToExtended; wanted = 0 ∷ 1 ∷ [] } ∷
    record { name = "P7 opposite age 99 and 100: retract_EV"; gives = starts_at_opposite (λ (os : Orders). os.retracts) (place Open Retracting) ToRetracted; wanted = 0 ∷ 1 ∷ [] } ∷
    record { name = "P7 opposite age 99 and 100: extend_EV"; gives = starts_at_opposite (λ (os : Orders). os.extends) (place Open Extending) ToExtended; wanted = 0 ∷ 1 ∷ [] } ∷
    record { name = "P8 general stop at 999 and 1,000"; gives = general_at_others 999 ∷ general_at_others 1000 ∷ []; wanted = 1 ∷ 0 ∷ [] } ∷
    record { name = "P9 cause 2 at 6,999 and 7,000"; gives = cause_at_open 6999 ∷ cause_at_open 7000 ∷ []; wanted = 0 ∷ 2 ∷ [] } ∷
    record { name = "P10 switch open at handle age 999, 1,000, 19,999, 20,000: only the middle two"; gives = cause_at_handle 999 ∷ cause_at_handle 1000 ∷ cause_at_handle 19999 ∷ cause_at_handle 20000 ∷ []; wanted = 0 ∷ 11 ∷ 11 ∷ 0 ∷ [] } ∷
    record { name = "P11 doors CLOSING, gears RETRACTED, handle down: OPENING"; gives = doors_down (place Closing Retracted); wanted = 1 ∷ [] } ∷
    record { name = "P12 doors OPENING, gears EXTENDED, handle down: CLOSING"; gives = doors_down (place Opening Extended); wanted = 3 ∷ [] } ∷
    []

-- P1 to P12.
unfoldable pub all_cases : List Case
all_cases = voter_cases ++ bounce_cases ++ step_cases
