-- The laws on doors, gears, orders, ages and causes over every sequence, read off what is allowed: every reached state is. An order
-- that is on is wanted, so doors and gears stand as the order says.
-- Assumes nothing.
use mathlib.Core.Path.{◌≡◌, subst}
use lib.Dec.{T, not_T}
use Rattle.sequence.specs.declared.Doors.{Doors}
use Rattle.sequence.specs.declared.Doors.TheVariants.{Opening, Closing}
use Rattle.sequence.specs.declared.Gears.{Gears}
use Rattle.sequence.specs.declared.Gears.TheVariants.{Extending, Retracting}
use Rattle.orders.specs.Timing.{is_closing, is_extending}
use Rattle.controller.specs.declared.State.{State}
use Rattle.controller.specs.Shows.{close_ev, open_ev, retract_ev, extend_ev, doors_of, gears_of, gears_move, gears_rest, red}
use Rattle.sequence.specs.Places.{are_open}
use Rattle.image.specs.Conditions.{
  MovingGearsHaveDoorsOpen,
  OnIsWanted,
  OpenDoorsHaveGeneral,
  InvalidSensorHasCause,
  KeepsRules,
  AgesTo60000,
  CausesTo13,
}
use Rattle.laws.specs.Laws.{
  Always,
  OppositesNeverTogether,
  NoneWithoutGeneral,
  GearOrdersOnlyWithDoorsOpen,
  DoorOrdersOnlyWithGearsAtRest,
}
use Rattle.laws.proofs.Wanted.{close_says, open_says, retract_says, extend_says}
use Rattle.laws.proofs.Kept.{open_under}
use Rattle.laws.proofs.Lifted.{reached_is_allowed}

keeps_rules : Always KeepsRules
keeps_rules s reached = (reached_is_allowed s reached).rules

-- ---- Request K3

pub moving_gears_have_doors_open : Always MovingGearsHaveDoorsOpen
moving_gears_have_doors_open s reached = (keeps_rules s reached).moving_have_open

pub an_order_that_is_on_is_wanted : Always OnIsWanted
an_order_that_is_on_is_wanted s reached = (keeps_rules s reached).on_is_wanted

pub doors_not_closed_without_a_cause_have_general : Always OpenDoorsHaveGeneral
doors_not_closed_without_a_cause_have_general s reached = (keeps_rules s reached).open_have_general

pub an_invalid_sensor_has_a_cause : Always InvalidSensorHasCause
an_invalid_sensor_has_a_cause s reached = (keeps_rules s reached).invalid_has_cause

pub ages_to_60000 : Always AgesTo60000
ages_to_60000 s reached = (reached_is_allowed s reached).ages

pub causes_to_13 : Always CausesTo13
causes_to_13 s reached = (reached_is_allowed s reached).causes

-- ---- Where doors and gears stand while an order is on

module _ (s : State) (rules : KeepsRules s) where
  while_closing : T (close_ev s) → doors_of s ≡ Closing
  while_closing h = (close_says s.core.place (red s) (rules.on_is_wanted.0 h)).0

  while_opening : T (open_ev s) → doors_of s ≡ Opening
  while_opening h = (open_says s.core.place (red s) (rules.on_is_wanted.1 h)).0

  while_retracting : T (retract_ev s) → gears_of s ≡ Retracting
  while_retracting h = (retract_says s.core.place (red s) (rules.on_is_wanted.2 h)).0

  while_extending : T (extend_ev s) → gears_of s ≡ Extending
  while_extending h = (extend_says s.core.place (red s) (rules.on_is_wanted.3 h)).0

  -- Moving gears have doors OPEN ..
  open_while_moving : T (gears_move s) → T (are_open (doors_of s))
  open_while_moving = open_under s.core.place rules.moving_have_open

  -- .. so doors that stand elsewhere have gears at rest.
  at_rest : (doors : Doors) → doors_of s ≡ doors → (T (are_open doors) → ⊥) → T (gears_rest s)
  at_rest doors e away = not_T (gears_move s) (λ m. away (subst (λ (d : Doors). T (are_open d)) e (open_while_moving m)))

  -- An order that is on is wanted, and opposites are not wanted together.
  pub opposites_by_the_rules : OppositesNeverTogether s
  opposites_by_the_rules = (
    λ o c. subst (λ (doors : Doors). T (is_closing doors)) (while_opening o) (rw (while_closing c) tt),
    λ r e. subst (λ (gears : Gears). T (is_extending gears)) (while_retracting r) (rw (while_extending e) tt),
  )

-- ---- Document 01

pub opposites_never_together : Always OppositesNeverTogether
opposites_never_together s reached = opposites_by_the_rules s (keeps_rules s reached)

pub none_of_the_four_without_general : Always NoneWithoutGeneral
none_of_the_four_without_general s reached = (keeps_rules s reached).on_has_general

pub gear_orders_only_with_doors_open : Always GearOrdersOnlyWithDoorsOpen
gear_orders_only_with_doors_open s reached =
    let rules : KeepsRules s = keeps_rules s reached in (
      λ r. open_while_moving s rules (rw (while_retracting s rules r) tt),
      λ e. open_while_moving s rules (rw (while_extending s rules e) tt),
    )

pub door_orders_only_with_gears_at_rest : Always DoorOrdersOnlyWithGearsAtRest
door_orders_only_with_gears_at_rest s reached =
    let rules : KeepsRules s = keeps_rules s reached in (
      λ o. at_rest s rules Opening (while_opening s rules o) (λ h. h),
      λ c. at_rest s rules Closing (while_closing s rules c) (λ h. h),
    )
