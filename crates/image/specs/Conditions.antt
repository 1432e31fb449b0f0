-- Request K3: "An image is taken exactly if every item is in range (ages to 60,000), moving gears have doors OPEN, any of the four
-- orders that is on is wanted and has general_EV on, doors not CLOSED without a cause has general_EV on, and an invalid sensor has a
-- cause." And request K6: "New rules beside K3's", for odd channel and count. Condition by condition, each over one state.
-- Assumes nothing.
use Rattle.std.specs.Prelude.{List, [], ◌∷◌, ◌++◌, ◌≡◌, ℕ, zero, suc, ◌-◌, ◌^◌, ◌≤◌, ◌<◌, T, length}
use Rattle.common.specs.Lists.{Each}
use Rattle.voter.specs.Counts.{CountInRange, KeepsCountRules}
use Rattle.voter.specs.Numbers.{last_number}
use Rattle.forms.specs.Forms.{old_size, HasForm}
use Rattle.sequence.specs.declared.Doors.TheVariants.{Closed}
use Rattle.sequence.specs.Places.{moving_have_open}
use Rattle.orders.specs.Timing.{oldest, wanted_of}
use Rattle.controller.specs.declared.State.{State}
use Rattle.controller.specs.Shows.{
  general_ev,
  close_ev,
  open_ev,
  retract_ev,
  extend_ev,
  doors_of,
  red,
  invalid_sensor,
}
use Rattle.image.specs.Xdr.{items_in}
use Rattle.image.specs.Items.{sensor_count, last_cause, core_tops, tops, item_at}
use Rattle.image.specs.Images.{new_items, loaded_at}

-- ---- Of the controller

-- Moving gears have doors OPEN.
abbrev pub MovingGearsHaveDoorsOpen : State → Type 0
MovingGearsHaveDoorsOpen s = T (moving_have_open s.core.place)

-- Any of the four orders that is on is wanted ..
abbrev pub OnIsWanted : State → Type 0
OnIsWanted s =
    (T (close_ev s) → T (wanted_of s.core.place (red s)).closes) ×
    (T (open_ev s) → T (wanted_of s.core.place (red s)).opens) ×
    (T (retract_ev s) → T (wanted_of s.core.place (red s)).retracts) ×
    (T (extend_ev s) → T (wanted_of s.core.place (red s)).extends)

-- .. and has general_EV on.
abbrev pub OnHasGeneral : State → Type 0
OnHasGeneral s =
    (T (close_ev s) → T (general_ev s)) ×
    (T (open_ev s) → T (general_ev s)) ×
    (T (retract_ev s) → T (general_ev s)) ×
    (T (extend_ev s) → T (general_ev s))

-- Doors not CLOSED without a cause has general_EV on.
abbrev pub OpenDoorsHaveGeneral : State → Type 0
OpenDoorsHaveGeneral s = ¬ (doors_of s ≡ Closed) → s.core.cause ≡ 0 → T (general_ev s)

-- An invalid sensor has a cause.
abbrev pub InvalidSensorHasCause : State → Type 0
InvalidSensorHasCause s = T (invalid_sensor s) → ¬ (s.core.cause ≡ 0)

-- At every sensor, odd channel and count keep to each other and to the channels that are valid.
abbrev pub CountsKeepRules : State → Type 0
CountsKeepRules s = Each KeepsCountRules s.voters

-- The five rules of request K3, and those of request K6.
pub record KeepsRules (s : State) : Type 0 where
  pub moving_have_open : MovingGearsHaveDoorsOpen s
  pub on_is_wanted : OnIsWanted s
  pub on_has_general : OnHasGeneral s
  pub open_have_general : OpenDoorsHaveGeneral s
  pub invalid_has_cause : InvalidSensorHasCause s
  pub counts_keep : CountsKeepRules s

-- Those of request K3 alone.
pub record KeepsRulesOfK3 (s : State) : Type 0 where
  pub moving_have_open : MovingGearsHaveDoorsOpen s
  pub on_is_wanted : OnIsWanted s
  pub on_has_general : OnHasGeneral s
  pub open_have_general : OpenDoorsHaveGeneral s
  pub invalid_has_cause : InvalidSensorHasCause s

-- Odd channels to 3 and counts to 2.
abbrev pub CountsInRange : State → Type 0
CountsInRange s = Each CountInRange s.voters

-- Ages to 60,000: the five orders' and the handle's.
abbrev pub AgesTo60000 : State → Type 0
AgesTo60000 s =
    (s.core.orders.general.age ≤ oldest) ×
    (s.core.orders.closes.age ≤ oldest) ×
    (s.core.orders.opens.age ≤ oldest) ×
    (s.core.orders.retracts.age ≤ oldest) ×
    (s.core.orders.extends.age ≤ oldest) ×
    (s.core.since ≤ oldest)

-- Causes to 13.
abbrev pub CausesTo13 : State → Type 0
CausesTo13 s = s.core.cause ≤ last_cause

-- A controller whose image is taken: the eighteen sensors, odd channels, counts, ages and cause in range, and the rules.
pub record Allowed (s : State) : Type 0 where
  pub sensors : length s.voters ≡ sensor_count
  pub counts : CountsInRange s
  pub ages : AgesTo60000 s
  pub causes : CausesTo13 s
  pub rules : KeepsRules s

-- ---- Of the image

-- Every number of a list is below this.
abbrev pub AllBelow : ℕ → List ℕ → Type 0
AllBelow top numbers = (k : ℕ) → k < length numbers → item_at numbers k < top

-- Bytes: each is below 256.
abbrev pub AllBytes : List ℕ → Type 0
AllBytes = AllBelow 256

-- As long as an image of either form is, and every item is in range.
pub record InRange (image : List ℕ) : Type 0 where
  pub long : HasForm image
  pub ranges : (k : ℕ) → k < length tops → item_at (new_items image) k ≤ item_at tops k

-- K3's ranges, of the 51 items of the old form: the stamp, per sensor its voter and held value, and the rest.
unfoldable pub old_sensors_tops : ℕ → List ℕ
old_sensors_tops zero = []
old_sensors_tops (suc sensors) = last_number ∷ 1 ∷ old_sensors_tops sensors

unfoldable pub old_tops : List ℕ
old_tops = (2 ^ 32 - 1) ∷ (old_sensors_tops sensor_count ++ core_tops)

-- As long as an old image is, and every item of its own in range.
pub record OldInRange (image : List ℕ) : Type 0 where
  pub long : length image ≡ old_size
  pub ranges : (k : ℕ) → k < length old_tops → item_at (items_in image) k ≤ item_at old_tops k

-- An image that is taken, of either form.
pub record Taken (image : List ℕ) : Type 0 where
  pub in_range : InRange image
  pub rules : KeepsRules (loaded_at 0 image)
