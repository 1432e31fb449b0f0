-- The laws hold of the controller in every image that is taken. Of those that get 11 they do not all hold, shown of one rule and of one law:
-- an image with close_EV on that is not wanted has opposites together.
-- Assumes nothing.
use mathlib.Core.Path.{refl}
use Rattle.common.specs.Lists.{all}
use Rattle.forms.specs.Forms.{in_new_form}
use Rattle.voter.specs.Voting.{valid_channels}
use Rattle.voter.specs.Numbers.{channels_at}
use Rattle.voter.specs.Counts.{odd_with_count, no_odd_of_two, none_of_invalid}
use Rattle.sensors.specs.Items.{sensor_in}
use Rattle.sequence.specs.Numbers.{doors_at, gears_at}
use Rattle.sequence.specs.Places.{moving_have_open}
use Rattle.controller.specs.declared.State.{State}
use Rattle.controller.proofs.Computing.{rules as step_rules}
use Rattle.image.specs.Xdr.{four_bytes, item_from, bytes_of, items_in}
use Rattle.image.specs.Items.{sensors_tops, core_tops, tops, within, sensors_in, state_in}
use Rattle.image.specs.Rules.{rules, rules_hold}
use Rattle.image.specs.Images.{new_items, fits, loaded_at, refusal_of}
use Rattle.image.specs.Cases.{fresh, opening}
use Rattle.image.proofs.Exact.{taken_holds}
use Rattle.laws.specs.Reached.Reached.{loaded}
use Rattle.laws.specs.Laws.{Always, OppositesNeverTogether}
use Rattle.laws.specs.Loading.{FromImages, FromTakenImages, both_on}

-- What holds always holds of the controller in every image that is taken ..
pub laws_from_taken_images : (Law : State → Type 0) → Always Law → FromTakenImages Law
laws_from_taken_images Law always image taken stamp = always _ (loaded image (taken_holds image taken) stamp)

-- .. and not of the one in every image that gets 11.
pub not_where_a_rule_is_broken : FromImages 11 OppositesNeverTogether → ⊥
unfolding
    step_rules
    channels_at sensor_in doors_at gears_at
    four_bytes item_from bytes_of items_in
    sensors_tops core_tops tops within sensors_in state_in
    rules rules_hold moving_have_open
    all valid_channels odd_with_count no_odd_of_two none_of_invalid
    in_new_form new_items fits loaded_at refusal_of
    fresh opening both_on
not_where_a_rule_is_broken law = (law both_on refl 0).0 tt tt
