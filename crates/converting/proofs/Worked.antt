-- The worked conversions come out as they should: the rules compute.
-- Assumes nothing.
use mathlib.Core.Path.{refl}
use Rattle.common.specs.Case.{AllAsWanted}
use Rattle.common.specs.Lists.{some, all}
use Rattle.forms.specs.Forms.{with_zeros, sensors_widened, widened, sensors_narrowed, narrowed, in_new_form, in_old_form}
use Rattle.voter.specs.Voting.{valid_channels}
use Rattle.voter.specs.Numbers.{number_of, channels_at}
use Rattle.voter.specs.Counts.{odd_with_count, no_odd_of_two, none_of_invalid}
use Rattle.sensors.specs.Items.{sensor_items, sensor_in}
use Rattle.sequence.specs.Numbers.{doors_at, gears_at}
use Rattle.sequence.specs.Places.{moving_have_open}
use Rattle.controller.proofs.Computing.{rules as step_rules}
use Rattle.image.specs.Xdr.{four_bytes, item_from, bytes_of, items_in}
use Rattle.image.specs.Items.{sensors_tops, core_tops, tops, within, sensors_in, state_in}
use Rattle.image.specs.Rules.{rules, rules_hold}
use Rattle.image.specs.Images.{new_items, fits, loaded_at, refusal_of}
use Rattle.image.specs.Cases.{fresh, old_fresh}
use Rattle.converting.specs.Converting.{handed_over, to_new_of, some_count_runs, back_refusal_of, to_old_of}
use Rattle.converting.specs.Cases.{suspected, doubted, converting_cases}

pub as_worked : AllAsWanted converting_cases
unfolding
    step_rules
    number_of channels_at sensor_items sensor_in doors_at gears_at
    four_bytes item_from bytes_of items_in
    sensors_tops core_tops tops within sensors_in state_in
    rules rules_hold moving_have_open
    some all valid_channels odd_with_count no_odd_of_two none_of_invalid
    with_zeros sensors_widened widened sensors_narrowed narrowed in_new_form in_old_form new_items
    fits loaded_at refusal_of
    handed_over to_new_of some_count_runs back_refusal_of to_old_of
    fresh old_fresh suspected doubted converting_cases
as_worked = refl
