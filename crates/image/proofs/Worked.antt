-- The worked images come out as they should: the rules compute.
-- Assumes nothing.
use Rattle.std.specs.Prelude.{Some}
use mathlib.Core.Bool.{true}
use mathlib.Core.Path.{◌≡◌, refl}
use lib.ListN.{replicate}
use Rattle.common.specs.Case.{AllAsWanted}
use Rattle.common.specs.Lists.{all}
use Rattle.forms.specs.Forms.{old_size, with_zeros, sensors_widened, widened, in_new_form}
use Rattle.voter.specs.Voting.{valid_channels}
use Rattle.voter.specs.Numbers.{number_of, channels_at}
use Rattle.voter.specs.Counts.{odd_with_count, no_odd_of_two, none_of_invalid}
use Rattle.sensors.specs.Items.{sensor_items, sensor_in}
use Rattle.sequence.specs.Numbers.{doors_at, gears_at}
use Rattle.controller.proofs.Computing.{rules as step_rules}
use Rattle.sequence.specs.Places.{moving_have_open}
use Rattle.image.specs.Xdr.{four_bytes, item_from, bytes_of, items_in}
use Rattle.image.specs.Items.{
  sensors_items,
  order_items,
  orders_items,
  rest_items,
  core_items,
  items_of,
  sensors_tops,
  core_tops,
  tops,
  within,
  sensors_in,
  state_in,
}
use Rattle.image.specs.Rules.{rules, rules_hold}
use Rattle.image.specs.Images.{size, new_items, image_of, save_of, fits, loaded_at, refusal_of}
use Rattle.image.specs.declared.Fault.TheVariants.{Item, Rule}
use Rattle.image.specs.Faults.{first_out, first_broken, fault_of, all_zero, is_blank}
use Rattle.image.specs.Cases.{extend_age, doors, with, fresh, old_fresh, opening, extending, image_cases}

pub as_worked : AllAsWanted image_cases
unfolding
    step_rules
    number_of channels_at sensor_items sensor_in doors_at gears_at
    four_bytes item_from bytes_of items_in
    sensors_items order_items orders_items rest_items core_items items_of
    sensors_tops core_tops tops within sensors_in state_in
    rules rules_hold moving_have_open
    all valid_channels odd_with_count no_odd_of_two none_of_invalid
    with_zeros sensors_widened widened in_new_form new_items
    image_of save_of fits loaded_at refusal_of
    fresh old_fresh opening extending image_cases
as_worked = refl

-- What is wrong with an image is named: here an age, and a rule.
pub age_named : fault_of (bytes_of (with extend_age 60001 fresh)) ≡ Some (Item extend_age)
unfolding
    four_bytes item_from bytes_of items_in
    sensors_tops core_tops tops within
    in_new_form new_items first_out fault_of fresh
age_named = refl

pub rule_named : fault_of (bytes_of (with doors 1 fresh)) ≡ Some (Rule 5)
unfolding
    step_rules
    number_of channels_at sensor_items sensor_in doors_at gears_at
    four_bytes item_from bytes_of items_in
    sensors_tops core_tops tops within sensors_in state_in
    rules rules_hold moving_have_open loaded_at
    all valid_channels odd_with_count no_odd_of_two none_of_invalid
    in_new_form new_items first_broken fault_of fresh
rule_named = refl

-- Zero bytes of the length of either form are an image, and are told.
pub zeros_are_blank : is_blank (replicate size 0) ≡ true
unfolding item_from items_in all_zero is_blank
zeros_are_blank = refl

pub old_zeros_are_blank : is_blank (replicate old_size 0) ≡ true
unfolding item_from items_in all_zero is_blank
old_zeros_are_blank = refl
