-- The worked cases of the joined rig give what is wanted.
-- Assumes nothing.
use mathlib.Core.List.{flatten}
use Rattle.std.proofs.Common.{refl}
use lib.Ieee.{of_bits}
use Rattle.common.specs.Case.{AllAsWanted}
use Rattle.common.specs.Lists.{given_from}
use Rattle.cylinder.specs.Cases.{with_bits, parts_shown, handed_in}
use Rattle.joined.specs.Cases.{at_four, but, started, number_of, up_from, up, with_front_door, number_cases, sensors_shown, sensors_at, next, after_up, moved_ago, sensor_cases, up_at, floats_shown, stands_shown, move_cases, drawn_into, drawn_cases}
use Rattle.joined.proofs.Computing.{rules}

pub numbers_as_worked : AllAsWanted number_cases
unfolding rules of_bits with_bits parts_shown handed_in at_four but started number_of up_from up with_front_door number_cases
numbers_as_worked = refl

pub sensors_as_worked : AllAsWanted sensor_cases
unfolding rules given_from at_four but started sensors_shown sensors_at next after_up moved_ago sensor_cases
sensors_as_worked = refl

pub moves_as_worked : AllAsWanted move_cases
unfolding rules flatten parts_shown at_four but started next up_at floats_shown stands_shown move_cases
moves_as_worked = refl

pub drawn_as_worked : AllAsWanted drawn_cases
unfolding rules flatten parts_shown started floats_shown drawn_into drawn_cases
drawn_as_worked = refl
