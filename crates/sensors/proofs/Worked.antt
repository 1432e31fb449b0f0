-- The worked sensors come out as they should: the rules compute.
-- Assumes nothing.
use mathlib.Core.Path.{refl}
use Rattle.common.specs.Case.{AllAsWanted}
use Rattle.voter.specs.Voting.{value_of}
use Rattle.voter.specs.Numbers.{number_of, channels_at}
use Rattle.voter.specs.Cases.{shown}
use Rattle.sensors.specs.Items.{sensor_items, sensor_in}
use Rattle.sensors.specs.Cases.{sensors_cases}

pub as_worked : AllAsWanted sensors_cases
unfolding value_of number_of channels_at shown sensor_items sensor_in sensors_cases
as_worked = refl
