-- A fresh start, and sensors at which a count runs: the definition gives what is wanted, byte for byte. By computing it.
-- Assumes nothing.
use mathlib.Core.Path.{refl}
use Rattle.common.specs.Case.{AllAsWanted}
use Rattle.common.specs.Decimal.{decimal, decimal_up_to}
use Rattle.voter.specs.Voting.{fresh_with, value_of}
use Rattle.voter.specs.Numbers.{number_of}
use Rattle.controller.specs.Start.{off_long, fresh_orders, fresh_core, fresh_voters, fresh_of}
use Rattle.names.specs.Words.{sensor_names, voter_words, cause_words}
use Rattle.plain.specs.Plain.{line, in_samples, of_odd, of_count, of_held, of_sensor, in_ms, of_order, of_cause, sensor_lines, order_lines, place_lines, rest_lines, plain_of}
use Rattle.plain.specs.Cases.{lines_of, fresh_lines, fresh_start, sensor_cases}

pub as_wanted : AllAsWanted sensor_cases
unfolding decimal decimal_up_to fresh_with value_of number_of off_long fresh_orders fresh_core fresh_voters fresh_of
    sensor_names voter_words cause_words
    line in_samples of_odd of_count of_held of_sensor in_ms of_order of_cause sensor_lines order_lines place_lines rest_lines plain_of lines_of fresh_lines fresh_start sensor_cases
as_wanted = refl
