-- What a computed run opens: `unfolding rules` opens every rule of a step. Only worked cases and computed runs do so.
-- Assumes nothing.
use Rattle.common.specs.Lists.{some, each_from}
use Rattle.voter.specs.Voting.{odd_of, majority_of, by_odd, of_three, of_two, voted_by, voted, fresh_with, value_of, is_invalid}
use Rattle.voter.specs.Numbers.{channels_at}
use Rattle.sequence.specs.Moves.{at_aim, next_gears, doors_to_gears, doors_home, move_of, aim_in_force}
use Rattle.orders.specs.Timing.{grown_age, grown, all_grown, on_for, off_for, switched, wanted_of, directed, off_together, general_of, orders_of}
use Rattle.monitors.specs.Causes.{causes, cause_of}
use Rattle.controller.specs.Votes.{all_voted, sensor, three_from, some_invalid, sight_of, seen_of, aimed, on_ground}
use Rattle.controller.specs.Start.{off_long, fresh_orders, fresh_core, fresh_voters, fresh_of}
use Rattle.controller.specs.Stages.{
  anomaly,
  core_ages,
  core_handle,
  core_monitors,
  core_sequence,
  core_orders,
  core_step,
  elapsed_of,
  ages_stage,
  turned,
  vote_stage,
  monitors_stage,
  sequence_stage,
  orders_stage,
  accepted,
}
use Rattle.controller.specs.Steps.{some_over_one, refusal_at, step_at}
use Rattle.controller.specs.Lamps.{green_of, neither_at, orange_of, lights_of, shown_of}
use Rattle.controller.specs.Samples.{agreeing, rest, sees, answers, line_of}

unfoldable pub rules : Unit {0}
unfolding
    channels_at odd_of majority_of by_odd of_three of_two voted_by voted fresh_with value_of is_invalid
    at_aim next_gears doors_to_gears doors_home move_of aim_in_force
    grown_age grown all_grown on_for off_for switched wanted_of directed off_together general_of orders_of
    causes cause_of
    all_voted sensor three_from some_invalid sight_of seen_of aimed on_ground
    off_long fresh_orders fresh_core fresh_voters fresh_of
    anomaly core_ages core_handle core_monitors core_sequence core_orders core_step
    elapsed_of ages_stage turned vote_stage monitors_stage sequence_stage orders_stage accepted
    some_over_one refusal_at step_at green_of neither_at orange_of lights_of shown_of
    agreeing rest sees answers line_of some each_from
rules = tt
