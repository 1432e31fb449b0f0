-- `table::all_entries` meets its contract: the constant is the table of the rule, by one test that computes all 1,024 entries.
-- Assumes nothing.
use mathlib.Core.Path.{refl}
use Rattle.common.specs.Lists.{given_from}
use Rattle.sequence.specs.Moves.{at_aim, next_gears, doors_to_gears, doors_home, move_of, aim_in_force}
use Rattle.sequence.specs.Numbers.{doors_at, gears_at}
use Rattle.table.specs.Table.{facts_at, asked_at, next_of, place_number, ruled_at, row_at, table}
use Rattle.table.proofs.all_entries.Goals as goal

pub returns : goal.returns
unfolding at_aim next_gears doors_to_gears doors_home move_of aim_in_force doors_at gears_at
    given_from facts_at asked_at next_of place_number ruled_at row_at table
returns c = refl
