-- The header and rows of the table as CSV come out as they must be: the rule computes.
-- Assumes nothing.
use mathlib.Core.Path.{refl}
use Rattle.common.specs.Ascii.{joined_by_commas}
use Rattle.common.specs.Case.{AllAsWanted}
use Rattle.common.specs.Decimal.{decimal, decimal_up_to}
use Rattle.sequence.specs.Moves.{at_aim, next_gears, doors_to_gears, doors_home, move_of, aim_in_force}
use Rattle.sequence.specs.Numbers.{doors_at, gears_at}
use Rattle.table.specs.Table.{facts_at, asked_at, next_of}
use Rattle.sequence.specs.Places.{moving_have_open}
use Rattle.chart.specs.Cases.{table_lines}
use Rattle.chart.specs.Csv.{csv_header, csv_row}

pub table_lines_lem : AllAsWanted table_lines
unfolding table_lines csv_header csv_row joined_by_commas decimal decimal_up_to
    asked_at facts_at doors_at gears_at next_of aim_in_force move_of at_aim next_gears doors_to_gears doors_home moving_have_open
table_lines_lem = refl
