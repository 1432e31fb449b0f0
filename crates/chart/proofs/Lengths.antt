-- How long the two texts are. By computing them.
-- Assumes nothing.
use mathlib.Core.List.{flatten}
use mathlib.Core.Path.{◌≡◌, refl}
use lib.ListN.{length}
use Rattle.common.specs.Ascii.{joined_by_commas}
use Rattle.common.specs.Decimal.{decimal, decimal_up_to}
use Rattle.common.specs.Lists.{given_from}
use Rattle.sequence.specs.Moves.{at_aim, next_gears, doors_to_gears, doors_home, move_of, aim_in_force}
use Rattle.sequence.specs.Numbers.{doors_at, gears_at}
use Rattle.table.specs.Table.{facts_at, asked_at, next_of, place_number, ruled_at, changed_by_ground}
use Rattle.sequence.specs.Places.{moving_have_open}
use Rattle.chart.specs.Csv.{csv_header, csv_row, csv_text}
use Rattle.chart.specs.Differences.{kept_of, decides, decisive, some_changed, differs}
use Rattle.chart.specs.Page.{
  frame_text,
  numbers_text,
  when_text,
  part_begin,
  parts_text,
  next_text,
  else_text,
  place_text,
  air_text,
  ground_text,
  air_part,
  ground_part,
  lines,
  head_lines,
  tail_lines,
  table_text,
  page_text,
}
use Rattle.chart.specs.Headings.{
  heading_begin,
  handle_text,
  aim_text,
  column_text,
  row_text,
  headings_text,
  ground_handle_text,
  acts_text,
  ground_column_text,
  ground_row_text,
  ground_headings_text,
}
use Rattle.table.proofs.Weights.{table_number_lem}

pub csv_length : length csv_text ≡ 66776
unfolding given_from flatten joined_by_commas decimal decimal_up_to
    at_aim next_gears doors_to_gears doors_home move_of aim_in_force doors_at gears_at facts_at asked_at next_of moving_have_open
    csv_header csv_row csv_text
csv_length = refl

pub page_length : length page_text ≡ 16017
unfolding given_from flatten decimal decimal_up_to
    at_aim next_gears doors_to_gears doors_home move_of aim_in_force doors_at gears_at facts_at asked_at moving_have_open
    next_of place_number ruled_at changed_by_ground kept_of decides decisive some_changed differs
    frame_text numbers_text when_text part_begin parts_text next_text else_text place_text air_text ground_text lines head_lines tail_lines
    heading_begin handle_text aim_text column_text row_text headings_text ground_handle_text acts_text ground_column_text ground_row_text ground_headings_text
    air_part ground_part table_text page_text
page_length = rw table_number_lem
