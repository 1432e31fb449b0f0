-- Requests K4 and K7: the definitions give the headings, and the lines at places, that are wanted, byte for byte. By computing them.
-- Assumes nothing.
use mathlib.Core.List.{[], ◌∷◌}
use mathlib.Core.Path.{refl}
use Rattle.common.specs.Case.{AllAsWanted}
use Rattle.common.specs.Decimal.{decimal, decimal_up_to}
use Rattle.sequence.specs.Moves.{at_aim, next_gears, doors_to_gears, doors_home, move_of, aim_in_force}
use Rattle.sequence.specs.Numbers.{doors_at, gears_at}
use Rattle.table.specs.Table.{facts_at, asked_at, next_of, place_number, ruled_at, changed_by_ground}
use Rattle.sequence.specs.Places.{moving_have_open}
use Rattle.chart.specs.Differences.{kept_of, decides, decisive, some_changed, differs}
use Rattle.chart.specs.Page.{
  frame_text,
  numbers_text,
  when_text,
  part_begin,
  parts_text,
  next_text,
  else_text,
  place_text,
  air_text,
  ground_text,
  lines,
}
use Rattle.chart.specs.Headings.{
  heading_begin,
  handle_text,
  aim_text,
  column_text,
  row_text,
  headings_text,
  ground_handle_text,
  acts_text,
  ground_column_text,
  ground_row_text,
  ground_headings_text,
}
use Rattle.chart.specs.PageCases.{
  opening_lines,
  opening_place,
  grey_lines,
  grey_place,
  ground_lines,
  ground_place,
  hidden_place,
  up_lines,
  up_headings,
  down_lines,
  down_headings,
  on_ground_lines,
  on_ground_headings,
}

pub places_as_wanted : AllAsWanted (opening_place ∷ grey_place ∷ ground_place ∷ hidden_place ∷ [])
unfolding decimal decimal_up_to at_aim next_gears doors_to_gears doors_home move_of aim_in_force doors_at gears_at facts_at asked_at moving_have_open
    next_of place_number ruled_at changed_by_ground kept_of decides decisive some_changed differs
    frame_text numbers_text when_text part_begin parts_text next_text else_text place_text air_text ground_text lines
    opening_lines opening_place grey_lines grey_place ground_lines ground_place hidden_place
places_as_wanted = refl

pub headings_as_wanted : AllAsWanted (up_headings ∷ down_headings ∷ on_ground_headings ∷ [])
unfolding decimal decimal_up_to doors_at gears_at facts_at asked_at
    heading_begin handle_text aim_text column_text row_text headings_text lines up_lines up_headings down_lines down_headings
    ground_handle_text acts_text ground_column_text ground_row_text ground_headings_text on_ground_lines on_ground_headings
headings_as_wanted = refl
