-- Requests K4 and K7: where the places stand on the page, and their headings, each computed from what stands at a place: the handle above
-- its sixteen places, the gears above a column, the doors before a row; and on ground the doors above a column, the gears before a row.
-- Assumes nothing.
use Rattle.std.specs.Prelude.{ℕ, ◌+◌, ◌-◌, ◌*◌, ◌/◌, ◌%◌, List, ◌++◌, map}
use Rattle.common.specs.Decimal.{decimal}
use Rattle.sequence.specs.declared.Aim.{Aim}
use Rattle.sequence.specs.declared.Aim.TheVariants.{ToRetracted, ToExtended}
use Rattle.sequence.specs.declared.Gears.{Gears}
use Rattle.sequence.specs.declared.Gears.TheVariants.{Retracted, Extended}
use Rattle.names.specs.Words.{doors_word, gears_word, handle_word}
use Rattle.chart.specs.Differences.{aim_at, place_of}
use Rattle.chart.specs.Parts.{
  part_piece,
  end_of_text_piece,
  handle_class,
  aim_class,
  head_class,
  kind_class,
  across_piece,
  down_piece,
  words_piece,
  handle_piece,
  aims_piece,
  column_piece,
  row_piece,
  on_ground_piece,
  acts_piece,
  at_aim_piece,
  ground_column_piece,
  ground_row_piece,
}

-- ---- Where place k stands, in tenths of a millimetre

-- The gears' columns.
abbrev pub left : ℕ → ℕ
left k = 420 + 610 * (k % 4)

-- The doors' rows, handle up above handle down.
abbrev pub top : ℕ → ℕ
top k = 525 + 335 * (k / 4 % 4) + 1538 * (k / 16)

-- On ground the doors' columns, in one row.
abbrev pub ground_left : ℕ → ℕ
ground_left k = 420 + 610 * (k / 4 % 4)

abbrev pub ground_top : ℕ
ground_top = 3601

-- ---- Words

-- A word of small letters in capitals, which stand 32 before them.
abbrev pub capitals : List ℕ → List ℕ
capitals word = map (λ (letter : ℕ). letter - 32) word

-- The gears that are at an aim.
abbrev pub aimed : Aim → Gears
aimed ToRetracted = Retracted
aimed ToExtended = Extended

-- ---- Headings

-- The beginning: its class, and where it stands.
unfoldable pub heading_begin : List ℕ → ℕ → ℕ → List ℕ
heading_begin class across down = part_piece ++ class ++ across_piece ++ decimal across ++ down_piece ++ decimal down ++ words_piece

-- The handle of place k, above it.
unfoldable pub handle_text : ℕ → List ℕ
handle_text k = heading_begin handle_class 120 (top k - 125) ++ handle_piece ++ capitals (handle_word (aim_at k)) ++ end_of_text_piece

-- What it aims at, beside it.
unfoldable pub aim_text : ℕ → List ℕ
aim_text k = heading_begin aim_class 760 (top k - 125) ++ aims_piece ++ gears_word (aimed (aim_at k)) ++ end_of_text_piece

-- The gears of place k, above it.
unfoldable pub column_text : ℕ → List ℕ
column_text k = heading_begin head_class (left k + 28) (top k - 30) ++ column_piece ++ gears_word (place_of k).gears ++ end_of_text_piece

-- The doors of place k, before its row.
unfoldable pub row_text : ℕ → List ℕ
row_text k =
    heading_begin kind_class 120 (top k + 135) ++ row_piece ++
    heading_begin head_class 120 (top k + 200) ++ doors_word (place_of k).doors ++ end_of_text_piece

-- Those of the sixteen places from k on, which have one handle: four columns, and four rows.
unfoldable pub headings_text : ℕ → List ℕ
headings_text k =
    handle_text k ++ aim_text k ++
    column_text k ++ column_text (k + 1) ++ column_text (k + 2) ++ column_text (k + 3) ++
    row_text k ++ row_text (k + 4) ++ row_text (k + 8) ++ row_text (k + 12)

-- ---- Headings of the ground

-- They stand at the places from this one on that differ in the doors: handle up, doors CLOSED, gears EXTENDED.
abbrev pub first_shown : ℕ
first_shown = 34

-- The handle of place k, above it.
unfoldable pub ground_handle_text : ℕ → List ℕ
ground_handle_text k = heading_begin handle_class 120 (ground_top - 125) ++ handle_piece ++ capitals (handle_word (aim_at k)) ++ on_ground_piece ++ end_of_text_piece

-- What the sequence does with its gears there, beside it.
unfoldable pub acts_text : ℕ → List ℕ
acts_text k = heading_begin aim_class 1150 (ground_top - 125) ++ acts_piece ++ gears_word (place_of k).gears ++ at_aim_piece ++ end_of_text_piece

-- The doors of place k, above it.
unfoldable pub ground_column_text : ℕ → List ℕ
ground_column_text k = heading_begin head_class (ground_left k + 28) (ground_top - 30) ++ ground_column_piece ++ doors_word (place_of k).doors ++ end_of_text_piece

-- The gears of place k, before its row.
unfoldable pub ground_row_text : ℕ → List ℕ
ground_row_text k =
    heading_begin kind_class 92 (ground_top + 135) ++ ground_row_piece ++
    heading_begin head_class 92 (ground_top + 200) ++ gears_word (place_of k).gears ++ end_of_text_piece

-- Those of the four places from k on that differ in the doors: handle, four columns, and a row.
unfoldable pub ground_headings_text : ℕ → List ℕ
ground_headings_text k =
    ground_handle_text k ++ acts_text k ++
    ground_column_text k ++ ground_column_text (k + 4) ++ ground_column_text (k + 8) ++ ground_column_text (k + 12) ++
    ground_row_text k
