-- Requests K4 and K7: the table as a page to print (SVG, A3 upright): the 32 places of handle, doors and gears in the air, what comes next
-- at each, and the places that are others on ground. Facts that make no difference are left out, and places that no reached state is at are
-- grey.
-- Assumes nothing.
use Rattle.std.specs.Prelude.{ℕ, ◌+◌, ◌*◌, Bool, cond, None, Some}
use Prim.Native.String.{String}
use mathlib.Core.List.{List, [], ◌∷◌, ◌++◌, flatten}
use Rattle.common.specs.Ascii.{ascii}
use Rattle.common.specs.Decimal.{decimal}
use Rattle.common.specs.Lists.{given_from}
use Rattle.table.specs.declared.Asked.{Asked}
use Rattle.sequence.specs.declared.Place.{Place}
use Rattle.sequence.specs.Places.{moving_have_open}
use Rattle.names.specs.Words.{doors_word, gears_word}
use Rattle.table.specs.Sums.{table_number}
use Rattle.chart.specs.declared.differences.Fact.TheVariants.{AllOpen, AllClosed, AllExtended, AllRetracted}
use Rattle.chart.specs.Differences.{places_in_the_air, stand_at, Kept, Deciding, kept_of, stays, next_with, is_named, decisive, differs}
use Rattle.chart.specs.Headings.{left, top, headings_text, ground_left, ground_top, first_shown, ground_headings_text}
use Rattle.chart.specs.Parts.{
  line,
  group_piece,
  possible_piece,
  never_piece,
  moved_piece,
  space_piece,
  rect_piece,
  numbers_piece,
  to_piece,
  end_of_text_piece,
  when_piece,
  always_piece,
  if_open_piece,
  if_closed_piece,
  if_extended_piece,
  if_retracted_piece,
  part_piece,
  keeps_piece,
  moves_piece,
  doors_piece,
  gears_piece,
  stays_piece,
  otherwise_piece,
  end_of_group_piece,
  table_piece,
}

-- ---- A place

-- Its frame, so far across and so far down, grey where no reached state is there.
unfoldable pub frame_text : ℕ → ℕ → Bool → List ℕ
frame_text across down possible =
    group_piece ++ cond possible possible_piece never_piece ++ moved_piece ++ decimal across ++ space_piece ++ decimal down ++ rect_piece

-- The numbers of its entries.
unfoldable pub numbers_text : ℕ → List ℕ
numbers_text k = numbers_piece ++ decimal (16 * k) ++ to_piece ++ decimal (16 * k + 15) ++ end_of_text_piece

-- When something comes next.
abbrev pub when_word : Deciding → List ℕ
when_word None = always_piece
when_word (Some AllOpen) = if_open_piece
when_word (Some AllClosed) = if_closed_piece
when_word (Some AllExtended) = if_extended_piece
when_word (Some AllRetracted) = if_retracted_piece

-- Its line.
unfoldable pub when_text : Deciding → List ℕ
when_text fact = when_piece ++ when_word fact ++ end_of_text_piece

-- The beginning of a line of doors or gears: bold and blue what changes.
unfoldable pub part_begin : Bool → List ℕ → List ℕ
part_begin same name = part_piece ++ cond same keeps_piece moves_piece ++ name

-- The doors and the gears that come next.
unfoldable pub parts_text : Kept → Place → List ℕ
parts_text kept to =
    part_begin kept.doors doors_piece ++ doors_word to.doors ++ end_of_text_piece ++
    part_begin kept.gears gears_piece ++ gears_word to.gears ++ end_of_text_piece

-- What comes next, or that the place stays.
unfoldable pub next_text : Place → Place → List ℕ
next_text from to = let kept = kept_of from to in cond (stays kept) stays_piece (parts_text kept to)

-- What comes next where the fact that makes a difference is not seen.
unfoldable pub else_text : Asked → List ℕ
else_text a = otherwise_piece ++ next_text a.place (next_with a None) ++ end_of_group_piece

-- A place with its frame and its numbers: what comes next where the fact that makes a difference is seen, and where it is not.
unfoldable pub place_text : ℕ → ℕ → ℕ → List ℕ
place_text k across down =
    let a = stand_at k in
    let fact = decisive a in
    frame_text across down (moving_have_open a.place) ++ numbers_text k ++ when_text fact ++ next_text a.place (next_with a fact) ++
    cond (is_named fact) (else_text a) [] ++ end_of_group_piece

-- Place k in the air.
unfoldable pub air_text : ℕ → List ℕ
air_text k = place_text k (left k) (top k)

-- The same place on ground: it is shown exactly if it differs.
unfoldable pub ground_text : ℕ → List ℕ
ground_text k = cond (differs (places_in_the_air + k)) (place_text (places_in_the_air + k) (ground_left k) ground_top) []

-- ---- The page

-- Lines, one after the other.
unfoldable pub lines : List String → List ℕ
lines [] = []
lines (text ∷ texts) = line (ascii text) ++ lines texts

-- The size, the styles and the title.
unfoldable pub head_lines : List String
head_lines =
    "<svg xmlns='http://www.w3.org/2000/svg' width='297mm' height='420mm' viewBox='0 0 2970 4200'>" ∷
    "<title>The landing gear sequence</title>" ∷
    "<style>" ∷
    "@page { size: 297mm 420mm; margin: 0 }" ∷
    "text { font-family: Helvetica, Arial, sans-serif; font-size: 50px; fill: #333 }" ∷
    "rect { fill: #fff; stroke: #333; stroke-width: 4; rx: 12px }" ∷
    ".title { font-size: 110px; font-weight: bold; fill: #000 }" ∷
    ".handle { font-size: 76px; font-weight: bold; fill: #000 }" ∷
    ".head { font-size: 50px; font-weight: bold; fill: #000 }" ∷
    ".kind { font-size: 42px }" ∷
    ".when { font-size: 42px; font-style: italic }" ∷
    ".moves { font-weight: bold; fill: #00429d }" ∷
    ".numbers { font-size: 36px; text-anchor: end; fill: #666 }" ∷
    ".never rect { fill: #ddd; stroke: #bbb }" ∷
    ".never text { fill: #6b6b6b }" ∷
    ".note { font-size: 42px }" ∷
    ".table { font-size: 36px; text-anchor: end; fill: #666 }" ∷
    "</style>" ∷
    "<rect width='2970' height='4200' style='stroke: none'/>" ∷
    "<text class='title' x='120' y='160'>The landing gear sequence</text>" ∷
    "<text x='120' y='235'>Find the handle, the row of the doors and the column of the gears: there stands what comes next.</text>" ∷
    "<text x='120' y='295'>On ground, with handle UP and gears EXTENDED, look at the bottom instead. Bold and blue: what changes.</text>" ∷
    []

-- What a reader has to know.
unfoldable pub tail_lines : List String
tail_lines =
    "<text class='note' x='120' y='3967'>Grey: gears move only while the doors are OPEN, so no run comes to these places.</text>" ∷
    "<text class='note' x='120' y='4013'>All open, all closed: all three doors are seen so. All extended, all retracted: all three gears are seen so.</text>" ∷
    "<text class='note' x='120' y='4059'>Each sample makes at most one move, with an anomaly none. What is not named at a place makes no difference there.</text>" ∷
    "<text class='note' x='120' y='4105'>On ground: any of the three absorbers is seen on ground. What is not shown again there is the same as above.</text>" ∷
    "<text class='note' x='120' y='4151'>Small numbers: entries of the table that runs, 16 a place, 1,024 in all. This page is written from it.</text>" ∷
    "</svg>" ∷
    []

-- The number of the table that runs, in small print: a sheet with another is not of this table.
unfoldable pub table_text : List ℕ
table_text = table_piece ++ decimal table_number ++ end_of_text_piece

-- The places in the air, under the headings of both handles; and those of the ground, under theirs.
unfoldable pub air_part : List ℕ
air_part = headings_text 0 ++ headings_text 16 ++ flatten (given_from air_text 0 places_in_the_air)

unfoldable pub ground_part : List ℕ
ground_part = ground_headings_text first_shown ++ flatten (given_from ground_text 0 places_in_the_air)

-- The head, the places in the air and on ground, the table's number, and the notes.
unfoldable pub page_text : List ℕ
page_text = lines head_lines ++ air_part ++ ground_part ++ table_text ++ lines tail_lines
