-- Requests K4 and K7: the pieces of the page that are the same at every place of ground, handle, doors and gears, and at every heading.
-- Assumes nothing.
use Rattle.std.specs.Prelude.{ℕ, List, [], ◌∷◌, ◌++◌}
use Rattle.common.specs.Ascii.{ascii, lf}

-- A line of the file.
abbrev pub line : List ℕ → List ℕ
line text = text ++ lf ∷ []

-- The beginning of a place's frame.
abbrev pub group_piece : List ℕ
group_piece = ascii "<g class='"

-- A place that a reached state can be at.
abbrev pub possible_piece : List ℕ
possible_piece = ascii "place"

-- A place that none is at.
abbrev pub never_piece : List ℕ
never_piece = ascii "never"

-- Where its corner is.
abbrev pub moved_piece : List ℕ
moved_piece = ascii "' transform='translate("

-- Between the two numbers of a corner.
abbrev pub space_piece : List ℕ
space_piece = ascii " "

-- The end of the frame, and its rectangle.
abbrev pub rect_piece : List ℕ
rect_piece = line (ascii ")'>") ++ line (ascii "<rect width='590' height='318'/>")

-- The beginning of the line of its entries' numbers.
abbrev pub numbers_piece : List ℕ
numbers_piece = ascii "<text class='numbers' x='570' y='50'>"

-- Between the first number and the last.
abbrev pub to_piece : List ℕ
to_piece = ascii " to "

-- The end of a line of text.
abbrev pub end_of_text_piece : List ℕ
end_of_text_piece = line (ascii "</text>")

-- The beginning of a line that says when something comes next.
abbrev pub when_piece : List ℕ
when_piece = ascii "<text class='when' x='28' y='56'>"

-- Where no fact makes a difference.
abbrev pub always_piece : List ℕ
always_piece = ascii "always"

-- Where all doors seen open does.
abbrev pub if_open_piece : List ℕ
if_open_piece = ascii "if all open"

-- All doors seen closed.
abbrev pub if_closed_piece : List ℕ
if_closed_piece = ascii "if all closed"

-- All gears seen extended.
abbrev pub if_extended_piece : List ℕ
if_extended_piece = ascii "if all extended"

-- All gears seen retracted.
abbrev pub if_retracted_piece : List ℕ
if_retracted_piece = ascii "if all retracted"

-- The beginning of a line of what comes next.
abbrev pub part_piece : List ℕ
part_piece = ascii "<text class='"

-- What stays.
abbrev pub keeps_piece : List ℕ
keeps_piece = ascii "keeps"

-- What changes.
abbrev pub moves_piece : List ℕ
moves_piece = ascii "moves"

-- The line of the doors.
abbrev pub doors_piece : List ℕ
doors_piece = ascii "' x='28' y='116'>doors "

-- The line of the gears.
abbrev pub gears_piece : List ℕ
gears_piece = ascii "' x='28' y='174'>gears "

-- That the place stays.
abbrev pub stays_piece : List ℕ
stays_piece = line (ascii "<text x='28' y='116'>stays</text>")

-- The beginning of what comes next where the fact that makes a difference is not seen.
abbrev pub otherwise_piece : List ℕ
otherwise_piece = line (ascii "<g transform='translate(0 176)'>") ++ line (ascii "<text class='when' x='28' y='56'>else</text>")

-- The end of a frame.
abbrev pub end_of_group_piece : List ℕ
end_of_group_piece = line (ascii "</g>")

-- ---- Headings

-- The class of a handle's heading.
abbrev pub handle_class : List ℕ
handle_class = ascii "handle"

-- Of what it aims at.
abbrev pub aim_class : List ℕ
aim_class = ascii "aim"

-- Of the words over a column and before a row.
abbrev pub head_class : List ℕ
head_class = ascii "head"

-- Of what the words before a row are of.
abbrev pub kind_class : List ℕ
kind_class = ascii "kind"

-- Before how far across the page a heading stands.
abbrev pub across_piece : List ℕ
across_piece = ascii "' x='"

-- Before how far down.
abbrev pub down_piece : List ℕ
down_piece = ascii "' y='"

-- Before its words.
abbrev pub words_piece : List ℕ
words_piece = ascii "'>"

-- Before the handle's word.
abbrev pub handle_piece : List ℕ
handle_piece = ascii "Handle "

-- Before the word of what it aims at.
abbrev pub aims_piece : List ℕ
aims_piece = ascii "aims at "

-- Before the word of a column's gears.
abbrev pub column_piece : List ℕ
column_piece = ascii "gears "

-- What the word before a row is of.
abbrev pub row_piece : List ℕ
row_piece = line (ascii "doors</text>")

-- Behind the handle's word, on ground.
abbrev pub on_ground_piece : List ℕ
on_ground_piece = ascii ", on ground"

-- Before the word of the gears that the sequence takes to be at the aim.
abbrev pub acts_piece : List ℕ
acts_piece = ascii "acts as if gears "

-- Behind it.
abbrev pub at_aim_piece : List ℕ
at_aim_piece = ascii " were at the aim"

-- Before the word of a column's doors, on ground.
abbrev pub ground_column_piece : List ℕ
ground_column_piece = ascii "doors "

-- What the word before a row is of, on ground.
abbrev pub ground_row_piece : List ℕ
ground_row_piece = line (ascii "gears</text>")

-- ---- The table's number

-- The beginning of its line.
abbrev pub table_piece : List ℕ
table_piece = ascii "<text class='table' x='2840' y='4151'>table number "
