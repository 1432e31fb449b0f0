-- Requests K4 and K7: the table as CSV by RFC 4180: a header, and a row for each of the 1,024 entries, with words and numbers.
-- Assumes nothing.
use Rattle.std.specs.Prelude.{ℕ, ◌+◌, Bool}
use mathlib.Core.List.{List, [], ◌∷◌, ◌++◌, flatten}
use Rattle.common.specs.Ascii.{ascii, comma, crlf, joined_by_commas}
use Rattle.common.specs.Bits.{bit}
use Rattle.common.specs.Decimal.{decimal, digit0}
use Rattle.common.specs.Lists.{given_from}
use Rattle.names.specs.Words.{handle_word, doors_word, gears_word}
use Rattle.table.specs.declared.Asked.{Asked}
use Rattle.sequence.specs.declared.Place.{Place}
use Rattle.sequence.specs.declared.Seen.{Seen}
use Rattle.sequence.specs.Numbers.{doors_number, gears_number}
use Rattle.table.specs.Table.{entries, asked_at, next_of}
use Rattle.sequence.specs.Numbers.{handle_number}
use Rattle.sequence.specs.Places.{moving_have_open}

-- ---- Fields

-- A word and its number.
abbrev pub numbered : List ℕ → ℕ → List (List ℕ)
numbered word n = word ∷ decimal n ∷ []

-- Doors and gears.
abbrev pub place_fields : Place → List (List ℕ)
place_fields p = numbered (doors_word p.doors) (doors_number p.doors) ++ numbered (gears_word p.gears) (gears_number p.gears)

-- A fact: 1 for seen, 0 for not; so the ground.
abbrev pub fact_field : Bool → List ℕ
fact_field fact = (digit0 + bit fact) ∷ []

-- The four facts.
abbrev pub fact_fields : Seen → List (List ℕ)
fact_fields seen =
    fact_field seen.opened ∷ fact_field seen.closed ∷ fact_field seen.extended ∷ fact_field seen.retracted ∷ []

-- What is asked: ground, handle, doors, gears, and the facts.
abbrev pub asked_fields : Asked → List (List ℕ)
asked_fields a = fact_field a.grounded ∷ numbered (handle_word a.aim) (handle_number a.aim) ++ place_fields a.place ++ fact_fields a.seen

-- The entry's number; what is asked; what comes next; and 1 if a reached state can ask it.
abbrev pub row_fields : ℕ → Asked → List (List ℕ)
row_fields n a = decimal n ∷ (asked_fields a ++ place_fields (next_of a) ++ fact_field (moving_have_open a.place) ∷ [])

-- ---- The text

-- The names of the fields.
unfoldable pub csv_header : List ℕ
csv_header =
    joined_by_commas
    (ascii "entry" ∷ ascii "on_ground" ∷
    ascii "handle" ∷ ascii "handle_number" ∷
    ascii "doors" ∷ ascii "doors_number" ∷ ascii "gears" ∷ ascii "gears_number" ∷
    ascii "all_open" ∷ ascii "all_closed" ∷ ascii "all_extended" ∷ ascii "all_retracted" ∷
    ascii "next_doors" ∷ ascii "next_doors_number" ∷ ascii "next_gears" ∷ ascii "next_gears_number" ∷
    ascii "possible" ∷
    [])
    ++ crlf

-- The row of an entry.
unfoldable pub csv_row : ℕ → List ℕ
csv_row n = joined_by_commas (row_fields n (asked_at n)) ++ crlf

-- The header, and a row for each entry.
unfoldable pub csv_text : List ℕ
csv_text = csv_header ++ flatten (given_from csv_row 0 entries)

-- ---- Pieces

-- Fields behind others, each with the comma before it.
abbrev pub behind : List (List ℕ) → List ℕ
behind fields = comma ∷ joined_by_commas fields
