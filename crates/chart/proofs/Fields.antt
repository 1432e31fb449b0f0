-- The fields of a row are the pieces that the code puts one after the other.
-- Assumes nothing.
use Prim.Native.Nat.{ℕ}
use mathlib.Core.Bool.{Bool}
use mathlib.Core.List.{List, ◌∷◌, ◌++◌, append_assoc}
use mathlib.Core.Path.{◌≡◌}
use Rattle.common.specs.Ascii.{comma, crlf, joined_by_commas}
use Rattle.common.specs.Decimal.{decimal}
use Rattle.names.specs.Words.{handle_word, doors_word, gears_word}
use Rattle.table.specs.declared.Asked.{Asked}
use Rattle.sequence.specs.declared.Place.{Place}
use Rattle.table.specs.Table.{asked_at, next_of}
use Rattle.sequence.specs.Numbers.{handle_number, doors_number, gears_number}
use Rattle.sequence.specs.Places.{moving_have_open}
use Rattle.chart.specs.Csv.{numbered, place_fields, fact_field, asked_fields, behind, csv_row}

-- Doors and gears.
pub place_text : (p : Place) → behind (numbered (doors_word p.doors) (doors_number p.doors)) ++ behind (numbered (gears_word p.gears) (gears_number p.gears)) ≡ behind (place_fields p)
unfolding joined_by_commas
place_text p = simp append_assoc

-- A fact, with the comma before it.
abbrev pub fact : Bool → List ℕ
fact seen = comma ∷ fact_field seen

-- What is asked: ground, handle, doors and gears, facts.
pub asked_text : (a : Asked)
    → fact a.grounded ++ (behind (numbered (handle_word a.aim) (handle_number a.aim)) ++ (behind (place_fields a.place)
    ++ (fact a.seen.opened ++ (fact a.seen.closed ++ (fact a.seen.extended ++ fact a.seen.retracted)))))
    ≡ behind (asked_fields a)
unfolding joined_by_commas
asked_text a = simp append_assoc

-- A row: its number, what is asked, what comes next, whether it is possible, and its end.
pub row_text_lem : (n : ℕ) (a : Asked) (next : Place) (possible : Bool) → a ≡ asked_at n → next ≡ next_of a → possible ≡ moving_have_open a.place
    → decimal n ++ behind (asked_fields a) ++ behind (place_fields next) ++ fact possible ++ crlf ≡ csv_row n
unfolding csv_row joined_by_commas
row_text_lem n a next possible e f g = rw (g, f, e) (simp append_assoc)
