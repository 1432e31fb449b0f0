-- Worked examples of the rules: a row in form, and each edge of the form. Each is computed.
-- Assumes nothing.
use mathlib.Core.Path.{◌≡◌, refl}
use mathlib.Core.List.{List, [], ◌∷◌, ◌++◌, map}
use Prim.Native.Nat.{ℕ}
use lib.ListN.{replicate}
use Rattle.std.specs.Prelude.{Some, None}
use Rattle.common.specs.Answers.{gives, refuses}
use Rattle.common.specs.Ascii.{ascii, joined_by_commas}
use Rattle.common.specs.Decimal.{decimal_up_to, decimal}
use Rattle.trace.specs.Numbers.{digits_from, number_of, triple_of}
use Rattle.trace.specs.Rows.{up_to_comma, field_part, fields_of, triples_of, form_of, in_turn, read_row}
use Rattle.trace.specs.Written.{triple_texts, row_text}
use Rattle.names.specs.Words.{sensor_names}
use Rattle.trace.specs.Header.{header_names, header_text}

-- A row in form.
abbrev row0 : List ℕ
row0 = ascii "0,1000,111,000,111,111,111,000,000,000,000,000,000,111,111,111,000,000,000,000"

abbrev on : List ℕ
on = 1 ∷ 1 ∷ 1 ∷ []

abbrev off : List ℕ
off = 0 ∷ 0 ∷ 0 ∷ []

-- What it shows of the eighteen sensors.
abbrev sample0 : List ℕ
sample0 =
    on ++ off ++ on ++ on ++ on ++ off ++ off ++ off ++ off ++ off ++ off ++ on ++ on ++ on ++ off ++ off ++ off ++ off

-- A buffer as the caller lends it.
abbrev lent : List ℕ
lent = replicate 54 9

row_is_read : read_row row0 (Some 0) lent ≡ (gives (0, 1000), sample0)
unfolding fields_of triples_of form_of in_turn read_row digits_from number_of triple_of
row_is_read = refl

row_is_written : row_text 0 1000 sample0 ≡ row0
unfolding row_text triple_texts decimal decimal_up_to joined_by_commas
row_is_written = refl

-- Label and stamp: "0 to 4,294,967,295, no sign, no leading zero; 0 is `0`".
numbers :
    map number_of
    (ascii "0" ∷ ascii "7" ∷ ascii "4294967295" ∷ ascii "4294967296" ∷ ascii "18446744073709551616" ∷ ascii "00" ∷ ascii "07" ∷
    [] ∷ ascii "+1" ∷ ascii "-1" ∷ ascii "1 " ∷ ascii "1a" ∷ [])
    ≡ gives 0 ∷ gives 7 ∷ gives 4294967295 ∷ refuses 5 ∷ refuses 5 ∷ refuses 5 ∷ refuses 5 ∷
    refuses 5 ∷ refuses 5 ∷ refuses 5 ∷ refuses 5 ∷ refuses 5 ∷ []
unfolding number_of digits_from
numbers = refl

-- A sensor: "three digits 0 or 1".
triples :
    map triple_of (ascii "101" ∷ ascii "000" ∷ ascii "112" ∷ ascii "11" ∷ ascii "1111" ∷ [] ∷ [])
    ≡ gives (1 ∷ 0 ∷ 1 ∷ []) ∷ gives (0 ∷ 0 ∷ 0 ∷ []) ∷ refuses 5 ∷ refuses 5 ∷ refuses 5 ∷ refuses 5 ∷ []
unfolding triple_of
triples = refl

-- Rows that are refused, by their form or for their label, beside one that is taken.
abbrev six : List ℕ
six = ascii ",000,000,000,000,000,000"

abbrev head : List ℕ → List ℕ
head h = h ++ six ++ six ++ six

refused_rows :
    map (λ (row : List ℕ). read_row row (Some 0) lent)
    ([] ∷ head (ascii "0,5") ∷ (ascii "0,5" ++ six ++ six) ∷ (head (ascii "0,5") ++ ascii ",000") ∷ (head (ascii "0,5") ++ ascii ",") ∷
    head (ascii "00,5") ∷ head (ascii "4294967296,5") ∷ head (ascii "1,+5") ∷ head (ascii "1,5") ∷ [])
    ≡ (refuses 5, lent) ∷ (gives (0, 5), replicate 54 0) ∷ (refuses 5, lent) ∷ (refuses 5, lent) ∷ (refuses 5, lent) ∷
    (refuses 5, lent) ∷ (refuses 5, lent) ∷ (refuses 5, lent) ∷ (refuses 7, lent) ∷ []
unfolding fields_of triples_of form_of in_turn read_row digits_from number_of triple_of
refused_rows = refl

-- In the order 8, 6, 5, 7: a row of 513 bytes and one of 512, a buffer of 53 and one of 55, and no label that is due.
in_order :
    read_row (replicate 513 49) (Some 0) lent ∷ read_row (replicate 512 49) (Some 0) lent ∷
    read_row (replicate 513 49) (Some 0) (replicate 53 9) ∷ read_row row0 (Some 0) (replicate 55 9) ∷ read_row row0 None lent ∷ []
    ≡ (refuses 6, lent) ∷ (refuses 5, lent) ∷ (refuses 8, replicate 53 9) ∷ (refuses 8, replicate 55 9) ∷ (refuses 7, lent) ∷ []
unfolding fields_of triples_of form_of in_turn read_row digits_from number_of triple_of
in_order = refl

-- A part of a row that lies at block 3, offset 100: the second field of row 0, and one past the end.
a_part_of_the_row :
    field_part (3, 100) row0 2 ∷ field_part (3, 100) row0 7 ∷ field_part (3, 100) row0 500 ∷ []
    ≡ ((3, 102), ascii "1000") ∷ ((3, 107), ascii "111") ∷ ((3, 178), []) ∷ []
unfolding up_to_comma
a_part_of_the_row = refl

-- The header's twenty names.
header_row :
    header_text
    ≡ ascii "step,stamp,handle,analogical_switch,gear_extended_front,gear_extended_left,gear_extended_right,gear_retracted_front,gear_retracted_left,gear_retracted_right,gear_shock_absorber_front,gear_shock_absorber_left,gear_shock_absorber_right,door_closed_front,door_closed_left,door_closed_right,door_open_front,door_open_left,door_open_right,circuit_pressurized"
unfolding header_text header_names sensor_names joined_by_commas
header_row = refl
