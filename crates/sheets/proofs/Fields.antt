-- The fields of a row of a sheet, one after the other: what each turn of a loop over the wires adds to the text.
-- Assumes nothing.
use Rattle.std.proofs.Common.{◌≡◌, ℕ, zero, suc, ◌+◌, ◌*◌, ◌^◌, ◌<◌, ◌≤◌, Bool, false, List, [], ◌∷◌, ◌++◌, map, length, get_or, take, sym, refl, ap, append-nil, le_of_suc-le-suc, not-suc-le-zero, add-one, arith, length-append}
use Rattle.common.specs.Ascii.{ascii, comma, crlf, joined_by_commas}
use Rattle.common.specs.Decimal.{decimal}
use Rattle.common.proofs.Decimals.{decimal_length}
use Rattle.names.specs.Words.{order_names, lamp_names, sensor_names}
use Rattle.names.proofs.Lengths.{order_names_length, lamp_names_length, sensor_names_length}
use Rattle.dump.specs.Wires.{wire_names, wires}
use Rattle.sheets.specs.Sheets.{other_names, sheet_header, row_room, value_field, sheet_row, later_fields}

-- Behind the first field, each field has the comma before it.
joined : (f : List ℕ) (vs : List Bool) → joined_by_commas (f ∷ map value_field vs) ≡ f ++ later_fields vs
unfolding joined_by_commas later_fields
joined f [] = sym (append-nil f)
joined f (v ∷ vs) = ap (λ (l : List ℕ). f ++ comma ∷ l) (joined (value_field v) vs)

-- A row is its time, the fields behind it, and its end.
pub row_parts : (time : ℕ) (vs : List Bool) → (decimal time ++ later_fields vs) ++ crlf ≡ sheet_row time vs
unfolding sheet_row
row_parts time vs = ap (λ (l : List ℕ). l ++ crlf) (sym (joined (decimal time) vs))

-- The header is `time`, the names of the orders, those behind them, and its end.
pub header_parts : ascii "time," ++ joined_by_commas order_names ++ other_names ++ crlf ≡ sheet_header
unfolding joined_by_commas order_names lamp_names sensor_names wire_names other_names sheet_header
header_parts = refl

pub others_length : length other_names ≡ 2 + length (joined_by_commas lamp_names) + length (joined_by_commas sensor_names)
unfolding other_names
others_length = simp length-append (omega arith)

pub header_length_lem : length sheet_header ≡ 415
header_length_lem =
    rw (sym header_parts)
    (simp length-append (omega (arith, order_names_length, lamp_names_length, sensor_names_length, others_length)))

-- Two bytes for each wire.
pub fields_length : (vs : List Bool) → length (later_fields vs) ≡ 2 * length vs
unfolding later_fields
fields_length [] = refl
fields_length (v ∷ vs) = omega (arith, fields_length vs)

-- A row has at most so many bytes.
pub row_length : (time : ℕ) (vs : List Bool) → time < 2 ^ 64 → length vs ≡ wires → length (sheet_row time vs) ≤ row_room
row_length time vs fits wide =
    rw (sym (row_parts time vs))
    (simp length-append (omega (arith, decimal_length 19 time (omega arith), fields_length vs, wide)))

-- One wire more.
fields_more : (i : ℕ) (vs : List Bool) → i < length vs
    → later_fields (take (suc i) vs) ≡ later_fields (take i vs) ++ comma ∷ value_field (get_or vs i false)
unfolding later_fields
fields_more i [] h = absurd (not-suc-le-zero h)
fields_more zero (v ∷ vs) h = refl
fields_more (suc i) (v ∷ vs) h = ap (λ (l : List ℕ). (comma ∷ value_field v) ++ l) (fields_more i vs (le_of_suc-le-suc h))

-- The same, as a loop counts.
pub fields_turn : (i : ℕ) (vs : List Bool) → i < length vs
    → later_fields (take i vs) ++ comma ∷ value_field (get_or vs i false) ≡ later_fields (take (i + 1) vs)
fields_turn i vs h = rw (add-one i) (sym (fields_more i vs h))
