-- Document 01, "The trace and its program": the header and the rows that are written, and what a lent buffer then holds.
-- Assumes nothing.
use Rattle.std.specs.Prelude.{ℕ, ◌+◌, Bool, cond, List, [], ◌∷◌, ◌++◌, ltb, length, drop, replicate}
use Rattle.common.specs.Answers.{Answer, gives, refuses}
use Rattle.common.specs.Ascii.{ascii, joined_by_commas, crlf}
use Rattle.common.specs.Bits.{bit}
use Rattle.common.specs.Decimal.{decimal, digit0}
use Rattle.names.specs.Words.{order_names, lamp_names, doors_word, gears_word}
use Rattle.controller.specs.declared.Shown.{Shown}

-- The output header: label and code, the orders, doors and gears, the lamps.
unfoldable pub header_text : List ℕ
header_text = joined_by_commas (ascii "step" ∷ ascii "code" ∷ (order_names ++ ascii "doors" ∷ ascii "gears" ∷ lamp_names)) ++ crlf

-- An order or a light: 1 for on, 0 for off.
abbrev pub on_off : Bool → List ℕ
on_off on = (digit0 + bit on) ∷ []

-- What is shown of a state: the five orders, doors, gears, green, orange, red.
abbrev pub shown_fields : Shown → List (List ℕ)
shown_fields s =
    on_off s.general ∷
    on_off s.closes ∷
    on_off s.opens ∷
    on_off s.retracts ∷
    on_off s.extends ∷
    doors_word s.doors ∷
    gears_word s.gears ∷
    on_off s.lights.green ∷
    on_off s.lights.orange ∷
    on_off s.lights.red ∷
    []

-- One row per row: label, 0 or the refusal, and what is shown.
unfoldable pub row_text : ℕ → ℕ → Shown → List ℕ
row_text label code shown = joined_by_commas (decimal label ∷ decimal code ∷ shown_fields shown) ++ crlf

-- At the first 5, 6 or 7: the line number, the refusal and ten empty fields.
unfoldable pub refusal_text : ℕ → ℕ → List ℕ
refusal_text line refusal = joined_by_commas (decimal line ∷ decimal refusal ∷ replicate 10 []) ++ crlf

-- A text and a lent output buffer: the answer, and what the buffer then holds. "Refusal numbers", 8: a buffer that is shorter than
-- the row with its CRLF is refused and left as it was. Else the row stands in front, and "bytes of an output buffer past the written
-- row stay".
unfoldable pub written : List ℕ → List ℕ → Answer ℕ × List ℕ
written text buffer =
    cond (ltb (length buffer) (length text))
    (refuses 8, buffer)
    (gives (length text), text ++ drop (length text) buffer)
