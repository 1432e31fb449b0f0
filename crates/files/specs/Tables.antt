-- A file as a table: cut at CRLF into rows, and each row at its commas into fields.
-- Assumes nothing.
use Rattle.std.specs.Prelude.{ℕ, List, [], ◌∷◌, ◌++◌, map, replicate}
use Rattle.common.specs.Decimal.{decimal}
use Rattle.lines.specs.Rows.{rows_of}
use Rattle.trace.specs.Rows.{fields_of}
use Rattle.controller.specs.declared.State.{State}
use Rattle.controller.specs.Lamps.{shown_of}
use Rattle.output.specs.Rows.{shown_fields}
use Rattle.reading.specs.declared.Came.{Came}
use Rattle.reading.specs.declared.Came.TheVariants.{Nothing, Answered, Refused}
use Rattle.files.specs.Told.{Told}

abbrev pub table_in : List ℕ → List (List (List ℕ))
table_in file = map fields_of (rows_of file)

-- The fields that are told of a row: label, 0 or the refusal, and what the state shows; the line, the refusal and ten empty fields; or no
-- row.
abbrev pub fields_by : Came → State → List (List (List ℕ))
fields_by Nothing state = []
fields_by (Answered label code) state = (decimal label ∷ decimal code ∷ shown_fields (shown_of state)) ∷ []
fields_by (Refused line refusal) state = (decimal line ∷ decimal refusal ∷ replicate 10 []) ∷ []

-- The rows of the table that are told.
unfoldable pub table_of : List Told → List (List (List ℕ))
table_of [] = []
table_of (t ∷ ts) = fields_by t.came t.after ++ table_of ts
