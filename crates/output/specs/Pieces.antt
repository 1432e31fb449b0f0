-- A row is put together piece by piece in a line. Its pieces.
-- Assumes nothing.
use Rattle.std.specs.Prelude.{ℕ, ◌+◌, List, [], ◌∷◌, ◌++◌}
use Rattle.common.specs.Ascii.{comma, crlf, joined_by_commas}
use Rattle.common.specs.Bits.{bit}
use Rattle.common.specs.Decimal.{decimal, digit0}
use Rattle.controller.specs.declared.Lights.{Lights}
use Rattle.controller.specs.declared.Shown.{Shown}

-- The first two fields of a row: a label or a line number, and 0 or the refusal.
abbrev pub head_piece : ℕ → ℕ → List ℕ
head_piece number code = decimal number ++ comma ∷ decimal code

-- The other fields, each after a comma, and the row's end.
abbrev pub tail_piece : List (List ℕ) → List ℕ
tail_piece fields = comma ∷ joined_by_commas fields ++ crlf

-- The five orders, a comma before each and after the last.
abbrev pub orders_piece : Shown → List ℕ
orders_piece s =
    comma ∷ (digit0 + bit s.general) ∷
    comma ∷ (digit0 + bit s.closes) ∷
    comma ∷ (digit0 + bit s.opens) ∷
    comma ∷ (digit0 + bit s.retracts) ∷
    comma ∷ (digit0 + bit s.extends) ∷
    comma ∷ []

-- The three lights, a comma before each, and the row's end.
abbrev pub lights_piece : Lights → List ℕ
lights_piece l =
    comma ∷ (digit0 + bit l.green) ∷
    comma ∷ (digit0 + bit l.orange) ∷
    comma ∷ (digit0 + bit l.red) ∷
    crlf
