-- The rows of a trace (document 01, "The trace and its program"): all bytes of the input cut at CRLF.
-- Assumes nothing.
use Rattle.std.specs.Prelude.{ℕ, cond, ◌&&◌, List, [], ◌∷◌, ◌++◌, eqb}
use Rattle.common.specs.Ascii.{cr, lf}

-- The bytes of a row under way, in front of the rows of what follows them. They belong to the first of those rows; where
-- nothing follows, they are the last row.
unfoldable pub before : List ℕ → List (List ℕ) → List (List ℕ)
before [] rows = rows
before (b ∷ row) [] = (b ∷ row) ∷ []
before (b ∷ row) (r ∷ rows) = ((b ∷ row) ++ r) ∷ rows

-- "A row ends at CRLF or at the end of the input; a lone CR or LF is a byte of the row. Nothing follows a CRLF that ends
-- the input, and an empty row elsewhere" is a row.
unfoldable pub rows_of : List ℕ → List (List ℕ)
rows_of [] = []
rows_of (b ∷ []) = (b ∷ []) ∷ []
rows_of (b ∷ c ∷ s) = cond (eqb b cr && eqb c lf) ([] ∷ rows_of s) (before (b ∷ []) (rows_of (c ∷ s)))
