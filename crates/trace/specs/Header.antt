-- Document 01, "The trace and its program": the header of the trace.
-- Assumes nothing.
use Rattle.std.specs.Prelude.{ℕ, Bool, true, false, ◌&&◌, List, [], ◌∷◌, eqb}
use Rattle.common.specs.Ascii.{ascii, joined_by_commas}
use Rattle.names.specs.Words.{sensor_names}

-- `step,stamp` and the 18 sensor names, in the order of "The sample".
unfoldable pub header_names : List (List ℕ)
header_names = ascii "step" ∷ ascii "stamp" ∷ sensor_names

-- The header: these names with a comma between each two.
unfoldable pub header_text : List ℕ
header_text = joined_by_commas header_names

-- Whether two texts are the same, byte by byte.
unfoldable pub same_text : List ℕ → List ℕ → Bool
same_text [] [] = true
same_text [] (b ∷ t) = false
same_text (a ∷ s) [] = false
same_text (a ∷ s) (b ∷ t) = eqb a b && same_text s t
