-- The same by parts (document 01, "through a line buffer of 512 bytes"): what taking in a part of the input gives.
-- Assumes nothing.
use Rattle.std.specs.Prelude.{ℕ, ◌+◌, ◌-◌, min, Bool, true, false, cond, ◌&&◌, List, [], ◌∷◌, ◌++◌, eqb, ltb, length, drop, set}
use Rattle.common.specs.Ascii.{cr, lf}
use Rattle.lines.specs.Rows.{before, rows_of}
use Rattle.lines.specs.declared.Taken.{Taken}
use Rattle.lines.specs.declared.Taken.TheVariants.{Row, More, Over}
use Rattle.lines.specs.declared.Final.{Final}
use Rattle.lines.specs.declared.Final.TheVariants.{Nothing, Last, Wider}

-- A CR behind which nothing is known yet is held back, outside the line buffer, in front of what comes next.
abbrev pub held : Bool → List ℕ
held true = cr ∷ []
held false = []

-- The rows of the input from a row under way on: its bytes so far, whether a CR is held, and all bytes to come.
unfoldable pub rows_from : List ℕ → Bool → List ℕ → List (List ℕ)
rows_from row c s = before row (rows_of (held c ++ s))

-- Whether nothing is there, and whether an LF is there first.
abbrev pub empty : List ℕ → Bool
empty [] = true
empty (b ∷ s) = false

abbrev pub lf_first : List ℕ → Bool
lf_first [] = false
lf_first (b ∷ s) = eqb b lf

-- Bytes go into the line buffer from place `len` on. A CR that ends them is held. A CRLF ends the row, and of the part's
-- `size` bytes all are used up but those behind it. Any other byte is one of the row; where the buffer is full, the row is
-- over (refusal 6, at the 512 bytes of the program's buffer). The answer, and the line buffer after it.
unfoldable pub cut_from : ℕ → List ℕ → ℕ → List ℕ → Taken × List ℕ
cut_from size line len [] = (More len false, line)
cut_from size line len (b ∷ s) =
    cond (eqb b cr && empty s) (More len true, line)
    (cond (eqb b cr && lf_first s) (Row (size - length (drop 1 s)) len, line)
    (cond (ltb len (length line)) (cut_from size (set line len b) (len + 1) s) (Over, line)))

-- The part's bytes from `from` on, taken into the line buffer behind its first `len` bytes. A `len` past the
-- buffer's length counts as that.
unfoldable pub cut_of : List ℕ → ℕ → List ℕ → ℕ → Bool → Taken × List ℕ
cut_of part from line len c = cut_from (length part) line (min len (length line)) (held c ++ drop from part)

-- The end of the input: what is held is the last row, a held CR a byte of it; nothing held is no row.
unfoldable pub last_from : List ℕ → ℕ → Bool → Final × List ℕ
last_from line len true = cond (ltb len (length line)) (Last (len + 1), set line len cr) (Wider, line)
last_from line len false = cond (eqb len 0) (Nothing, line) (Last len, line)

-- The same of the first `len` bytes of the line buffer, where a `len` past its length counts as that.
unfoldable pub last_of : List ℕ → ℕ → Bool → Final × List ℕ
last_of line len c = last_from line (min len (length line)) c
