-- What `tell` promises of the output buffer: a text stands in front, and the bytes past it stay.
-- Assumes nothing.
use Rattle.std.specs.Prelude.{ℕ, List, ◌++◌, length, drop}

-- The number of bytes that a text has, and a buffer with the text in front.
abbrev pub told : List ℕ → List ℕ → ℕ × List ℕ
told text out = (length text, text ++ drop (length text) out)
