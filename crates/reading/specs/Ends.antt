-- What it means that a trace is read to its end, whatever still follows.
-- Assumes nothing.
use Rattle.std.specs.Prelude.{ℕ, List, ◌≡◌}
use Rattle.reading.specs.declared.Reading.{Reading}
use Rattle.reading.specs.Rows.{untold, row_of, over_of, end_of}

-- Every row and the end of the input come to nothing, and leave the reading as it is.
pub record Silent (reading : Reading) : Type 0 where
  pub at_row : (row : List ℕ) → row_of reading row ≡ untold reading
  pub at_over : over_of reading ≡ untold reading
  pub at_end : end_of reading ≡ untold reading
