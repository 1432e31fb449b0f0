-- Rows at even times, in which worked runs are written.
-- Assumes nothing.
use Rattle.std.specs.Prelude.{List, [], ◌∷◌, ℕ, ◌+◌}
use Rattle.controller.specs.Samples.{Row}

-- Samples so many ms apart, the first so long after this stamp.
unfoldable pub evenly : ℕ → ℕ → List (List ℕ) → List Row
evenly apart last [] = []
evenly apart last (bytes ∷ more) = (last + apart, bytes) ∷ evenly apart (last + apart) more
