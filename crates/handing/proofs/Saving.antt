-- Saving by its two cases: row 0 has been read, or it has not.
-- Assumes nothing.
use Prim.Native.Nat.{ℕ}
use mathlib.Core.Bool.{true, false}
use mathlib.Core.List.{List, []}
use mathlib.Core.Path.{◌≡◌}
use Rattle.image.specs.Images.{image_of, save_of}
use Rattle.reading.specs.declared.Reading.{Reading}
use Rattle.reading.specs.Rows.{has_started}
use Rattle.reading.specs.declared.Run.{Run}
use Rattle.handing.specs.Handing.{image_left, saved_by, save_last_of}

module _ (run : Run) (buffer : List ℕ) where
  pub with_row_0 : has_started run.reading.phase ≡ true
      → save_last_of run buffer ≡ saved_by (save_of run.reading.state buffer)
  unfolding save_last_of
  with_row_0 e = rw e

  pub without_row_0 : has_started run.reading.phase ≡ false
      → save_last_of run buffer ≡ (record { refusal = 0; written = 0 }, buffer)
  unfolding save_last_of
  without_row_0 e = rw e

module _ (reading : Reading) where
  pub image_left_lem : has_started reading.phase ≡ true → image_left reading ≡ image_of reading.state
  unfolding image_left
  image_left_lem e = rw e

  pub none_left : has_started reading.phase ≡ false → image_left reading ≡ []
  unfolding image_left
  none_left e = rw e
