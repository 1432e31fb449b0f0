-- 64 bytes are room for every row, whatever numbers of their types it bears: the digits of the two, the two words, and the bytes that
-- every row has.
-- Assumes nothing.
use Prim.Native.Nat.{ℕ, ◌^◌, ◌<◌, ◌≤◌}
use native.Mathlib.Omega.{arith}
use lib.ListN.{length}
use Rattle.controller.specs.declared.Shown.{Shown}
use Rattle.output.specs.Rows.{row_text, refusal_text}
use Rattle.common.proofs.Decimals.{decimal_length}
use Rattle.output.proofs.Sizes.{row_length, row_at_most_49, refusal_length}

pub row_fits : (label code : ℕ) (s : Shown) → label < 2 ^ 32 → code < 2 ^ 8 → length (row_text label code s) ≤ 64
row_fits label code s l c =
    omega (
      arith,
      row_length label code s,
      row_length label 0 s,
      row_at_most_49 label 0 s (omega arith) (omega arith),
      decimal_length 2 code (omega arith),
    )

pub refusal_fits : (line refusal : ℕ) → line < 2 ^ 64 → refusal < 2 ^ 8 → length (refusal_text line refusal) ≤ 64
refusal_fits line refusal l r =
    omega (
      arith,
      refusal_length line refusal,
      decimal_length 19 line (omega arith),
      decimal_length 2 refusal (omega arith),
    )
