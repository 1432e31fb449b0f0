-- Document 01, "The trace and its program": a number is written in decimal, with no leading zero; 0 is `0`.
-- Assumes nothing.
use Rattle.std.specs.Prelude.{ℕ, zero, suc, ◌+◌, ◌/◌, ◌%◌, cond, List, [], ◌∷◌, ◌++◌, ltb}

-- The byte of the digit 0. The digits stand side by side, so 48 + d is the byte of the digit d.
abbrev pub digit0 : ℕ
digit0 = 48

-- The decimal digits of a number below ten to the `digits`.
unfoldable pub decimal_up_to : ℕ → ℕ → List ℕ
decimal_up_to zero n = []
decimal_up_to (suc digits) n =
    cond (ltb n 10) ((digit0 + n) ∷ []) (decimal_up_to digits (n / 10) ++ (digit0 + n % 10) ∷ [])

-- Twenty digits are enough for a number below 2 ^ 64.
unfoldable pub decimal : ℕ → List ℕ
decimal n = decimal_up_to 20 n
