-- Document 01, "The trace and its program": label and stamp are each decimal, 0 to 4,294,967,295, no sign, no leading zero, 0 is `0`;
-- a sensor is three digits 0 or 1.
-- Assumes nothing.
use Rattle.std.specs.Prelude.{ℕ, ◌+◌, ◌*◌, ◌-◌, Bool, cond, ◌&&◌, ◌||◌, List, [], ◌∷◌, leb, ltb, eqb, length, get_or}
use Rattle.common.specs.Answers.{Answer, gives, refuses}
use Rattle.common.specs.Decimal.{digit0}

-- A decimal digit.
abbrev pub is_digit : ℕ → Bool
is_digit b = leb digit0 b && leb b (digit0 + 9)

-- The greatest number of 32 bits.
abbrev pub greatest : ℕ
greatest = 4294967295

-- Decimal digits to the end of the field, read on from the value v of those before; the whole value is at most the greatest.
unfoldable pub digits_from : ℕ → List ℕ → Answer ℕ
digits_from v [] = cond (leb v greatest) (gives v) (refuses 5)
digits_from v (b ∷ bs) = cond (is_digit b) (digits_from (v * 10 + (b - digit0)) bs) (refuses 5)

-- At least one digit, and no zero in front of others.
unfoldable pub number_of : List ℕ → Answer ℕ
number_of f =
    cond (eqb (length f) 0 || eqb (get_or f 0 0) digit0 && ltb 1 (length f)) (refuses 5) (digits_from 0 f)

-- A digit 0 or 1.
abbrev pub is_bit : ℕ → Bool
is_bit b = eqb b digit0 || eqb b (digit0 + 1)

-- Three digits 0 or 1: the three channels, each a digit's value.
unfoldable pub triple_of : List ℕ → Answer (List ℕ)
triple_of f =
    cond (eqb (length f) 3 && (is_bit (get_or f 0 0) && is_bit (get_or f 1 0) && is_bit (get_or f 2 0)))
    (gives ((get_or f 0 0 - digit0) ∷ (get_or f 1 0 - digit0) ∷ (get_or f 2 0 - digit0) ∷ []))
    (refuses 5)
