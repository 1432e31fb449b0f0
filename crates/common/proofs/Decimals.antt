-- The decimal digits of a number that a `u64` holds: one digit below ten, and else those of the tenth and a last one. More room for
-- digits than a number has changes nothing, so the twenty of `decimal` are as good as nineteen for the tenth.
-- Assumes nothing.
use Prim.Native.Nat.{ℕ, zero, suc, ◌+◌, ◌/◌, ◌%◌, ◌^◌, ◌<◌, ◌≤◌}
use native.Mathlib.Nat.{pow-suc}
use native.Mathlib.Omega.{arith}
use mathlib.Core.Bool.{Bool, true, false, cond}
use mathlib.Core.List.{List, [], ◌∷◌, ◌++◌}
use mathlib.Core.Path.{◌≡◌, ap, ◌∙◌}
use lib.Dec.{ltb}
use lib.ListN.{length, length-append}
use borrow.Author.Tests.{lt-ltb, le-ltb}
use Rattle.common.specs.Decimal.{digit0, decimal, decimal_up_to}

-- ---- With room for so many digits

-- A tenth has a digit less.
pub tenth : (k n : ℕ) → n < 10 ^ suc k → n / 10 < 10 ^ k
tenth k n h = omega (arith, pow-suc 10 k)

-- Below ten a number is one digit.
pub one_digit : (k n : ℕ) → n < 10 → decimal_up_to (suc k) n ≡ (digit0 + n) ∷ []
unfolding decimal_up_to
one_digit k n h = simp (lt-ltb n 10 h)

-- From ten on it is the digits of its tenth, and its last digit.
pub last_digit : (k n : ℕ) → 10 ≤ n → decimal_up_to (suc k) n ≡ decimal_up_to k (n / 10) ++ (digit0 + n % 10) ∷ []
unfolding decimal_up_to
last_digit k n h = simp (le-ltb n 10 h)

-- Room for one more than are enough adds none.
enough_room : (k n : ℕ) → n < 10 ^ suc k → decimal_up_to (suc k) n ≡ decimal_up_to (suc (suc k)) n
unfolding decimal_up_to
enough_room zero n h = let h' : n < 10 = h in simp (lt-ltb n 10 h')
enough_room (suc k) n h =
    ap (λ (l : List ℕ). cond (ltb n 10) ((digit0 + n) ∷ []) (l ++ (digit0 + n % 10) ∷ []))
    (enough_room k (n / 10) (tenth (suc k) n h))

-- A number below ten to the j + 1 has at most j + 1 digits, whatever the room.
up_to_length : (j k n : ℕ) → n < 10 ^ suc j → length (decimal_up_to k n) ≤ suc j
unfolding decimal_up_to
up_to_length j zero n h = omega arith
up_to_length zero (suc k) n h = let h' : n < 10 = h in rw (lt-ltb n 10 h') (omega arith)
up_to_length (suc j) (suc k) n h = by_size (ltb n 10) (up_to_length j k (n / 10) (tenth (suc j) n h)) where
  by_size : (t : Bool) → length (decimal_up_to k (n / 10)) ≤ suc j
      → length (cond t ((digit0 + n) ∷ []) (decimal_up_to k (n / 10) ++ (digit0 + n % 10) ∷ [])) ≤ suc (suc j)
  by_size true tenths = omega arith
  by_size false tenths = simp length-append (omega arith)

-- ---- Of `decimal` itself

-- Below ten a number is one digit.
pub decimal_one : (n : ℕ) → n < 10 → decimal n ≡ (digit0 + n) ∷ []
unfolding decimal
decimal_one n h = one_digit 19 n h

-- From ten on it is the digits of its tenth, and its last digit.
pub decimal_more : (n : ℕ) → n < 2 ^ 64 → 10 ≤ n → decimal n ≡ decimal (n / 10) ++ (digit0 + n % 10) ∷ []
unfolding decimal
decimal_more n fits h =
    last_digit 19 n h
    ∙ ap (λ (l : List ℕ). l ++ (digit0 + n % 10) ∷ []) (enough_room 18 (n / 10) (omega arith))

-- So the tenth has one digit less.
pub one_more : (n : ℕ) → n < 2 ^ 64 → 10 ≤ n → length (decimal n) ≡ length (decimal (n / 10)) + 1
one_more n fits h = ap length (decimal_more n fits h) ∙ length-append (decimal (n / 10)) ((digit0 + n % 10) ∷ [])

-- A number below ten to the j + 1 has at most j + 1 digits.
pub decimal_length : (j n : ℕ) → n < 10 ^ suc j → length (decimal n) ≤ suc j
unfolding decimal
decimal_length j n h = up_to_length j 20 n h
