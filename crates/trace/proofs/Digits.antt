-- Reading a number digit by digit: one more digit leads on, another byte and a value that is too great refuse.
-- Assumes nothing.
use mathlib.Core.Path.{◌≡◌, refl, sym, subst}
use mathlib.Core.Bool.{Bool, true, false, cond, ◌&&◌, ◌||◌}
use mathlib.Core.List.{List, [], ◌∷◌}
use Prim.Native.Nat.{ℕ, zero, suc, ◌+◌, ◌*◌, ◌-◌, ◌<◌, ◌≤◌}
use native.Mathlib.Omega.{arith}
use native.Mathlib.Numerals.{add-one}
use lib.Dec.{T, eqb}
use lib.ListN.{length, drop, get_or, drop_of_length-le}
use lib.Seq.{drop-cons}
use borrow.Author.Tests.{le-leb, lt-leb, eqb-true}
use Rattle.common.specs.Answers.{gives, refuses}
use Rattle.common.specs.Decimal.{digit0}
use Rattle.trace.specs.Numbers.{is_digit, is_bit, greatest, digits_from}

either : {A : Type 0} (t : Bool) {x y : A} → x ≡ y → cond t x y ≡ y
either true p = p
either false p = refl

-- A value past the greatest stays past it.
pub too_great : (v : ℕ) (bs : List ℕ) → greatest < v → digits_from v bs ≡ refuses 5
unfolding digits_from
too_great v [] h = simp (lt-leb v greatest h)
too_great v (b ∷ bs) h = either (is_digit b) (too_great (v * 10 + (b - digit0)) bs (omega arith))

-- Of the byte at i, with v the value of those before it.
module _ (s : List ℕ) (v i : ℕ) (h : i < length s) where
  pub one_digit : is_digit (get_or s i 0) ≡ true → digits_from v (drop i s) ≡ digits_from (v * 10 + (get_or s i 0 - digit0)) (drop (i + 1) s)
  unfolding digits_from
  one_digit digit = rw (drop-cons s i 0, add-one) (simp digit)

  pub no_digit : is_digit (get_or s i 0) ≡ false → digits_from v (drop i s) ≡ refuses 5
  unfolding digits_from
  no_digit other = rw (drop-cons s i 0) (simp other)

-- At the end the value is what was read.
pub all_read : (s : List ℕ) (v i : ℕ) → length s ≤ i → v ≤ greatest → digits_from v (drop i s) ≡ gives v
unfolding digits_from
all_read s v i h fits = rw (drop_of_length-le s h) (simp (le-leb _ _ fits))

-- What a reader of digits needs at each of them.
pub ruleset digits = (too_great, one_digit, no_digit, all_read)

-- ---- The digits 0 and 1

abbrev pub Bit : ℕ → Type 0
Bit b = (digit0 ≤ b) × (b ≤ digit0 + 1)

bit : (b : ℕ) (x y : Bool) → eqb b digit0 ≡ x → eqb b (digit0 + 1) ≡ y → x || y ≡ true → Bit b
bit b true y p q r = let e : b ≡ digit0 = eqb-true b digit0 p in (omega arith, omega arith)
bit b false true p q r = let e : b ≡ digit0 + 1 = eqb-true b (digit0 + 1) q in (omega arith, omega arith)
bit b false false p q r = absurd (subst T (sym r) tt)

-- Three bytes of which a test says that they are such digits.
pub three_bits : (a b c : ℕ) (x y z : Bool) → x ≡ is_bit a → y ≡ is_bit b → z ≡ is_bit c → x && y && z ≡ true → Bit a × Bit b × Bit c
three_bits a b c true true true p q r h =
    (bit a _ _ refl refl (sym p), bit b _ _ refl refl (sym q), bit c _ _ refl refl (sym r))
three_bits a b c true true false p q r h = absurd (subst T (sym h) tt)
three_bits a b c true false z p q r h = absurd (subst T (sym h) tt)
three_bits a b c false y z p q r h = absurd (subst T (sym h) tt)

-- And the digit of a channel's value is one.
pub is_bit_lem : (a : ℕ) → a ≤ 1 → is_bit (digit0 + a) ≡ true
is_bit_lem zero h = refl
is_bit_lem (suc zero) h = refl
is_bit_lem (suc (suc a)) h = absurd (omega arith)
