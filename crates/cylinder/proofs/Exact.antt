-- The float for so many parts equals them exactly; scaled by 16384 it is that whole number.
-- Assumes nothing.
use Rattle.std.proofs.Common.{◌≡◌, ℕ, ◌+◌, ◌*◌, ◌/◌, ◌^◌, ◌<◌, ◌≤◌, Bool, true, false, not, ◌&&◌, ◌||◌, T, eqb, ltb, ℤ, pos, sym, refl, ap, ◌∙◌, subst, true≢false, zero-le, le_of_eq, lt_of_lt_of_le, le_of_lt, mul_assoc, mul_comm, zero-mul, mul-one, arith, lit<, lit≤, le→leb, eqb→eq, ltb→lt, lt→ltb, shl_lt, ltb-false, le-ltb}
use native.Mathlib.Nat.{div-le_of_le-mul}
use mathlib.Core.Bool.{false≢true}
use lib.Ieee.{Float, nan, inf, fin, binary32, up, down, round, mul, div, of_int, of_bits, lt, le, eq, to_unsigned, in_float, is_nan}
use lib.Ieee.Exact.{HasValue, round_exact}
use lib.Ieee.Fits.{down_pos}
use lib.Ieee.Bits.{is_true}
use lib.Ieee.Back.{round_whole, unsigned_back}
use lib.Ieee.Order.{le_of_values}
use lib.Ieee.Scale.{round_same}
use Rattle.cylinder.specs.Fractions.{stroke, fraction, EqualsParts}

-- 0 and 16384 as floats.
abbrev pub zero : Float
zero = fin false 0 (pos 0)

abbrev pub scale : Float
scale = fin false 1 (pos 14)

equals : (x : Float) (n : ℕ) → HasValue x false n stroke → EqualsParts x n
equals nan n v = v
equals (inf s) n v = v
equals (fin s m e) n v = v

has : (x : Float) (n : ℕ) → EqualsParts x n → HasValue x false n stroke
has nan n v = v
has (inf s) n v = v
has (fin s m e) n v = v

-- "Every float handed out equals its fraction exactly": for every n of 16 bits the float for n parts is n/16384.
pub fraction_exact : (n : ℕ) → n < 65536 → EqualsParts (fraction n) n
unfolding fraction
fraction_exact n h =
    equals (round binary32 false n stroke) n
    (round_exact binary32 false n stroke n 135 (lit< tt) (omega arith)
    (lt_of_lt_of_le (shl_lt 16 135 h) (lit≤ tt))
    (sym (mul_assoc n (2 ^ 135) stroke)))

-- What the code makes is that float: a number of 16 bits as a float, divided by 16384.
quotient : (x : Float) (n : ℕ) → HasValue x false n 1 → div binary32 x scale ≡ round binary32 false n stroke
unfolding div
quotient nan n v = absurd v
quotient (inf s) n v = absurd v
quotient (fin true m e) n v = absurd (true≢false v.0)
quotient (fin false m e) n v =
    round_same binary32 false (m * up e * 1) (1 * 2 ^ 14 * down e) n stroke (omega (arith, down_pos e)) (lit< tt)
    (ap (λ (x : ℕ). x * stroke) v.1 ∙ mul_assoc n (down e) stroke ∙ ap (λ (x : ℕ). n * x) (mul_comm (down e) stroke))

pub divided : (n : ℕ) → n < 65536 → div binary32 (of_int binary32 (pos n)) (of_bits binary32 0x4680_0000) ≡ fraction n
unfolding fraction of_int of_bits
divided n h = quotient (round binary32 false n 1) n (round_whole binary32 false n (omega arith))

-- ---- Scaled by 16384

scaled : (x : Float) (n : ℕ) → HasValue x false n stroke → mul binary32 x scale ≡ round binary32 false n 1
unfolding mul
scaled nan n v = absurd v
scaled (inf s) n v = absurd v
scaled (fin true m e) n v = absurd (true≢false v.0)
scaled (fin false m e) n v =
    round_same binary32 false (m * up e * (1 * 2 ^ 14)) (down e * 1) n 1 (omega (arith, down_pos e)) (lit< tt)
    (mul-one (m * up e * stroke) ∙ v.1 ∙ ap (λ (x : ℕ). n * x) (sym (mul-one (down e))))

pub fraction_scaled : (n : ℕ) → n < 65536 → mul binary32 (fraction n) scale ≡ of_int binary32 (pos n)
unfolding of_int
fraction_scaled n h = scaled (fraction n) n (has (fraction n) n (fraction_exact n h))

-- It is not below 0, and where n is at most 16384 it is at most 16384; cut to a whole number it is n.
whole_value : (n : ℕ) → n < 65536 → HasValue (of_int binary32 (pos n)) false n 1
unfolding of_int
whole_value n h = round_whole binary32 false n (omega arith)

no_minus : (y : Float) (n : ℕ) → HasValue y false n 1 → lt y zero ≡ false
unfolding lt
no_minus nan n v = absurd v
no_minus (inf s) n v = absurd v
no_minus (fin true m e) n v = absurd (true≢false v.0)
no_minus (fin false m e) n v = le-ltb (m * up e * 1) (0 * 1 * down e) (subst (λ (z : ℕ). z ≤ m * up e * 1) (sym (zero-mul (down e))) zero-le)

pub not_below : (n : ℕ) → n < 65536 → lt (of_int binary32 (pos n)) zero ≡ false
not_below n h = no_minus (of_int binary32 (pos n)) n (whole_value n h)

pub not_over : (n : ℕ) → n ≤ stroke → le (of_int binary32 (pos n)) scale ≡ true
not_over n h =
    is_true (le (of_int binary32 (pos n)) scale)
    (le_of_values (of_int binary32 (pos n)) scale n 1 stroke 1 (lit< tt) (lit< tt) (whole_value n (omega arith)) (refl, refl) (omega arith))

pub cut : (n : ℕ) → n < 65536 → to_unsigned 64 (of_int binary32 (pos n)) ≡ n
unfolding in_float
cut n h = (unsigned_back binary32 64 n (le→leb n (2 ^ 24) (omega arith)) (omega arith)).1

-- ---- Between 0 and 16384

at_most : (a b : ℕ) (t : Bool) → (ltb a b || (eqb a b && t)) ≡ true → a ≤ b
at_most a b t h = by (ltb a b) (eqb a b) (ltb→lt a b) (eqb→eq a b) h
  where
    by : (l e : Bool) → (T l → a < b) → (T e → a ≡ b) → (l || (e && t)) ≡ true → a ≤ b
    by true e less same h = le_of_lt (less tt)
    by false true less same h = le_of_eq (same tt)
    by false false less same h = absurd (false≢true h)

at_most_scale : (m : ℕ) (e : ℤ) → le (fin false m e) scale ≡ true → m * up e ≤ stroke * down e
unfolding le
at_most_scale m e h = omega (arith, at_most (m * up e * 1) (stroke * down e) true h)

-- There is a whole part of 64 bits, ..
pub can_be_cut : (y : Float) → lt y zero ≡ false → le y scale ≡ true → T (lt (fin true 1 (pos 0)) y) × T (lt y (fin false 1 (pos 64)))
unfolding lt le eq
can_be_cut nan l h = absurd (false≢true h)
can_be_cut (inf true) l h = absurd (true≢false l)
can_be_cut (inf false) l h = absurd (false≢true h)
can_be_cut (fin true m e) l h = (
  lt→ltb (m * up e * 1) (1 * 1 * down e) (omega (arith, ltb-false 0 (m * up e * 1 + 0 * 1 * down e) l, zero-mul (down e), down_pos e)),
  lt→ltb 0 (m * up e * 1 + 1 * 2 ^ 64 * down e) (omega (arith, down_pos e)),
)
can_be_cut (fin false m e) l h = (
  lt→ltb 0 (1 * 1 * down e + m * up e * 1) (omega (arith, down_pos e)),
  lt→ltb (m * up e * 1) (1 * 2 ^ 64 * down e) (omega (arith, down_pos e, at_most_scale m e h)),
)

-- .. at most 16384; ..
pub cut_at_most : (y : Float) → lt y zero ≡ false → le y scale ≡ true → to_unsigned 64 y ≤ stroke
unfolding lt le eq to_unsigned
cut_at_most nan l h = zero-le
cut_at_most (inf true) l h = zero-le
cut_at_most (inf false) l h = absurd (false≢true h)
cut_at_most (fin true m e) l h = zero-le
cut_at_most (fin false m e) l h =
    let whole : m * up e / down e ≤ stroke = div-le_of_le-mul (down e) (omega (arith, at_most_scale m e h)) in
    omega arith

-- .. and what is scaled is no NaN.
pub no_nan : (x : Float) → le (mul binary32 x scale) scale ≡ true → T (not (is_nan x))
unfolding mul le lt eq is_nan
no_nan nan h = absurd (false≢true h)
no_nan (inf s) h = tt
no_nan (fin s m e) h = tt

equal_no_nan : (x : Float) (n : ℕ) → EqualsParts x n → T (not (is_nan x))
unfolding is_nan
equal_no_nan nan n v = absurd v
equal_no_nan (inf s) n v = tt
equal_no_nan (fin s m e) n v = tt

pub fraction_no_nan : (n : ℕ) → n < 65536 → T (not (is_nan (fraction n)))
fraction_no_nan n h = equal_no_nan (fraction n) n (fraction_exact n h)
