-- The digits of a number, and the number that digits come to: each undoes the other. What is written is read back, and what is read as
-- a number is the text that is written for it.
-- Assumes nothing.
use mathlib.Core.Path.{◌≡◌, refl, sym, ◌∙◌, ap}
use mathlib.Core.Bool.{Bool, true, false, cond, ◌&&◌}
use mathlib.Core.Logic.{◌⊎◌, inl, inr}
use mathlib.Core.List.{List, [], ◌∷◌, ◌++◌, append_assoc, append-nil}
use Prim.Native.Nat.{ℕ, zero, suc, ◌+◌, ◌*◌, ◌-◌, ◌/◌, ◌%◌, ◌^◌, ◌<◌, ◌≤◌}
use native.Mathlib.Omega.{arith}
use lib.Dec.{leb, ltb, eqb}
use lib.ListN.{length, get_or, length-append, get_or-append}
use borrow.Author.Tests.{le-leb, le-ltb, lt-ltb, ne_eqb, leb-true, eqb-false}
use Rattle.common.specs.Answers.{gives, refuses}
use Rattle.common.specs.Decimal.{digit0, decimal_up_to, decimal}
use Rattle.common.proofs.Decimals.{tenth, one_digit, last_digit, decimal_one, decimal_more}
use Rattle.trace.specs.Numbers.{greatest, digits_from, number_of}
use Rattle.trace.proofs.Cases.{at_most, and_false, refusal_gives_nothing}
use Rattle.trace.proofs.Commas.{Over, over_append}
use Rattle.trace.proofs.Digits.{too_great}

-- A digit leads on.
digit : (v d : ℕ) (bs : List ℕ) → d < 10 → digits_from v ((digit0 + d) ∷ bs) ≡ digits_from (v * 10 + d) bs
unfolding digits_from
digit v d bs h =
    let low : digit0 ≤ digit0 + d = omega arith in
    let high : digit0 + d ≤ digit0 + 9 = omega arith in
    let same : digit0 + d - digit0 ≡ d = omega arith in
    simp (le-leb _ _ low, le-leb _ _ high, same)

-- What is written is read back, with what stands behind it.
pub written_read : (k n : ℕ) (bs : List ℕ) → n < 10 ^ k → digits_from 0 (decimal_up_to k n ++ bs) ≡ digits_from n bs
unfolding decimal_up_to
written_read zero n bs h = let e : 0 ≡ n = omega arith in ap (λ (v : ℕ). digits_from v bs) e
written_read (suc k) n bs h = by_size (written_read k (n / 10) ((digit0 + n % 10) ∷ bs) (tenth k n h)) (at_most 10 n) where
  by_size : digits_from 0 (decimal_up_to k (n / 10) ++ (digit0 + n % 10) ∷ bs) ≡ digits_from (n / 10) ((digit0 + n % 10) ∷ bs)
      → (10 ≤ n) ⊎ (n < 10) → digits_from 0 (decimal_up_to (suc k) n ++ bs) ≡ digits_from n bs
  by_size tenths (inl q) =
      let whole : n / 10 * 10 + n % 10 ≡ n = omega arith in
      rw (last_digit k n q, append_assoc, tenths, digit (n / 10) (n % 10) bs (omega arith), whole)
  by_size tenths (inr q) = rw (one_digit k n q, digit 0 n bs q) (ap (λ (v : ℕ). digits_from v bs) (omega arith))

-- A number that is not 0 does not begin with 0.
pub begins : (k n : ℕ) → 0 < n → n < 10 ^ k → (0 < length (decimal_up_to k n)) × (digit0 < get_or (decimal_up_to k n) 0 0)
unfolding decimal_up_to
begins zero n some h = absurd (omega arith)
begins (suc k) n some h = by_size (at_most 10 n) (λ q. begins k (n / 10) (omega arith) (tenth k n h)) where
  by_size : (10 ≤ n) ⊎ (n < 10) → (10 ≤ n → (0 < length (decimal_up_to k (n / 10))) × (digit0 < get_or (decimal_up_to k (n / 10)) 0 0))
      → (0 < length (decimal_up_to (suc k) n)) × (digit0 < get_or (decimal_up_to (suc k) n) 0 0)
  by_size (inl q) tenths =
      let there : 0 < length (decimal_up_to k (n / 10)) = (tenths q).0 in
      rw (last_digit k n q) (simp length-append (omega arith), rw get_or-append (tenths q).1)
  by_size (inr q) tenths = rw (one_digit k n q) (omega arith, omega arith)

-- ---- What is read

-- What is read on from a value is at least that value, so the value is not too great.
read_fits : (v n : ℕ) (bs : List ℕ) → digits_from v bs ≡ gives n → v ≤ greatest
read_fits v n bs h = by_place (at_most v greatest) where
  by_place : (v ≤ greatest) ⊎ (greatest < v) → v ≤ greatest
  by_place (inl q) = q
  by_place (inr q) = refusal_gives_nothing (sym (too_great v bs q) ∙ h)

-- One more digit behind a number that is not 0.
appended : (v d : ℕ) → 0 < v → v ≤ greatest → d < 10 → decimal (v * 10 + d) ≡ decimal v ++ (digit0 + d) ∷ []
appended v d some fits h =
    let tens : (v * 10 + d) / 10 ≡ v = omega arith in
    let rest : (v * 10 + d) % 10 ≡ d = omega arith in
    decimal_more (v * 10 + d) (omega arith) (omega arith) ∙ rw (tens, rest)

-- At the end of a field the value is what was read; before it stands a digit, and the reading goes on.
end_read : (v n : ℕ) → digits_from v [] ≡ gives n → v ≡ n
unfolding digits_from
end_read v n h = by_test (leb v greatest) h where
  by_test : (t : Bool) → cond t (gives v) (refuses 5) ≡ gives n → v ≡ n
  by_test true e = cc
  by_test false e = refusal_gives_nothing e

digit_read : (v n b : ℕ) (bs : List ℕ) → digits_from v (b ∷ bs) ≡ gives n
    → (digit0 ≤ b) × (b ≤ digit0 + 9) × (digits_from (v * 10 + (b - digit0)) bs ≡ gives n)
unfolding digits_from
digit_read v n b bs h = by_test (leb digit0 b) (leb b (digit0 + 9)) refl refl h where
  by_test : (x y : Bool) → leb digit0 b ≡ x → leb b (digit0 + 9) ≡ y
      → cond (x && y) (digits_from (v * 10 + (b - digit0)) bs) (refuses 5) ≡ gives n
      → (digit0 ≤ b) × (b ≤ digit0 + 9) × (digits_from (v * 10 + (b - digit0)) bs ≡ gives n)
  by_test true true low high e = (leb-true _ _ low, leb-true _ _ high, e)
  by_test true false low high e = refusal_gives_nothing e
  by_test false y low high e = refusal_gives_nothing e

-- So a number that is read is not too great.
read_small : (v n : ℕ) (bs : List ℕ) → digits_from v bs ≡ gives n → n ≤ greatest
read_small v n [] h = omega (arith, end_read v n h, read_fits v n [] h)
read_small v n (b ∷ bs) h = read_small (v * 10 + (b - digit0)) n bs (digit_read v n b bs h).2

-- And digits that are read on from a number stand behind its own.
digits_behind : (v n : ℕ) (bs : List ℕ) → 0 < v → digits_from v bs ≡ gives n → decimal n ≡ decimal v ++ bs
digits_behind v n [] some h = rw (append-nil, end_read v n h)
digits_behind v n (b ∷ bs) some h =
    let d = digit_read v n b bs h in
    let fits : v * 10 + (b - digit0) ≤ greatest = read_fits (v * 10 + (b - digit0)) n bs d.2 in
    let byte : digit0 + (b - digit0) ≡ b = omega arith in
    digits_behind (v * 10 + (b - digit0)) n bs (omega arith) d.2
    ∙ rw (appended v (b - digit0) some (omega arith) (omega arith), append_assoc, byte)

-- At the end of the field stands the value.
at_the_end : (n : ℕ) → n ≤ greatest → digits_from n [] ≡ gives n
unfolding digits_from
at_the_end n fits = simp (le-leb _ _ fits)

-- ---- Both ways, of a whole field

-- A field that is not empty and has no zero in front of others is read from 0 on.
plain : (f : List ℕ) → 0 < length f → (digit0 < get_or f 0 0) ⊎ (length f ≡ 1) → number_of f ≡ digits_from 0 f
unfolding number_of
plain f there first =
    let full : length f ≡ 0 → ⊥ = λ q. omega arith in
    simp (ne_eqb _ _ full, no_zero first) where
      no_zero : (digit0 < get_or f 0 0) ⊎ (length f ≡ 1) → eqb (get_or f 0 0) digit0 && ltb 1 (length f) ≡ false
      no_zero (inl q) = let other : get_or f 0 0 ≡ digit0 → ⊥ = λ e. omega arith in simp (ne_eqb _ _ other)
      no_zero (inr q) = let short : length f ≤ 1 = omega arith in rw (le-ltb _ _ short) (and_false (eqb (get_or f 0 0) digit0))

-- What `decimal` writes for a number of 32 bits is read as that number.
pub decimal_is_read : (n : ℕ) → n ≤ greatest → number_of (decimal n) ≡ gives n
unfolding decimal
decimal_is_read n fits =
    by_size (at_most 10 n)
    ∙ ap (digits_from 0) (sym (append-nil (decimal_up_to 20 n))) ∙ written_read 20 n [] (omega arith) ∙ at_the_end n fits where
      by_size : (10 ≤ n) ⊎ (n < 10) → number_of (decimal_up_to 20 n) ≡ digits_from 0 (decimal_up_to 20 n)
      by_size (inl q) =
          let b = begins 20 n (omega arith) (omega arith) in
          plain (decimal_up_to 20 n) b.0 (inl b.1)
      by_size (inr q) = rw (one_digit 19 n q) (plain ((digit0 + n) ∷ []) (omega arith) (inr refl))

-- And what is read as a number is what `decimal` writes for it.
pub read_is_decimal : (f : List ℕ) (n : ℕ) → number_of f ≡ gives n → (f ≡ decimal n) × (n ≤ greatest)
unfolding number_of
read_is_decimal [] n h = refusal_gives_nothing h
read_is_decimal (b ∷ []) n h =
    let e : digits_from 0 (b ∷ []) ≡ gives n = sym (plain (b ∷ []) (omega arith) (inr refl)) ∙ h in
    let d = digit_read 0 n b [] e in
    let same : 0 * 10 + (b - digit0) ≡ n = end_read _ n d.2 in
    let byte : digit0 + n ≡ b = omega arith in
    (rw (decimal_one n (omega arith), byte), read_small 0 n (b ∷ []) e)
read_is_decimal (b ∷ c ∷ bs) n h = by_first (eqb b digit0) refl (rw full at h) where
  full : eqb (length (b ∷ c ∷ bs)) 0 ≡ false
  full = ne_eqb (length (b ∷ c ∷ bs)) 0 (λ q. omega arith)

  long : ltb 1 (length (b ∷ c ∷ bs)) ≡ true
  long = lt-ltb 1 (length (b ∷ c ∷ bs)) (omega arith)

  by_first : (t : Bool) → eqb b digit0 ≡ t
      → cond (t && ltb 1 (length (b ∷ c ∷ bs))) (refuses 5) (digits_from 0 (b ∷ c ∷ bs)) ≡ gives n
      → (b ∷ c ∷ bs ≡ decimal n) × (n ≤ greatest)
  by_first true nought e = refusal_gives_nothing (rw long at e)
  by_first false other e =
      let d = digit_read 0 n b (c ∷ bs) e in
      let v : ℕ = 0 * 10 + (b - digit0) in
      let some : b ≡ digit0 → ⊥ = eqb-false b digit0 other in
      let byte : digit0 + v ≡ b = omega arith in
      (sym (digits_behind v n (c ∷ bs) (omega arith) d.2 ∙ rw (decimal_one v (omega arith), byte)), read_small 0 n (b ∷ c ∷ bs) e)

-- ---- The text that is written

-- It is digits alone.
pub decimal_over : (k n : ℕ) → Over (decimal_up_to k n)
unfolding decimal_up_to
decimal_over zero n = tt
decimal_over (suc k) n = by_size (ltb n 10) (decimal_over k (n / 10)) where
  by_size : (t : Bool) → Over (decimal_up_to k (n / 10))
      → Over (cond t ((digit0 + n) ∷ []) (decimal_up_to k (n / 10) ++ (digit0 + n % 10) ∷ []))
  by_size true tenths = (omega arith, tt)
  by_size false tenths = over_append (decimal_up_to k (n / 10)) ((digit0 + n % 10) ∷ []) tenths (omega arith, tt)
