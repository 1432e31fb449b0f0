-- Where there is no such moment: what would be written of it has as many bytes as at the time that the code takes for it.
-- Assumes nothing.
use Prim.Native.Nat.{ℕ, zero, suc, ◌+◌, ◌-◌, ◌/◌, ◌%◌, ◌^◌, ◌<◌, ◌≤◌, min}
use borrow.Author.Tests.{eq-eqb, ne_eqb, lt-ltb, le-ltb, le-leb, lt-leb, leb-true, leb-false}
use native.Mathlib.Nat.{pow-suc}
use native.Mathlib.Omega.{arith}
use mathlib.Core.Bool.{Bool, true, false, cond, or-true}
use mathlib.Core.List.{List, [], ◌∷◌, ◌++◌}
use mathlib.Core.Path.{◌≡◌, refl, sym, ap, ◌∙◌}
use lib.Dec.{eqb, ltb, leb}
use lib.ListN.{length, length-append}
use Rattle.common.specs.Decimal.{digit0, decimal, decimal_up_to}
use Rattle.common.proofs.Decimals.{last_digit}
use Rattle.dump.specs.declared.Dump.{Dump}
use Rattle.dump.specs.Wires.{first_code}
use Rattle.dump.specs.Dumps.{changes_from, timed, moment_text}
use Rattle.dump.specs.Writes.{refused, in_front, text_after, no_time, next_of}

-- ---- Times that have twenty digits

pow_positive : (k : ℕ) → 1 ≤ 10 ^ k
pow_positive zero = omega arith
pow_positive (suc k) = omega (arith, pow-suc 10 k, pow_positive k)

one_digit : (t : Bool) (a b : ℕ) → length (cond t (a ∷ []) (b ∷ [])) ≡ 1
one_digit true a b = refl
one_digit false a b = refl

-- From ten to the k on a number has more digits than k, as far as there is room for them.
all_digits : (k n : ℕ) → 10 ^ k ≤ n → length (decimal_up_to (suc k) n) ≡ suc k
unfolding decimal_up_to
all_digits zero n h = one_digit (ltb n 10) _ _
all_digits (suc k) n h =
    ap length (last_digit (suc k) n (omega (arith, pow-suc 10 k, pow_positive k)))
    ∙ length-append (decimal_up_to (suc k) (n / 10)) _
    ∙ (let tenths = all_digits k (n / 10) (omega (arith, pow-suc 10 k)) in omega (arith, tenths))

twenty_digits : (n : ℕ) → 10 ^ 19 ≤ n → length (decimal n) ≡ 20
unfolding decimal
twenty_digits n h = all_digits 19 n h

-- It has no more than there is room for.
up_to : (k n : ℕ) → length (decimal_up_to k n) ≤ k
unfolding decimal_up_to
up_to zero n = omega arith
up_to (suc k) n = by_size (ltb n 10) (up_to k (n / 10)) where
  by_size : (t : Bool) → length (decimal_up_to k (n / 10)) ≤ k
      → length (cond t ((digit0 + n) ∷ []) (decimal_up_to k (n / 10) ++ (digit0 + n % 10) ∷ [])) ≤ suc k
  by_size true tenths = omega arith
  by_size false tenths = simp length-append (omega arith)

pub at_most_twenty : (n : ℕ) → length (decimal n) ≤ 20
unfolding decimal
at_most_twenty n = up_to 20 n

timed_as_long : (s t : ℕ) (changes : List ℕ) → length (decimal s) ≡ length (decimal t) → length (timed s changes) ≡ length (timed t changes)
timed_as_long s t [] e = refl
timed_as_long s t (b ∷ changes) e = simp length-append (omega arith)

pub as_long : (olds values : List Bool) (s t : ℕ) → 10 ^ 19 ≤ s → 10 ^ 19 ≤ t
    → length (moment_text olds (record { time = s; values = values })) ≡ length (moment_text olds (record { time = t; values = values }))
unfolding moment_text
as_long olds values s t h k = timed_as_long s t (changes_from first_code olds values) (twenty_digits s h ∙ sym (twenty_digits t k))

-- ---- What is answered

-- There is no such time where none has passed, and where it would reach 2 ^ 64.
pub none_passed : (dump : Dump) (elapsed : ℕ) → elapsed ≡ 0 → no_time dump elapsed ≡ true
none_passed dump elapsed e = rw (eq-eqb elapsed 0 e)

pub too_late : (dump : Dump) (elapsed : ℕ) → 2 ^ 64 ≤ dump.time + elapsed → no_time dump elapsed ≡ true
too_late dump elapsed h = rw (le-leb (2 ^ 64) (dump.time + elapsed) h) (or-true (eqb elapsed 0))

-- At the time that the code takes for it, the last one below 2 ^ 64 where there is no such time.
module _ (dump : Dump) (elapsed : ℕ) (values : List Bool) (buffer : List ℕ) (time : ℕ) (least : time ≡ min (dump.time + elapsed) (2 ^ 64 - 1)) where
  abbrev text : List ℕ
  text = moment_text dump.values (record { time = time; values = values })

  -- It has as many bytes as what would be written.
  as_many : length text ≡ length (text_after dump elapsed values)
  as_many = by_test (leb (2 ^ 64) (dump.time + elapsed)) refl where
    by_test : (t : Bool) → leb (2 ^ 64) (dump.time + elapsed) ≡ t → length text ≡ length (text_after dump elapsed values)
    by_test true e =
        let late = leb-true (2 ^ 64) (dump.time + elapsed) e in
        as_long dump.values values time (dump.time + elapsed) (omega arith) (omega arith)
    by_test false e =
        let early = leb-false (2 ^ 64) (dump.time + elapsed) e in
        let same : time ≡ dump.time + elapsed = omega arith in
        ap (λ (t : ℕ). length (moment_text dump.values (record { time = t; values = values }))) same

  pub no_room : length buffer < length text → (refused 8 dump, buffer) ≡ next_of dump elapsed values buffer
  unfolding next_of
  no_room h = rw (lt-ltb (length buffer) (length (text_after dump elapsed values)) (omega (arith, as_many)))

  module _ (room : length text ≤ length buffer) where
    pub no_moment : no_time dump elapsed ≡ true → (refused 9 dump, buffer) ≡ next_of dump elapsed values buffer
    unfolding next_of
    no_moment e = rw (le-ltb (length buffer) (length (text_after dump elapsed values)) (omega (arith, as_many)), e)

    pub moment : (elapsed ≡ 0 → ⊥) → dump.time + elapsed < 2 ^ 64
        → in_front (record { time = time; values = values }) text buffer ≡ next_of dump elapsed values buffer
    unfolding next_of
    moment some early =
        let same : time ≡ dump.time + elapsed = omega arith in
        rw (
          le-ltb (length buffer) (length (text_after dump elapsed values)) (omega (arith, as_many)),
          ne_eqb elapsed 0 some,
          lt-leb (2 ^ 64) (dump.time + elapsed) early,
          same,
        )
