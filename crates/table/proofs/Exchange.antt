-- Request K4: two entries that differ and are exchanged change the table's number, and so does one entry that is another.
-- Assumes nothing.
use Prim.Native.Nat.{ℕ, zero, suc, ◌+◌, ◌-◌, ◌*◌, ◌<◌}
use native.Mathlib.Nat.{le_of_suc-le-suc, not-suc-le-zero, mul-lt-mul_of_pos_left}
use native.Mathlib.Omega.{arith}
use mathlib.Core.Bool.{Bool, true, false}
use mathlib.Core.List.{List, [], ◌∷◌}
use mathlib.Core.Path.{◌≡◌, refl, sym, ap}
use borrow.Author.Tests.{ltb-true, ltb-false}
use lib.Dec.{ltb}
use lib.ListN.{length, get_or, set, length-set}
use lib.Seq.{get_or-set_other}
use Rattle.table.specs.Sums.{weighed_from, number_of_all, exchanged}

-- ---- One entry set to another

set_adds : (place : ℕ) (all : List ℕ) (i entry : ℕ) → i < length all
    → weighed_from place (set all i entry) + (place + i) * get_or all i 0 ≡ weighed_from place all + (place + i) * entry
unfolding weighed_from
set_adds place [] i entry h = absurd (not-suc-le-zero h)
set_adds place (e ∷ all) zero entry h = omega arith
set_adds place (e ∷ all) (suc i) entry h = omega (arith, set_adds (suc place) all i entry (le_of_suc-le-suc h))

-- ---- Products

-- Of two numbers that differ one is the smaller.
module _ (P : Type 0) where
  one_below : (a b : ℕ) → ¬ (a ≡ b) → (a < b → P) → (b < a → P) → P
  one_below a b differ less more = by_test (ltb a b) refl where
    by_test : (t : Bool) → ltb a b ≡ t → P
    by_test true e = less (ltb-true a b e)
    by_test false e = more (omega (arith, ltb-false a b e, differ))

times_apart : (k a b : ℕ) → ¬ (a ≡ b) → 0 < k → ¬ (k * a ≡ k * b)
times_apart k a b differ some e =
    one_below ⊥ a b differ
    (λ less. omega (arith, e, mul-lt-mul_of_pos_left less some))
    (λ more. omega (arith, e, mul-lt-mul_of_pos_left more some))

-- The larger weight to the other of two numbers makes another sum.
sums_apart : (i k a b : ℕ) → 0 < k → ¬ (a ≡ b) → ¬ (i * a + (i + k) * b ≡ i * b + (i + k) * a)
sums_apart i k a b some differ e = times_apart k a b differ some (omega (arith, e))

-- ---- The table's number

-- One entry that is another changes it.
pub wrong_entry_changes : (all : List ℕ) (i entry : ℕ) → i < length all → ¬ (get_or all i 0 ≡ entry)
    → ¬ (number_of_all (set all i entry) ≡ number_of_all all)
wrong_entry_changes all i entry h differ e =
    times_apart (1 + i) (get_or all i 0) entry differ (omega arith) (omega (arith, e, set_adds 1 all i entry h))

-- By how much an exchange changes it: the sums without the two entries are the same.
pub exchange_adds : (all : List ℕ) (i j : ℕ) → i < length all → j < length all → ¬ (j ≡ i)
    → number_of_all (exchanged i j all) + (i * get_or all i 0 + j * get_or all j 0) ≡ number_of_all all + (i * get_or all j 0 + j * get_or all i 0)
exchange_adds all i j hi hj apart =
    let a = get_or all i 0 in
    let b = get_or all j 0 in
    let first = set_adds 1 all i b hi in
    let second = rw (get_or-set_other all i j b 0 apart) at (set_adds 1 (set all i b) j a (simp length-set hj)) in
    omega (arith, first, second)

-- Entries that differ, exchanged, change it.
pub exchange_changes : (all : List ℕ) (i j : ℕ) → i < length all → j < length all → ¬ (get_or all i 0 ≡ get_or all j 0)
    → ¬ (number_of_all (exchanged i j all) ≡ number_of_all all)
exchange_changes all i j hi hj differ e =
    let a = get_or all i 0 in
    let b = get_or all j 0 in
    let apart : ¬ (j ≡ i) = λ same. differ (ap (λ (n : ℕ). get_or all n 0) (sym same)) in
    let sums = exchange_adds all i j hi hj apart in
    one_below ⊥ j i apart
    (λ less.
    let back : j + (i - j) ≡ i = omega (arith, less) in
    sums_apart j (i - j) b a (omega (arith, less)) (λ same. differ (sym same)) (rw back (omega (arith, e, sums))))
    (λ more.
    let back : i + (j - i) ≡ j = omega (arith, more) in
    sums_apart i (j - i) a b (omega (arith, more)) differ (rw back (omega (arith, e, sums))))
