-- The lines of a dump: where something changes, where nothing does, from a wire on; the digits of a time; and the values and times
-- of moments that rise.
-- Assumes nothing.
use Prim.Native.Nat.{ℕ, zero, suc, ◌+◌, ◌/◌, ◌%◌, ◌^◌, ◌<◌, ◌≤◌}
use native.Mathlib.Nat.{add-zero, add-suc, suc-add}
use native.Mathlib.Omega.{arith}
use mathlib.Core.Bool.{Bool, true, false, cond, true≢false, false≢true}
use mathlib.Core.List.{List, [], ◌∷◌, ◌++◌}
use mathlib.Core.Path.{◌≡◌, refl, ◌∙◌}
use lib.ListN.{length, take, drop, get_or}
use lib.Seq.{drop-cons}
use Rattle.common.specs.Decimal.{digit0, decimal}
use Rattle.common.proofs.Decimals.{decimal_one, decimal_more}
use Rattle.dump.specs.Dumps.{Moment, RisesFrom, lines_from, value_line, value_lines, differ, change_line, changes_from}
use Rattle.readback.specs.Bytes.{with_digit}
use Rattle.readback.specs.Values.{same_values}

-- ---- One wire

-- A value that does not change is the same.
pub not_other : (old new : Bool) → differ old new ≡ false → old ≡ new
not_other true true e = refl
not_other true false e = absurd (true≢false e)
not_other false true e = absurd (true≢false e)
not_other false false e = refl

-- ---- All wires

-- The same values are equal.
pub same_equal : (us vs : List Bool) → same_values us vs ≡ true → us ≡ vs
unfolding same_values
same_equal [] [] e = refl
same_equal [] (v ∷ vs) e = absurd (false≢true e)
same_equal (u ∷ us) [] e = absurd (false≢true e)
same_equal (u ∷ us) (v ∷ vs) e = by_test (differ u v) refl (same_equal us vs) e where
  by_test : (t : Bool) → differ u v ≡ t → (same_values us vs ≡ true → us ≡ vs)
      → cond t false (same_values us vs) ≡ true
      → u ∷ us ≡ v ∷ vs
  by_test true o rest e' = absurd (false≢true e')
  by_test false o rest e' = cc (not_other u v o, rest e')

-- Values that stay write no line.
pub changes_none : (code : ℕ) (vs : List Bool) → changes_from code vs vs ≡ []
unfolding changes_from
changes_none code [] = refl
changes_none code (true ∷ vs) = changes_none (suc code) vs
changes_none code (false ∷ vs) = changes_none (suc code) vs

-- Values that are not the same write one.
pub changes_some : (code : ℕ) (us vs : List Bool) → length us ≡ length vs → same_values us vs ≡ false
    → 0 < length (changes_from code us vs)
unfolding changes_from same_values
changes_some code [] [] h e = absurd (true≢false e)
changes_some code [] (v ∷ vs) h e = absurd (omega arith)
changes_some code (u ∷ us) [] h e = absurd (omega arith)
changes_some code (u ∷ us) (v ∷ vs) h e =
    by_test (differ u v) (changes_some (suc code) us vs (omega arith)) e where
      by_test : (t : Bool) → (same_values us vs ≡ false → 0 < length (changes_from (suc code) us vs))
          → cond t false (same_values us vs) ≡ false
          → 0 < length (cond t (value_line code v) [] ++ changes_from (suc code) us vs)
      by_test true rest e' = omega arith
      by_test false rest e' = rest e'

-- ---- Values of all wires

-- From a wire on: its line, and those of the others.
pub values_at : (code i : ℕ) (values : List Bool) → i < length values
    → value_lines (code + i) (drop i values) ≡ value_line (code + i) (get_or values i false) ++ value_lines (code + suc i) (drop (suc i) values)
unfolding lines_from
values_at code i values h = rw (drop-cons values i false h, add-suc code i)

-- ---- Changed wires, from one on

-- A wire that does not change has no line.
pub no_line : (code : ℕ) (value : Bool) → change_line code value value ≡ []
no_line code true = refl
no_line code false = refl

-- Wires in front that do not change are passed over.
pub changes_past : (k code : ℕ) (olds news : List Bool) → take k olds ≡ take k news
    → changes_from code olds news ≡ changes_from (code + k) (drop k olds) (drop k news)
unfolding changes_from
changes_past zero code olds news e = rw (add-zero code)
changes_past (suc k) code [] news e = refl
changes_past (suc k) code (old ∷ olds) [] e = cc
changes_past (suc k) code (old ∷ olds) (new ∷ news) e =
    let same : old ≡ new = cc in
    rw (same, no_line code new, add-suc code k, ← suc-add code k) (changes_past k (suc code) olds news (cc))

-- From a wire that changes on: its line, and the changes of the others.
pub changes_at : (code i : ℕ) (olds news : List Bool) → i < length olds → i < length news
    → differ (get_or olds i false) (get_or news i false) ≡ true
    → changes_from (code + i) (drop i olds) (drop i news)
    ≡ value_line (code + i) (get_or news i false) ++ changes_from (code + suc i) (drop (suc i) olds) (drop (suc i) news)
unfolding changes_from
changes_at code i olds news h k e =
    rw (drop-cons olds i false h, drop-cons news i false k, add-suc code i, e)

-- ---- The digits of a time

-- The digits of a number so far, before the first of which it is 0.
abbrev pub digits_of : ℕ → List ℕ
digits_of zero = []
digits_of (suc n) = decimal (suc n)

pub digits_are : (n : ℕ) → 0 < n → digits_of n ≡ decimal n
digits_are zero h = absurd (omega arith)
digits_are (suc n) h = refl

-- One more digit stands behind them.
pub one_more_digit : (n b : ℕ) → digit0 ≤ b → b ≤ digit0 + 9 → 0 < with_digit n b → with_digit n b < 2 ^ 64
    → digits_of (with_digit n b) ≡ digits_of n ++ b ∷ []
one_more_digit zero b low high some fits =
    let byte : digit0 + with_digit 0 b ≡ b = omega arith in
    digits_are (with_digit 0 b) some ∙ decimal_one (with_digit 0 b) (omega arith) ∙ rw byte
one_more_digit (suc n) b low high some fits =
    let tens : with_digit (suc n) b / 10 ≡ suc n = omega arith in
    let byte : digit0 + with_digit (suc n) b % 10 ≡ b = omega arith in
    digits_are (with_digit (suc n) b) some ∙ decimal_more (with_digit (suc n) b) fits (omega arith) ∙ rw (tens, byte)

-- ---- Times that rise

-- What follows a time follows each before it.
pub rises_sooner : (s t : ℕ) (ms : List Moment) → s ≤ t → RisesFrom t ms → RisesFrom s ms
rises_sooner s t [] h rise = tt
rises_sooner s t (m ∷ ms) h rise = (omega arith, rise.1, rise.2, rise.3)
