-- The table's number as it is added up, entry by entry.
-- Assumes nothing.
use Prim.Native.Nat.{ℕ, zero, suc, ◌+◌, ◌*◌, ◌<◌, ◌≤◌}
use native.Mathlib.Nat.{mul-le-mul, zero-add, add-zero, add-suc, suc-add}
use native.Mathlib.Numerals.{add-one}
use native.Mathlib.Omega.{arith}
use mathlib.Core.List.{flatten}
use mathlib.Core.Path.{◌≡◌, refl, sym, ap, ◌∙◌}
use Rattle.common.specs.Lists.{given_from}
use Rattle.sequence.specs.declared.Place.{Place}
use Rattle.sequence.specs.Moves.{at_aim, next_gears, doors_to_gears, doors_home, move_of, aim_in_force}
use Rattle.sequence.specs.Numbers.{doors_at, gears_at}
use Rattle.sequence.proofs.Numbering.{doors_to_3, gears_to_3}
use Rattle.table.specs.Sums.{weighed_from, weighed_at, table_number}
use Rattle.table.specs.Table.{entries, facts_at, asked_at, next_of, place_number, ruled_at, row_at, table}

-- The 64 rows, one behind the other, are the 1,024 entries.
pub rows_are_entries : flatten table ≡ given_from ruled_at 0 entries
unfolding given_from flatten row_at table
rows_are_entries = refl

-- One more entry.
module _ (entry : ℕ → ℕ) where
  one_more : (first place k : ℕ)
      → weighed_from place (given_from entry first (suc k)) ≡ weighed_from place (given_from entry first k) + (place + k) * entry (first + k)
  unfolding given_from weighed_from
  one_more first place zero = rw (add-zero first) (omega arith)
  one_more first place (suc k) =
      let next : suc first + k ≡ first + suc k = suc-add first k ∙ sym (add-suc first k) in
      omega (arith, rw next at (one_more (suc first) (suc place) k))

-- What the first entries add up to.
abbrev pub sum_of : ℕ → ℕ
sum_of n = weighed_from 1 (given_from ruled_at 0 n)

pub no_entries : sum_of 0 ≡ 0
unfolding given_from weighed_from
no_entries = refl

-- A turn of a loop that counts them.
pub sum_turn : (n : ℕ) → sum_of n + weighed_at n ≡ sum_of (n + 1)
sum_turn n = rw (add-one n) (omega (arith, rw (zero-add n) at (one_more ruled_at 0 1 n)))

pub all_entries_summed : sum_of entries ≡ table_number
unfolding table_number
all_entries_summed = ap (weighed_from 1) (sym rows_are_entries)

-- ---- Room

pub place_to_15 : (p : Place) → place_number p ≤ 15
unfolding place_number
place_to_15 p = omega (arith, doors_to_3 p.doors, gears_to_3 p.gears)

-- No entry adds more than 1,024 times 15.
pub weighed_to : (n : ℕ) → n < entries → weighed_at n ≤ 15360
unfolding ruled_at
weighed_to n h = mul-le-mul {n₂ = 1024} {m₂ = 15} (omega (arith, h)) (place_to_15 (next_of (asked_at n)))

-- ---- The number

-- The table's number, computed.
pub table_number_lem : table_number ≡ 4087680
unfolding at_aim next_gears doors_to_gears doors_home move_of aim_in_force doors_at gears_at
    given_from facts_at asked_at next_of place_number ruled_at row_at table flatten weighed_from table_number
table_number_lem = refl

-- What adding up uses: no entries, one more, all of them, and the most that one adds.
pub ruleset added_up = (no_entries, sum_turn, all_entries_summed, weighed_to)
