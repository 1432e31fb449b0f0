-- Eighteen triples are read one after the other: each that is taken leaves its channels behind those before it, and the next field comes;
-- one that is refused, or a field too many, refuses the row.
-- Assumes nothing.
use mathlib.Core.Path.{◌≡◌, refl}
use mathlib.Core.Logic.{◌⊎◌, inl, inr}
use mathlib.Core.List.{List, [], ◌++◌, append_assoc, append-nil}
use Prim.Native.Nat.{ℕ, suc, ◌+◌, ◌*◌, ◌-◌, ◌<◌, ◌≤◌}
use native.Mathlib.Omega.{arith}
use native.Mathlib.Nat.{le_of_lt}
use lib.ListN.{length, take, drop}
use lib.Seq.{take_all}
use Rattle.std.proofs.lemmas.Slice.{take-put_mid}
use borrow.Rule.Slice.PartMut.{put_mid}
use Rattle.common.specs.Answers.{Answer, gives, refuses}
use Rattle.trace.specs.Numbers.{triple_of}
use Rattle.trace.specs.Rows.{up_to_comma, fields_from, joined, triples_of}
use Rattle.trace.proofs.Cases.{at_most}
use Rattle.trace.proofs.Fields.{from_past, first_field, field_length, taken_within}

-- A triple that is taken stands within the row.
pub triple_within : (row : List ℕ) (at : ℕ) {xs : List ℕ} → gives xs ≡ triple_of (up_to_comma (drop at row)) → at < length row
unfolding triple_of
triple_within row at h = taken_within triple_of refl row at h

-- A triple that is refused, with some still due.
pub refused_here : (row : List ℕ) (at n : ℕ) → refuses 5 ≡ triple_of (up_to_comma (drop at row)) → triples_of (suc n) (fields_from row at) ≡ refuses 5
unfolding triples_of
refused_here row at n h = by_place (at_most at (length row)) where
  by_place : (at ≤ length row) ⊎ (length row < at) → triples_of (suc n) (fields_from row at) ≡ refuses 5
  by_place (inl q) = rw (first_field row at q, ← h)
  by_place (inr q) = rw (from_past row at q)

-- After a triple that is taken the rest follows.
pub taken_here : (row : List ℕ) (at n : ℕ) {xs : List ℕ} → gives xs ≡ triple_of (up_to_comma (drop at row))
    → triples_of (suc n) (fields_from row at) ≡ joined (gives xs) (triples_of n (fields_from row (at + length (up_to_comma (drop at row)) + 1)))
unfolding triples_of
taken_here row at n h = rw (first_field row at (le_of_lt (triple_within row at h)), ← h)

joined_assoc : (p q : List ℕ) (r : Answer (List ℕ)) → joined (gives p) (joined (gives q) r) ≡ joined (gives (p ++ q)) r
joined_assoc p q (gives ys) = simp append_assoc
joined_assoc p q (refuses n) = refl

-- One turn of the reader: i triples are read, and the next is at `at`.
module _ (row : List ℕ) (at i : ℕ) (due : i < 18) where
  left : 18 - i ≡ suc (18 - (i + 1))
  left = omega arith

  pub turn_refused : (p : List ℕ) → refuses 5 ≡ triple_of (up_to_comma (drop at row))
      → joined (gives p) (triples_of (18 - i) (fields_from row at)) ≡ refuses 5
  turn_refused p h = rw (left, refused_here row at (18 - (i + 1)) h)

  pub turn_taken : (l bits : List ℕ) (k : ℕ) → length l ≡ 54 → length bits ≡ 3 → gives bits ≡ triple_of (up_to_comma (drop at row))
      → joined (gives (take (3 * i) l)) (triples_of (18 - i) (fields_from row at))
      ≡ joined (gives (take (3 * (i + 1)) (put_mid (3 * i) k l bits)))
      (triples_of (18 - (i + 1)) (fields_from row (at + length (up_to_comma (drop at row)) + 1)))
  turn_taken l bits k size three h =
      rw (left, take-put_mid (3 * i) k l bits (3 * (i + 1)) (omega arith) (omega arith), taken_here row at (18 - (i + 1)) h)
      (joined_assoc (take (3 * i) l) bits (triples_of (18 - (i + 1)) (fields_from row (at + length (up_to_comma (drop at row)) + 1))))

-- After eighteen the row must be at its end.
pub all_taken : (row : List ℕ) (at : ℕ) (l : List ℕ) → length l ≡ 54 → length row < at → joined (gives (take 54 l)) (triples_of 0 (fields_from row at)) ≡ gives l
unfolding triples_of
all_taken row at l size h = rw (from_past row at h) (simp (append-nil, take_all 54 l (omega arith)))

pub one_too_many : (row : List ℕ) (at : ℕ) (p : List ℕ) → at ≤ length row → joined (gives p) (triples_of 0 (fields_from row at)) ≡ refuses 5
unfolding triples_of
one_too_many row at p h = rw (first_field row at h)

-- What the reader of eighteen needs at each turn.
pub ruleset triples = (turn_refused, turn_taken, all_taken, one_too_many, triple_within, field_length)
