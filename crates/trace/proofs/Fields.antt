-- A field is told from what follows it byte by byte: each byte that is no comma belongs to it, and a comma or the end stops it.
-- Assumes nothing.
use mathlib.Core.Path.{◌≡◌, refl, sym, ◌∙◌, ap}
use mathlib.Core.Bool.{Bool, true, false, cond}
use mathlib.Core.Logic.{◌⊎◌, inl, inr}
use mathlib.Core.List.{List, [], ◌∷◌}
use Prim.Native.Nat.{ℕ, suc, ◌+◌, ◌-◌, ◌<◌, ◌≤◌, min}
use native.Mathlib.Omega.{arith}
use native.Mathlib.Nat.{le_of_lt}
use lib.Dec.{eqb, leb-suc-suc}
use lib.ListN.{length, take, drop, drop_of_length-le, length-drop}
use lib.Seq.{take-length, drop-drop}
use borrow.Author.Tests.{le-leb, lt-leb}
use Rattle.common.specs.Answers.{Answer, gives, refuses}
use Rattle.common.specs.Ascii.{comma}
use Rattle.spans.specs.Bytes.{slice, index_of}
use Rattle.trace.specs.Rows.{up_to_comma, field_part, on_first, fields_of, fields_from}
use Rattle.trace.proofs.Cases.{at_most, refusal_gives_nothing}

-- The first field of a text is what stands in front of its first comma.
pub in_front : (s : List ℕ) → take (index_of comma s) s ≡ up_to_comma s
unfolding up_to_comma index_of
in_front [] = refl
in_front (b ∷ s) = by_test (eqb b comma) (in_front s) where
  by_test : (t : Bool) → take (index_of comma s) s ≡ up_to_comma s → take (cond t 0 (suc (index_of comma s))) (b ∷ s) ≡ cond t [] (b ∷ up_to_comma s)
  by_test true rest = refl
  by_test false rest = ap (λ (t : List ℕ). b ∷ t) rest

-- So it is where the first comma from a place on is found; past the row's end it is empty.
pub up_to : (row : List ℕ) (at start end : ℕ) → start ≡ min at (length row) → end ≡ start + index_of comma (slice start (length row) row)
    → take (end - start) (drop start row) ≡ up_to_comma (drop at row)
unfolding slice
up_to row at start end from to =
    let from_there : slice start (length row) row ≡ drop at row = ap (drop start) (take-length row) ∙ dropped (at_most at (length row)) in
    let size : end - start ≡ index_of comma (drop at row) = omega (arith, to, ap (index_of comma) from_there) in
    rw (size, dropped (at_most at (length row))) (in_front (drop at row)) where
      dropped : (at ≤ length row) ⊎ (length row < at) → drop start row ≡ drop at row
      dropped (inl q) = let e : start ≡ at = omega arith in rw e
      dropped (inr q) = drop_of_length-le row (omega arith) ∙ sym (drop_of_length-le row (le_of_lt q))

-- A part of the row by its place and its bytes.
pub is_part : (place : ℕ × ℕ) (row : List ℕ) (at start : ℕ) {s : List ℕ} → start ≡ min at (length row) → s ≡ up_to_comma (drop at row)
    → ((place.0, start + place.1), s) ≡ field_part place row at
is_part place row at start p q =
    let o : start + place.1 ≡ place.1 + min at (length row) = omega arith in
    λ i. ((place.0, o i), q i)

-- ---- The fields of a row from a place on

-- Within the row they are those of the text from there; past its end there are none.
pub from_within : (row : List ℕ) (at : ℕ) → at ≤ length row → fields_from row at ≡ fields_of (drop at row)
unfolding fields_from
from_within row at h = simp (le-leb _ _ h)

pub from_past : (row : List ℕ) (at : ℕ) → length row < at → fields_from row at ≡ []
unfolding fields_from
from_past row at h = simp (lt-leb _ _ h)

-- A byte more in front moves the places by one.
shift : (b : ℕ) (bs : List ℕ) (n : ℕ) → fields_from (b ∷ bs) (suc n) ≡ fields_from bs n
unfolding fields_from
shift b bs n = rw leb-suc-suc

-- The fields of a text are its first one, and those from the place after the comma on.
pub split : (s : List ℕ) → fields_of s ≡ up_to_comma s ∷ fields_from s (suc (length (up_to_comma s)))
unfolding fields_of up_to_comma
split [] = sym (ap (λ (fs : List (List ℕ)). [] ∷ fs) (from_past [] 1 (omega arith)))
split (b ∷ bs) = by_test (split bs) (eqb b comma) where
  by_test : fields_of bs ≡ up_to_comma bs ∷ fields_from bs (suc (length (up_to_comma bs))) → (t : Bool)
      → cond t ([] ∷ fields_of bs) (on_first b (fields_of bs))
      ≡ cond t [] (b ∷ up_to_comma bs) ∷ fields_from (b ∷ bs) (suc (length (cond t [] (b ∷ up_to_comma bs))))
  by_test rest true = rw (shift, from_within bs 0 (omega arith))
  by_test rest false = rw (rest, shift)

-- And the same from a place of a row on.
pub first_field : (row : List ℕ) (at : ℕ) → at ≤ length row
    → fields_from row at ≡ up_to_comma (drop at row) ∷ fields_from row (at + length (up_to_comma (drop at row)) + 1)
first_field row at h =
    from_within row at h ∙ split (drop at row)
    ∙ ap (λ (fs : List (List ℕ)). up_to_comma (drop at row) ∷ fs) (onward (at_most (suc k) (length row - at))) where
      k : ℕ
      k = length (up_to_comma (drop at row))

      onward : (suc k ≤ length row - at) ⊎ (length row - at < suc k) → fields_from (drop at row) (suc k) ≡ fields_from row (at + k + 1)
      onward (inl q) =
          let e : at + suc k ≡ at + k + 1 = omega arith in
          from_within (drop at row) (suc k) (simp length-drop (omega arith))
          ∙ ap fields_of (drop-drop (suc k) at row ∙ ap (λ (n : ℕ). drop n row) e)
          ∙ sym (from_within row (at + k + 1) (omega arith))
      onward (inr q) =
          from_past (drop at row) (suc k) (simp length-drop (omega arith)) ∙ sym (from_past row (at + k + 1) (omega arith))

-- A field lies within the row.
pub field_length : (s : List ℕ) → length (up_to_comma s) ≤ length s
unfolding up_to_comma
field_length [] = omega arith
field_length (b ∷ bs) = by_test (field_length bs) (eqb b comma) where
  by_test : length (up_to_comma bs) ≤ length bs → (t : Bool) → length (cond t [] (b ∷ up_to_comma bs)) ≤ suc (length bs)
  by_test rest true = omega arith
  by_test rest false = omega arith

-- What no reader takes when it is empty is taken only within the row.
pub taken_within : {A : Type 0} (reader : List ℕ → Answer A) → reader [] ≡ refuses 5 → (row : List ℕ) (at : ℕ) {x : A}
    → gives x ≡ reader (up_to_comma (drop at row)) → at < length row
unfolding up_to_comma
taken_within reader none row at {x} h = by_place (at_most (suc at) (length row)) where
  by_place : (suc at ≤ length row) ⊎ (length row < suc at) → at < length row
  by_place (inl q) = q
  by_place (inr q) =
      let past : length row ≤ at = omega arith in
      let r : refuses 5 ≡ gives x = sym (h ∙ rw (drop_of_length-le row past) none) in
      refusal_gives_nothing r
