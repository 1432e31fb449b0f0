-- A row is in form where its first two fields are numbers and the rest are triples; else it is refused at the first that is none.
-- Assumes nothing.
use mathlib.Core.Path.{◌≡◌, ◌∙◌, refl}
use mathlib.Core.Logic.{◌⊎◌, inl, inr}
use mathlib.Core.List.{List, [], ◌∷◌}
use Prim.Native.Nat.{ℕ, ◌+◌, ◌<◌, ◌≤◌}
use native.Mathlib.Nat.{le_of_lt}
use native.Mathlib.Numerals.{add-one}
use lib.ListN.{length, drop}
use borrow.Author.Tests.{eq-eqb, le-ltb}
use Rattle.std.specs.Prelude.{Option, Some, None, not, true}
use native.Mathlib.Omega.{arith}
use Rattle.std.specs.Option.{option_eq}
use Rattle.std.proofs.lemmas.Bool.Decides.{nat_tests}
use lib.Dec.{eqb}
use Rattle.common.specs.Answers.{Answer, gives, refuses}
use Rattle.trace.specs.Numbers.{number_of}
use Rattle.trace.specs.Rows.{up_to_comma, fields_of, fields_from, triples_of, Parts, parts, form_of, in_turn, kept, longest_row, read_row}
use Rattle.trace.proofs.Cases.{at_most}
use Rattle.trace.proofs.Fields.{from_past, split, first_field, field_length, taken_within}

-- A number that is taken stands within the row.
pub number_within : (row : List ℕ) (at : ℕ) {n : ℕ} → gives n ≡ number_of (up_to_comma (drop at row)) → at < length row
unfolding number_of
number_within row at h = taken_within number_of refl row at h

module _ (row : List ℕ) where
  -- Where the second field starts.
  abbrev at : ℕ
  at = length (up_to_comma row) + 1

  fields : fields_of row ≡ up_to_comma row ∷ fields_from row at
  fields = rw add-one (split row)

  pub label_refused : refuses 5 ≡ number_of (up_to_comma row) → form_of (fields_of row) ≡ refuses 5
  unfolding form_of
  label_refused h = rw fields (any_rest (fields_from row at)) where
    any_rest : (fs : List (List ℕ)) → form_of (up_to_comma row ∷ fs) ≡ refuses 5
    any_rest [] = refl
    any_rest (f ∷ fs) = rw (← h)

  module _ (l : ℕ) (labelled : gives l ≡ number_of (up_to_comma row)) where
    pub stamp_refused : refuses 5 ≡ number_of (up_to_comma (drop at row)) → form_of (fields_of row) ≡ refuses 5
    unfolding form_of
    stamp_refused h = rw fields (by_place (at_most at (length row))) where
      by_place : (at ≤ length row) ⊎ (length row < at) → form_of (up_to_comma row ∷ fields_from row at) ≡ refuses 5
      by_place (inl q) = rw (first_field row at q, ← labelled, ← h)
      by_place (inr q) = rw (from_past row at q)

    pub both_read : (s : ℕ) → gives s ≡ number_of (up_to_comma (drop at row))
        → form_of (fields_of row)
        ≡ parts (gives l) (gives s) (triples_of 18 (fields_from row (at + length (up_to_comma (drop at row)) + 1)))
    unfolding form_of
    both_read s h = rw (fields, first_field row at (le_of_lt (number_within row at h)), ← labelled, ← h)

    pub sample_refused : (s : ℕ) → gives s ≡ number_of (up_to_comma (drop at row))
        → refuses 5 ≡ triples_of 18 (fields_from row (at + length (up_to_comma (drop at row)) + 1)) → form_of (fields_of row) ≡ refuses 5
    sample_refused s h k = both_read s h ∙ rw (← k)

    pub all_read : (s : ℕ) (bits : List ℕ) → gives s ≡ number_of (up_to_comma (drop at row))
        → gives bits ≡ triples_of 18 (fields_from row (at + length (up_to_comma (drop at row)) + 1))
        → form_of (fields_of row) ≡ gives (record { label = l; stamp = s; sample = bits })
    all_read s bits h k = both_read s h ∙ rw (← k)

-- What the reader of a row needs.
pub ruleset form = (label_refused, stamp_refused, sample_refused, all_read, number_within, field_length)

-- With a buffer of 54 bytes and a row that is not too long, form and label decide.
pub by_form : (row : List ℕ) (due : Option ℕ) (buffer : List ℕ) {form : Answer Parts} → length buffer ≡ 54 → length row ≤ longest_row
    → form ≡ form_of (fields_of row) → read_row row due buffer ≡ kept (in_turn form due) buffer
unfolding read_row
by_form row due buffer size short h = simp (eq-eqb _ _ size, le-ltb _ _ short, ← h)

-- Where another label is due, or none.
pub not_due : (due : Option ℕ) (p : Parts) → not (option_eq eqb due (Some p.label)) ≡ true → in_turn (gives p) due ≡ refuses 7
unfolding in_turn
not_due None p h = refl
not_due (Some d) p h = grind (arith, nat_tests)
