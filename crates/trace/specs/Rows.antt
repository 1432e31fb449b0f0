-- Document 01, "The trace and its program" and "Refusal numbers": what a trace row is, and what the row reader answers.
-- Assumes nothing.
use Rattle.std.specs.Prelude.{ℕ, zero, suc, ◌+◌, min, cond, not, Option, Some, None, List, [], ◌∷◌, ◌++◌, leb, ltb, eqb, length, drop}
use Rattle.common.specs.Answers.{Answer, gives, refuses}
use Rattle.common.specs.Ascii.{comma}
use Rattle.trace.specs.Numbers.{number_of, triple_of}

-- The bytes up to the next comma, or to the end.
unfoldable pub up_to_comma : List ℕ → List ℕ
up_to_comma [] = []
up_to_comma (b ∷ bs) = cond (eqb b comma) [] (b ∷ up_to_comma bs)

-- "A field is handed back as a part of the row it stands in": of a row whose bytes lie at a block and an offset, the field that starts at
-- `at`, by its own block, offset and bytes. Past the end it is empty, and lies at the end.
abbrev pub field_part : ℕ × ℕ → List ℕ → ℕ → (ℕ × ℕ) × List ℕ
field_part place row at = ((place.0, place.1 + min at (length row)), up_to_comma (drop at row))

-- A byte more in front of the first field.
abbrev pub on_first : ℕ → List (List ℕ) → List (List ℕ)
on_first b [] = (b ∷ []) ∷ []
on_first b (f ∷ fs) = (b ∷ f) ∷ fs

-- The fields of a row: it is split at its commas.
unfoldable pub fields_of : List ℕ → List (List ℕ)
fields_of [] = [] ∷ []
fields_of (b ∷ bs) = cond (eqb b comma) ([] ∷ fields_of bs) (on_first b (fields_of bs))

-- The fields that stand from a place on; past the row's end there are none.
unfoldable pub fields_from : List ℕ → ℕ → List (List ℕ)
fields_from row at = cond (leb at (length row)) (fields_of (drop at row)) []

-- One reading and then another: the values of both, or the first refusal.
abbrev pub joined : Answer (List ℕ) → Answer (List ℕ) → Answer (List ℕ)
joined (gives xs) (gives ys) = gives (xs ++ ys)
joined (gives xs) (refuses n) = refuses n
joined (refuses n) b = refuses n

-- So many fields of three digits and no more: all their channels, in order.
unfoldable pub triples_of : ℕ → List (List ℕ) → Answer (List ℕ)
triples_of zero [] = gives []
triples_of zero (f ∷ fs) = refuses 5
triples_of (suc n) [] = refuses 5
triples_of (suc n) (f ∷ fs) = joined (triple_of f) (triples_of n fs)

-- What a row in form bears: label, stamp, and the sample of 54 bytes.
pub record Parts : Type 0 where
  pub label : ℕ
  pub stamp : ℕ
  pub sample : List ℕ

-- Label, stamp and sample together, or the first refusal.
abbrev pub parts : Answer ℕ → Answer ℕ → Answer (List ℕ) → Answer Parts
parts (gives l) (gives s) (gives bits) = gives (record { label = l; stamp = s; sample = bits })
parts (gives l) (gives s) (refuses n) = refuses n
parts (gives l) (refuses n) bits = refuses n
parts (refuses n) s bits = refuses n

-- The form: label and stamp, then 18 fields of three digits; twenty fields.
unfoldable pub form_of : List (List ℕ) → Answer Parts
form_of [] = refuses 5
form_of (l ∷ []) = refuses 5
form_of (l ∷ s ∷ ts) = parts (number_of l) (number_of s) (triples_of 18 ts)

-- 7 where the label is not the one due; after 4,294,967,295 none is.
unfoldable pub in_turn : Answer Parts → Option ℕ → Answer Parts
in_turn (refuses n) due = refuses n
in_turn (gives p) None = refuses 7
in_turn (gives p) (Some due) = cond (eqb p.label due) (gives p) (refuses 7)

-- A row that is taken gives its label and its stamp, and leaves its sample in the buffer; a refusal leaves the buffer untouched.
abbrev pub kept : Answer Parts → List ℕ → Answer (ℕ × ℕ) × List ℕ
kept (gives p) buffer = (gives (p.label, p.stamp), p.sample)
kept (refuses n) buffer = (refuses n, buffer)

-- The longest row without its line break: refusal 6 is for a row over 512 bytes.
abbrev pub longest_row : ℕ
longest_row = 512

-- "For a row: 8, 6, 5, then 7. The first that applies is given." The answer, and what the lent buffer then holds.
unfoldable pub read_row : List ℕ → Option ℕ → List ℕ → Answer (ℕ × ℕ) × List ℕ
read_row row due buffer =
    cond (not (eqb (length buffer) 54)) (refuses 8, buffer)
    (cond (ltb longest_row (length row)) (refuses 6, buffer)
    (kept (in_turn (form_of (fields_of row)) due) buffer))
