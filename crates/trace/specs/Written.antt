-- Document 01, "The trace and its program": a row of the form as it is written. The laws say that these rows and no others are taken.
-- Assumes nothing.
use Rattle.std.specs.Prelude.{ℕ, zero, suc, ◌+◌, ◌≤◌, ◌≡◌, Option, Some, List, [], ◌∷◌, length}
use Rattle.common.specs.Ascii.{joined_by_commas}
use Rattle.common.specs.Decimal.{decimal, digit0}
use Rattle.trace.specs.Numbers.{greatest}

-- So many fields of three digits, one for each three channels.
unfoldable pub triple_texts : ℕ → List ℕ → List (List ℕ)
triple_texts zero bits = []
triple_texts (suc n) [] = []
triple_texts (suc n) (a ∷ []) = []
triple_texts (suc n) (a ∷ b ∷ []) = []
triple_texts (suc n) (a ∷ b ∷ c ∷ bits) =
    ((digit0 + a) ∷ (digit0 + b) ∷ (digit0 + c) ∷ []) ∷ triple_texts n bits

-- Label and stamp, then 18 fields of three digits.
unfoldable pub row_text : ℕ → ℕ → List ℕ → List ℕ
row_text label stamp bits = joined_by_commas (decimal label ∷ decimal stamp ∷ triple_texts 18 bits)

-- Every byte is 0 or 1.
abbrev pub AllBits : List ℕ → Type 0
AllBits [] = Unit {0}
AllBits (b ∷ bs) = (b ≤ 1) × AllBits bs

-- A row of the form, with what it bears.
pub record InForm (row : List ℕ) (label stamp : ℕ) (bits : List ℕ) : Type 0 where
  pub label_fits : label ≤ greatest
  pub stamp_fits : stamp ≤ greatest
  pub whole : length bits ≡ 54
  pub only_bits : AllBits bits
  pub text : row ≡ row_text label stamp bits

-- What is taken is a row of the form whose label was due, read into a buffer of 54 bytes.
pub record TakenRight (row : List ℕ) (due : Option ℕ) (buffer : List ℕ) (l s : ℕ) (after : List ℕ) : Type 0 where
  pub in_form : InForm row l s after
  pub was_due : due ≡ Some l
  pub room : length buffer ≡ 54
