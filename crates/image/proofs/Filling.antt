-- An array that is filled one element a turn: after i turns the first i are those wanted.
-- Assumes nothing.
use Prim.Native.Nat.{ℕ, ◌+◌, ◌<◌, ◌≤◌}
use native.Mathlib.Nat.{zero-add}
use native.Mathlib.Numerals.{add-one}
use mathlib.Core.List.{List, append-nil}
use mathlib.Core.Path.{◌≡◌, sym, ap, ap₂, ◌∙◌}
use lib.ListN.{length, get_or, set, drop_of_length-le}
use lib.Seq.{paste, paste-suc, take_all}

module _ {A : Type 0} (these others : List A) (i : ℕ) {now : List A} (so_far : now ≡ paste others 0 these i) where
  pub one_more : {a : A} (d : A) → a ≡ get_or these i d → i < length others → i < length these → set now i a ≡ paste others 0 these (i + 1)
  one_more d e room more =
      ap₂ (λ (l : List A) (a : A). set l i a) so_far e
      ∙ ap (λ (k : ℕ). set (paste others 0 these i) k (get_or these i d)) (sym (zero-add i))
      ∙ paste-suc others 0 these i d (rw (zero-add i) room) more
      ∙ ap (λ (k : ℕ). paste others 0 these k) (sym (add-one i))

  pub all_of_them : length others ≤ i → length these ≤ i → now ≡ these
  all_of_them room all = so_far ∙ rw (zero-add i, take_all i these all, drop_of_length-le others room) (append-nil these)
