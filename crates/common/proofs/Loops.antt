-- Loops over a list, one element a turn: what a turn adds to `each_from`.
-- Assumes nothing.
use mathlib.Core.List.{List, [], ◌∷◌}
use mathlib.Core.Path.{◌≡◌, refl, sym, ap, ◌∙◌}
use Prim.Native.Nat.{ℕ, zero, suc, ◌+◌, ◌<◌, ◌≤◌}
use native.Mathlib.Nat.{add-zero, zero-add, add-suc, suc-add, le_of_suc-le-suc, not-suc-le-zero}
use native.Mathlib.Numerals.{add-one}
use lib.ListN.{length, get_or, set}
use Rattle.common.specs.Lists.{each_from}

module _ {A : Type 0} where
  -- ---- A function at each element, in place

  -- The function at the first i elements, where the first has place k.
  abbrev pub up_to : (ℕ → A → A) → ℕ → ℕ → List A → List A
  up_to f k zero xs = xs
  up_to f k (suc i) [] = []
  up_to f k (suc i) (x ∷ xs) = f k x ∷ up_to f (suc k) i xs

  pub up_to_length : (f : ℕ → A → A) (k i : ℕ) (xs : List A) → length (up_to f k i xs) ≡ length xs
  up_to_length f k zero xs = refl
  up_to_length f k (suc i) [] = refl
  up_to_length f k (suc i) (x ∷ xs) = ap suc (up_to_length f (suc k) i xs)

  -- Element i is not changed yet.
  pub up_to_next : (f : ℕ → A → A) (k i : ℕ) (xs : List A) (d : A) → get_or (up_to f k i xs) i d ≡ get_or xs i d
  up_to_next f k zero xs d = refl
  up_to_next f k (suc i) [] d = refl
  up_to_next f k (suc i) (x ∷ xs) d = up_to_next f (suc k) i xs d

  turn_from : (f : ℕ → A → A) (k i : ℕ) (xs : List A) (d : A) → i < length xs → set (up_to f k i xs) i (f (k + i) (get_or xs i d)) ≡ up_to f k (suc i) xs
  turn_from f k i [] d h = absurd (not-suc-le-zero h)
  turn_from f k zero (x ∷ xs) d h = ap (λ (n : ℕ). f n x ∷ xs) (add-zero k)
  turn_from f k (suc i) (x ∷ xs) d h =
      ap (◌∷◌ (f k x))
      (ap (λ (n : ℕ). set (up_to f (suc k) i xs) i (f n (get_or xs i d))) (add-suc k i ∙ sym (suc-add k i)) ∙ turn_from f (suc k) i xs d (le_of_suc-le-suc h))

  -- A turn puts the function's value at place i.
  pub up_to_turn : (f : ℕ → A → A) (i : ℕ) (xs : List A) (d : A) → i < length xs → set (up_to f 0 i xs) i (f i (get_or xs i d)) ≡ up_to f 0 (i + 1) xs
  up_to_turn f i xs d h =
      ap (λ (n : ℕ). set (up_to f 0 i xs) i (f n (get_or xs i d))) (sym (zero-add i)) ∙ turn_from f 0 i xs d h ∙ ap (λ (n : ℕ). up_to f 0 n xs) (sym (add-one i))

  -- After the last turn it is the function at each element.
  pub up_to_all : (f : ℕ → A → A) (k i : ℕ) (xs : List A) → length xs ≤ i → up_to f k i xs ≡ each_from f k xs
  unfolding each_from
  up_to_all f k zero [] h = refl
  up_to_all f k zero (x ∷ xs) h = absurd (not-suc-le-zero h)
  up_to_all f k (suc i) [] h = refl
  up_to_all f k (suc i) (x ∷ xs) h = ap (◌∷◌ (f k x)) (up_to_all f (suc k) i xs (le_of_suc-le-suc h))

  -- ---- An element within a list

  -- Within a list, what stands past its end does not matter.
  pub get_or_within : (xs : List A) (i : ℕ) (d e : A) → i < length xs → get_or xs i d ≡ get_or xs i e
  get_or_within [] i d e h = absurd (not-suc-le-zero h)
  get_or_within (x ∷ xs) zero d e h = refl
  get_or_within (x ∷ xs) (suc i) d e h = get_or_within xs i d e (le_of_suc-le-suc h)
