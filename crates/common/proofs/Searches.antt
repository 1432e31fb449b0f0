-- The rules' `some` and `all` are what `any` and `all` of an iterator answer.
-- Assumes nothing.
use Rattle.std.proofs.Common.{◌≡◌, Bool, ◌&&◌, ◌||◌, List, [], ◌∷◌, refl, ap}
use Rattle.std.specs.List.{list_any, list_all}
use Rattle.common.specs.Lists.{some, all}

module _ {A : Type 0} (p : A → Bool) where
  pub some_is_any : (xs : List A) → some p xs ≡ list_any p xs
  unfolding some
  some_is_any [] = refl
  some_is_any (x ∷ xs) = ap (λ (b : Bool). p x || b) (some_is_any xs)

  pub all_is_all : (xs : List A) → all p xs ≡ list_all p xs
  unfolding all
  all_is_all [] = refl
  all_is_all (x ∷ xs) = ap (λ (b : Bool). p x && b) (all_is_all xs)
