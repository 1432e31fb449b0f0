-- What is so of each element of a list: by places, by a test, of two at once, and of parts.
-- Assumes nothing.
use Prim.Native.Nat.{ℕ, zero, suc, ◌<◌}
use native.Mathlib.Omega.{arith}
use mathlib.Core.Bool.{Bool}
use mathlib.Core.List.{List, [], ◌∷◌, ◌++◌}
use lib.Dec.{T}
use lib.ListN.{length, get_or, take, drop}
use mir.Facts.{and_yes, yes_and}
use Rattle.common.specs.Lists.{all, Each}

module _ {A : Type 0} (P : A → Type 0) where
  -- By its place, counted from 0 ..
  pub each_at_index : (d : A) (xs : List A) → Each P xs → (i : ℕ) → i < length xs → P (get_or xs i d)
  each_at_index d [] each i h = absurd (omega arith)
  each_at_index d (x ∷ xs) each zero h = each.0
  each_at_index d (x ∷ xs) each (suc i) h = each_at_index d xs each.1 i (omega arith)

  -- .. and so of each.
  pub each_by_index : (d : A) (xs : List A) → ((i : ℕ) → i < length xs → P (get_or xs i d)) → Each P xs
  each_by_index d [] every = tt
  each_by_index d (x ∷ xs) every = (every 0 (omega arith), each_by_index d xs (λ i h. every (suc i) (omega arith)))

-- What follows is so too.
pub each_so : {A : Type 0} (P Q : A → Type 0) → ((x : A) → P x → Q x) → (xs : List A) → Each P xs → Each Q xs
each_so P Q follows [] each = tt
each_so P Q follows (x ∷ xs) each = (follows x each.0, each_so P Q follows xs each.1)

-- Two that are so give a third.
pub each_of_both : {A : Type 0} (P Q R : A → Type 0) → ((x : A) → P x → Q x → R x) → (xs : List A) → Each P xs → Each Q xs → Each R xs
each_of_both P Q R follows [] one other = tt
each_of_both P Q R follows (x ∷ xs) one other = (follows x one.0 other.0, each_of_both P Q R follows xs one.1 other.1)

-- Every element passes a test exactly if each does.
pub all_each : {A : Type 0} (p : A → Bool) (xs : List A) → T (all p xs) → Each (λ (x : A). T (p x)) xs
unfolding all
all_each p [] h = tt
all_each p (x ∷ xs) h = let parts = and_yes (p x) (all p xs) h in (parts.0, all_each p xs parts.1)

pub each_all : {A : Type 0} (p : A → Bool) (xs : List A) → Each (λ (x : A). T (p x)) xs → T (all p xs)
unfolding all
each_all p [] each = tt
each_all p (x ∷ xs) each = yes_and (p x) (all p xs) each.0 (each_all p xs each.1)

-- ---- Parts

module _ {A : Type 0} (P : A → Type 0) where
  pub each_append : (xs ys : List A) → Each P xs → Each P ys → Each P (xs ++ ys)
  each_append [] ys one other = other
  each_append (x ∷ xs) ys one other = (one.0, each_append xs ys one.1 other)

  pub each_take : (n : ℕ) (xs : List A) → Each P xs → Each P (take n xs)
  each_take zero xs each = tt
  each_take (suc n) [] each = tt
  each_take (suc n) (x ∷ xs) each = (each.0, each_take n xs each.1)

  pub each_drop : (n : ℕ) (xs : List A) → Each P xs → Each P (drop n xs)
  each_drop zero xs each = each
  each_drop (suc n) [] each = tt
  each_drop (suc n) (x ∷ xs) each = each_drop n xs each.1
