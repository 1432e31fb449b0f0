-- Two texts are the same where they are equal.
-- Assumes nothing.
use mathlib.Core.Path.{◌≡◌, refl, sym, ap, subst}
use mathlib.Core.Bool.{Bool, true, false, ◌&&◌}
use mathlib.Core.List.{List, [], ◌∷◌}
use Prim.Native.Nat.{ℕ}
use lib.Dec.{T, eqb}
use lib.Pointwise.{pointwise}
use borrow.Author.Tests.{eq-eqb, eqb-true}
use Rattle.trace.specs.Header.{same_text}

-- A text is the same as itself, and as no other.
pub same_self : (s : List ℕ) → same_text s s ≡ true
unfolding same_text
same_self [] = refl
same_self (a ∷ s) = rw (eq-eqb a a refl) (same_self s)

pub same_is_equal : (s t : List ℕ) → same_text s t ≡ true → s ≡ t
unfolding same_text
same_is_equal [] [] h = refl
same_is_equal [] (b ∷ t) h = absurd (subst T (sym h) tt)
same_is_equal (a ∷ s) [] h = absurd (subst T (sym h) tt)
same_is_equal (a ∷ s) (b ∷ t) h = by_test (eqb a b) refl (same_is_equal s t) h where
  by_test : (x : Bool) → eqb a b ≡ x → (same_text s t ≡ true → s ≡ t) → x && same_text s t ≡ true → a ∷ s ≡ b ∷ t
  by_test true p rest e = rw (eqb-true a b p, rest e)
  by_test false p rest e = absurd (subst T (sym e) tt)

-- Two texts are compared byte by byte, as slices are.
pub same_by_bytes : (s t : List ℕ) → pointwise eqb s t ≡ same_text s t
unfolding same_text
same_by_bytes [] [] = refl
same_by_bytes [] (b ∷ t) = refl
same_by_bytes (a ∷ s) [] = refl
same_by_bytes (a ∷ s) (b ∷ t) = ap (λ rest. eqb a b && rest) (same_by_bytes s t)
