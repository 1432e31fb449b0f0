-- Splitting at commas and joining by them undo each other, where no field has a comma of its own.
-- Assumes nothing.
use mathlib.Core.Path.{◌≡◌, refl, sym, ◌∙◌, ap}
use mathlib.Core.Bool.{Bool, true, false, cond}
use mathlib.Core.List.{List, [], ◌∷◌, ◌++◌}
use Prim.Native.Nat.{ℕ, suc, ◌≤◌}
use native.Mathlib.Omega.{arith}
use lib.Dec.{eqb}
use lib.ListN.{length}
use borrow.Author.Tests.{ne_eqb, eqb-true}
use Rattle.common.specs.Ascii.{comma, joined_by_commas}
use Rattle.common.specs.Decimal.{digit0}
use Rattle.trace.specs.Rows.{up_to_comma, on_first, fields_of, fields_from}
use Rattle.trace.proofs.Fields.{split}

-- Every byte is that of a digit or above, so none is a comma.
abbrev pub Over : List ℕ → Type 0
Over [] = Unit {0}
Over (b ∷ bs) = (digit0 ≤ b) × Over bs

abbrev pub AllOver : List (List ℕ) → Type 0
AllOver [] = Unit {0}
AllOver (f ∷ fs) = Over f × AllOver fs

pub over_append : (s t : List ℕ) → Over s → Over t → Over (s ++ t)
over_append [] t p q = q
over_append (b ∷ s) t p q = (p.0, over_append s t p.1 q)

-- A byte that is no comma goes to the first field.
keep : (b : ℕ) (s : List ℕ) → digit0 ≤ b → fields_of (b ∷ s) ≡ on_first b (fields_of s)
unfolding fields_of
keep b s h = let other : b ≡ comma → ⊥ = λ q. omega arith in simp (ne_eqb _ _ other)

-- A field without a comma is one field, and before a comma it is the first.
lone : (f : List ℕ) → Over f → fields_of f ≡ f ∷ []
unfolding fields_of
lone [] h = refl
lone (b ∷ f) h = keep b f h.0 ∙ rw (lone f h.1)

leading : (f s : List ℕ) → Over f → fields_of (f ++ comma ∷ s) ≡ f ∷ fields_of s
unfolding fields_of
leading [] s h = refl
leading (b ∷ f) s h = keep b (f ++ comma ∷ s) h.0 ∙ rw (leading f s h.1)

pub split_joined : (f : List ℕ) (fs : List (List ℕ)) → AllOver (f ∷ fs) → fields_of (joined_by_commas (f ∷ fs)) ≡ f ∷ fs
unfolding joined_by_commas
split_joined f [] h = lone f h.0
split_joined f (g ∷ fs) h = leading f (joined_by_commas (g ∷ fs)) h.0 ∙ ap (λ (gs : List (List ℕ)). f ∷ gs) (split_joined g fs h.1)

-- Joined again, the fields of a text are the text.
joined_first : (b : ℕ) (f : List ℕ) (fs : List (List ℕ)) → joined_by_commas ((b ∷ f) ∷ fs) ≡ b ∷ joined_by_commas (f ∷ fs)
unfolding joined_by_commas
joined_first b f [] = refl
joined_first b f (g ∷ fs) = refl

pub joined_split : (s : List ℕ) → joined_by_commas (fields_of s) ≡ s
unfolding fields_of joined_by_commas
joined_split [] = refl
joined_split (b ∷ s) = by_test (eqb b comma) refl (sym (ap joined_by_commas (split s)) ∙ joined_split s) where
  -- The fields of the rest, of which there is at least one.
  first : List ℕ
  first = up_to_comma s

  others : List (List ℕ)
  others = fields_from s (suc (length (up_to_comma s)))

  by_test : (t : Bool) → eqb b comma ≡ t → joined_by_commas (first ∷ others) ≡ s
      → joined_by_commas (cond t ([] ∷ fields_of s) (on_first b (fields_of s))) ≡ b ∷ s
  by_test true here rest = rw (split s) (rw rest (ap (λ (c : ℕ). c ∷ s) (sym (eqb-true b comma here))))
  by_test false other rest = rw (split s) (joined_first b first others ∙ ap (λ (t : List ℕ). b ∷ t) rest)
