-- Requests K3 and K6: an image of either form is taken exactly if its conditions hold, 10 is given exactly if an item is not in range or the
-- length is that of neither form, and 11 exactly if all are in range and a rule is broken. What is loaded is what the image is of; what is refused changes nothing.
-- Assumes nothing.
use Prim.Native.Nat.{ℕ}
use native.Mathlib.Omega.{arith}
use mathlib.Core.Bool.{Bool, true, false, cond, not}
use mathlib.Core.List.{List, [], ◌∷◌}
use mathlib.Core.Logic.{◌↔◌, ◌⊎◌}
use mathlib.Core.Logic.◌⊎◌.{inl, inr}
use mathlib.Core.Path.{◌≡◌, refl, subst, subst⁻¹}
use lib.Dec.{T, eqb, eqb→eq, T_not, not_T}
use lib.ListN.{length}
use borrow.Author.Tests.{ne_eqb}
use Rattle.common.specs.Lowest.{lowest}
use Rattle.forms.specs.Forms.{old_size, HasForm, in_new_form}
use Rattle.forms.proofs.ThereAndBack.{new_form_length, has_form}
use Rattle.controller.specs.declared.State.{State}
use Rattle.image.specs.Xdr.{items_in}
use Rattle.image.specs.Items.{item_count, tops, within}
use Rattle.image.specs.Rules.{rules_hold}
use Rattle.image.specs.Images.{size, new_items, fits, loaded_at, refusal_of, load_of}
use Rattle.image.specs.Conditions.{KeepsRules, InRange, Taken}
use Rattle.image.proofs.Fours.{items_length}
use Rattle.image.proofs.EitherForm.{own_items}
use Rattle.image.proofs.Ranged.{within_up_to, up_to_within}
use Rattle.image.proofs.Strung.{tops_length}
use Rattle.image.proofs.Keeping.{tests_keep, keeps_tests}

-- ---- Two tests, of which the first that fails gives 10 or 11

abbrev given : Bool → Bool → ℕ
given fits keeps = lowest 10 (not fits ∷ not keeps ∷ [])

none_given : (fits keeps : Bool) → given fits keeps ≡ 0 → T fits × T keeps
none_given true true e = (tt, tt)
none_given true false e = absurd (omega arith)
none_given false keeps e = absurd (omega arith)

gives_none : (fits keeps : Bool) → T fits → T keeps → given fits keeps ≡ 0
gives_none true true f k = refl
gives_none true false f k = absurd k
gives_none false keeps f k = absurd f

ten_given : (fits keeps : Bool) → given fits keeps ≡ 10 → T (not fits)
ten_given true true e = absurd (omega arith)
ten_given true false e = absurd (omega arith)
ten_given false keeps e = tt

gives_ten : (fits keeps : Bool) → T (not fits) → given fits keeps ≡ 10
gives_ten true keeps f = absurd f
gives_ten false keeps f = refl

eleven_given : (fits keeps : Bool) → given fits keeps ≡ 11 → T fits × T (not keeps)
eleven_given true true e = absurd (omega arith)
eleven_given true false e = (tt, tt)
eleven_given false keeps e = absurd (omega arith)

gives_eleven : (fits keeps : Bool) → T fits → T (not keeps) → given fits keeps ≡ 11
gives_eleven true true f k = absurd k
gives_eleven true false f k = refl
gives_eleven false keeps f k = absurd f

one_of_three : (fits keeps : Bool) → (given fits keeps ≡ 0) ⊎ (given fits keeps ≡ 10) ⊎ (given fits keeps ≡ 11)
one_of_three true true = inl refl
one_of_three true false = inr (inr refl)
one_of_three false keeps = inr (inl refl)

-- ---- Length and ranges

both : (long ranged : Bool) → T (cond long ranged false) → T long × T ranged
both true ranged h = (tt, h)
both false ranged h = absurd h

module _ (image : List ℕ) where
  -- The test says what `InRange` says, both ways.
  pub fits_in_range : T (fits image) → InRange image
  unfolding fits
  fits_in_range h =
      let parts = both (eqb (length (in_new_form image)) size) (within tops (new_items image)) h in
      record { long = has_form image (eqb→eq (length (in_new_form image)) size parts.0); ranges = within_up_to tops (new_items image) parts.1 }

  -- In the new form it has so many items.
  pub as_many : InRange image → length (new_items image) ≡ item_count
  unfolding new_items
  as_many h = omega (arith, items_length (in_new_form image), new_form_length image h.long)

  pub in_range_within : InRange image → T (within tops (new_items image))
  in_range_within h = up_to_within tops (new_items image) (omega (arith, as_many h, tops_length)) h.ranges

  in_range_fits : InRange image → T (fits image)
  unfolding fits
  in_range_fits h = rw (new_form_length image h.long) (in_range_within h)

  -- What fits and is no old image is a new one.
  module _ (other : length image ≡ old_size → ⊥) (h : fits image ≡ true) where
    pub fitting_is_new : length image ≡ size
    fitting_is_new = by (fits_in_range (subst⁻¹ T h tt)).long
      where
        by : HasForm image → length image ≡ size
        by (inl old) = absurd (other old)
        by (inr new) = new

    pub fitting_is_ranged : T (within tops (items_in image))
    fitting_is_ranged = subst (λ (items : List ℕ). T (within tops items)) (own_items image other) (in_range_within (fits_in_range (subst⁻¹ T h tt)))

  -- ---- The refusal

  keeps : Bool
  keeps = rules_hold (loaded_at 0 image)

  -- An image for which 0 is given keeps to every condition ..
  pub taken_holds : refusal_of image ≡ 0 → Taken image
  unfolding refusal_of keeps
  taken_holds e =
      let parts = none_given (fits image) keeps e in
      record { in_range = fits_in_range parts.0; rules = tests_keep (loaded_at 0 image) parts.1 }

  -- .. and 0 is given for one that does.
  pub holds_taken : Taken image → refusal_of image ≡ 0
  unfolding refusal_of keeps
  holds_taken taken = gives_none (fits image) keeps (in_range_fits taken.in_range) (keeps_tests (loaded_at 0 image) taken.rules)

  -- 10: length or range.
  pub ten_exactly : (refusal_of image ≡ 10) ↔ (¬ InRange image)
  unfolding refusal_of keeps
  ten_exactly = (
    λ e h. T_not (fits image) (ten_given (fits image) keeps e) (in_range_fits h),
    λ h. gives_ten (fits image) keeps (not_T (fits image) (λ f. h (fits_in_range f))),
  )

  -- 11: all are in range, and a rule is broken.
  pub eleven_exactly : (refusal_of image ≡ 11) ↔ (InRange image × (¬ KeepsRules (loaded_at 0 image)))
  unfolding refusal_of keeps
  eleven_exactly = (
    λ e.
        let parts = eleven_given (fits image) keeps e in
        (fits_in_range parts.0, λ k. T_not keeps parts.1 (keeps_tests (loaded_at 0 image) k)),
    λ h. gives_eleven (fits image) keeps (in_range_fits h.0) (not_T keeps (λ k. h.1 (tests_keep (loaded_at 0 image) k))),
  )

  -- No other number is given.
  pub no_other : (refusal_of image ≡ 0) ⊎ (refusal_of image ≡ 10) ⊎ (refusal_of image ≡ 11)
  unfolding refusal_of keeps
  no_other = one_of_three (fits image) keeps

  -- ---- Loading

  -- A taken image gives the controller that it is of, at the new start stamp.
  pub taken_is_loaded :
      Taken image → (before : State) (stamp : ℕ) → load_of before image stamp ≡ record { refusal = 0; state = loaded_at stamp image }
  unfolding load_of
  taken_is_loaded taken before stamp = rw (holds_taken taken)

  -- A refused one leaves the controller as it was.
  pub refused_stays : (¬ Taken image) → (before : State) (stamp : ℕ) → (load_of before image stamp).state ≡ before
  unfolding load_of
  refused_stays refused before stamp = rw (ne_eqb (refusal_of image) 0 (λ e. refused (taken_holds e)))
