-- What is wrong with an image, by its cases; and that it is what the refusal says.
-- Assumes nothing.
use Rattle.std.specs.Prelude.{Option, None, Some}
use Rattle.std.specs.Option.{option_map}
use Rattle.std.specs.List.{position}
use Prim.Native.Nat.{ℕ, zero, suc, ◌<◌, ◌≤◌}
use native.Mathlib.Omega.{arith}
use mathlib.Core.Bool.{Bool, true, false, cond, not}
use mathlib.Core.List.{List, [], ◌∷◌}
use mathlib.Core.Logic.◌⊎◌.{inr}
use mathlib.Core.Path.{◌≡◌, refl, sym, ap, subst⁻¹, ◌∙◌}
use borrow.Author.Tests.{eq-eqb, ne_eqb, leb-true, leb-false}
use lib.Dec.{T, eqb, leb}
use lib.ListN.{length}
use Rattle.common.specs.Lowest.{lowest}
use Rattle.forms.specs.Forms.{old_size, in_new_form}
use Rattle.forms.proofs.ThereAndBack.{other_is_not_widened, new_form_length}
use Rattle.controller.specs.declared.State.{State}
use Rattle.image.specs.declared.Fault.TheVariants.{Length, Item, Rule}
use Rattle.image.specs.Xdr.{items_in}
use Rattle.image.specs.Items.{item_count, item_at, tops, within, state_in}
use Rattle.image.specs.Rules.{rule_count, rules, rules_hold}
use Rattle.image.specs.Images.{size, new_items, fits, loaded_at, refusal_of, load_of}
use Rattle.image.specs.Faults.{first_out, first_broken, IsPlace, fault_of, fault_says}
use Rattle.image.proofs.Fours.{items_length}
use Rattle.image.proofs.EitherForm.{own_items}
use Rattle.image.proofs.Searching.{none_out, none_broken, first_broken_place}
use Rattle.image.proofs.Strung.{tops_length}

-- ---- It says what the refusal says

by_tests : (long ranged keeps : Bool) (j k : ℕ)
    → fault_says (cond long (cond ranged (cond keeps None (Some (Rule j))) (Some (Item k))) (Some Length)) ≡ lowest 10 (not (cond long ranged false) ∷ not keeps ∷ [])
by_tests true true true j k = refl
by_tests true true false j k = refl
by_tests true false keeps j k = refl
by_tests false ranged keeps j k = refl

-- The refusal of loading: 0, 10 or 11.
pub fault_says_lem : (image : List ℕ) (before : State) (stamp : ℕ) → fault_says (fault_of image) ≡ (load_of before image stamp).refusal
unfolding fits refusal_of load_of fault_of
fault_says_lem image before stamp =
    by_tests (eqb (length (in_new_form image)) size) (within tops (new_items image)) (rules_hold (loaded_at 0 image)) (first_broken (rules (loaded_at 0 image))) (first_out tops (new_items image))

-- ---- The first item out of its range is out of it, and those before it are not

pub first_out_is_out : (tops items : List ℕ) → length items ≡ length tops → first_out tops items < length tops
    → item_at tops (first_out tops items) < item_at items (first_out tops items)
unfolding first_out
first_out_is_out [] items e h = absurd (omega arith)
first_out_is_out (top ∷ tops) [] e h = absurd (omega arith)
first_out_is_out (top ∷ tops) (item ∷ items) e h = by_test (leb item top) refl h (first_out_is_out tops items (omega arith)) where
  by_test : (t : Bool) → leb item top ≡ t → cond t (suc (first_out tops items)) 0 < suc (length tops)
      → (first_out tops items < length tops → item_at tops (first_out tops items) < item_at items (first_out tops items))
      → item_at (top ∷ tops) (cond t (suc (first_out tops items)) 0) < item_at (item ∷ items) (cond t (suc (first_out tops items)) 0)
  by_test true is h later = later (omega arith)
  by_test false is h later = leb-false item top is

pub before_are_within : (tops items : List ℕ) (k : ℕ) → k < first_out tops items → item_at items k ≤ item_at tops k
unfolding first_out
before_are_within [] items k h = absurd (omega arith)
before_are_within (top ∷ tops) [] k h = absurd (omega arith)
before_are_within (top ∷ tops) (item ∷ items) k h = by_test (leb item top) refl k h (before_are_within tops items) where
  by_test : (t : Bool) → leb item top ≡ t → (k : ℕ) → k < cond t (suc (first_out tops items)) 0
      → ((j : ℕ) → j < first_out tops items → item_at items j ≤ item_at tops j)
      → item_at (item ∷ items) k ≤ item_at (top ∷ tops) k
  by_test true is zero h later = leb-true item top is
  by_test true is (suc k) h later = later k (omega arith)
  by_test false is k h later = absurd (omega arith)

-- ---- By its cases

-- Every rule is kept exactly where none is found broken.
pub rules_kept : (s : State) → rules_hold s ≡ eqb (first_broken (rules s)) rule_count
unfolding rules rules_hold
rules_kept s = none_broken (rules s)

-- The first rule that is broken is the first test that fails.
pub rule_found : (s : State) → IsPlace rule_count (first_broken (rules s)) (position not (rules s))
unfolding rules
rule_found s = first_broken_place (rules s)

-- Of an image of the new form, by its own items.
module _ (image : List ℕ) (long : length image ≡ size) where
  not_old : length image ≡ old_size → ⊥
  not_old old = omega (arith, long, old)

  pub new_form : length (in_new_form image) ≡ size
  new_form = new_form_length image (inr long)

  -- Every item is in its range exactly where none is found out of it.
  pub all_ranged : within tops (new_items image) ≡ eqb (first_out tops (items_in image)) item_count
  all_ranged =
      ap (within tops) (own_items image not_old)
      ∙ rw tops_length at (none_out tops (items_in image) (omega (arith, items_length image, tops_length)))

  pub fits_ranged : fits image ≡ eqb (first_out tops (items_in image)) item_count
  unfolding fits
  fits_ranged = rw (eq-eqb _ _ new_form) all_ranged

  -- The controller that it is of.
  pub own_controller : (stamp : ℕ) → loaded_at stamp image ≡ state_in stamp (items_in image)
  unfolding loaded_at
  own_controller stamp = ap (state_in stamp) (own_items image not_old)

  pub fault_item : (first_out tops (items_in image) ≡ item_count → ⊥) → fault_of image ≡ Some (Item (first_out tops (items_in image)))
  unfolding fault_of
  fault_item out = rw (eq-eqb _ _ new_form, all_ranged, ne_eqb _ _ out, own_items image not_old)

  module _ (ranged : first_out tops (items_in image) ≡ item_count) where
    pub items_ranged : T (within tops (items_in image))
    items_ranged = subst⁻¹ T (sym (ap (within tops) (own_items image not_old)) ∙ all_ranged ∙ eq-eqb _ _ ranged) tt

    pub fault_rule : (first_broken (rules (state_in 0 (items_in image))) ≡ rule_count → ⊥) → fault_of image ≡ Some (Rule (first_broken (rules (state_in 0 (items_in image)))))
    unfolding fault_of
    fault_rule broken =
        rw (eq-eqb _ _ new_form, all_ranged, eq-eqb _ _ ranged, own_controller 0, rules_kept (state_in 0 (items_in image)), ne_eqb _ _ broken)

    pub fault_nothing : first_broken (rules (state_in 0 (items_in image))) ≡ rule_count → fault_of image ≡ None
    unfolding fault_of
    fault_nothing kept =
        rw (eq-eqb _ _ new_form, all_ranged, eq-eqb _ _ ranged, own_controller 0, rules_kept (state_in 0 (items_in image)), eq-eqb _ _ kept)

    -- So it is by the rule that is found broken, if there is one.
    pub fault_last : (found : Option ℕ) → IsPlace rule_count (first_broken (rules (state_in 0 (items_in image)))) found
        → option_map Rule found ≡ fault_of image
    fault_last None kept = sym (fault_nothing kept)
    fault_last (Some k) broken = ap (λ (n : ℕ). Some (Rule n)) broken.0 ∙ sym (fault_rule (λ all. omega (arith, broken.0, broken.1, all)))

-- Of what has the length of neither form.
module _ (image : List ℕ) (old : length image ≡ old_size → ⊥) (new : length image ≡ size → ⊥) where
  no_form : length (in_new_form image) ≡ size → ⊥
  no_form e = new (sym (ap length (other_is_not_widened image old)) ∙ e)

  pub fits_not : fits image ≡ false
  unfolding fits
  fits_not = rw (ne_eqb _ _ no_form)

  pub fault_length : fault_of image ≡ Some Length
  unfolding fault_of
  fault_length = rw (ne_eqb _ _ no_form)
