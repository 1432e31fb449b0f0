-- Request K6: "converting old to new to old, without loading, gives the same bytes"; new to old to new where it is possible; an old image never
-- gets 12; what has the form that is asked for is handed over byte for byte; the stamp is kept; and converting changes no controller: a
-- converted image is taken, and loads as the same at every stamp.
-- Assumes nothing.
use Prim.Native.Nat.{ℕ, ◌≤◌}
use native.Mathlib.Omega.{arith}
use mathlib.Core.List.{List, ◌++◌}
use mathlib.Core.Logic.◌⊎◌.{inl, inr}
use mathlib.Core.Path.{◌≡◌, sym, ap, subst, subst⁻¹, ◌∙◌}
use lib.Dec.{T}
use lib.ListN.{length, take, drop}
use lib.Seq.{take_at}
use Rattle.common.specs.Lists.{Each}
use Rattle.common.proofs.Each.{each_so, each_of_both}
use Rattle.forms.specs.Forms.{old_size, new_size, HasForm, in_new_form, in_old_form, NoneCounted}
use Rattle.forms.proofs.ThereAndBack.{
  new_stays,
  old_stays,
  new_form_length,
  old_form_length,
  has_stamp,
  stamp_in_new_form,
  stamp_in_old_form,
  old_to_new_to_old,
  new_to_old_to_new,
}
use Rattle.voter.specs.declared.Voter.{Voter}
use Rattle.voter.specs.Counts.{KeepsCountRules, NoCountRunsAt}
use Rattle.voter.proofs.Kept.{no_odd_at_0}
use Rattle.controller.specs.declared.State.{State}
use Rattle.image.specs.Xdr.{items_in}
use Rattle.image.specs.Items.{sensor_count, tops, within, sensors_in, item_at, state_in}
use Rattle.image.specs.Images.{loaded_at, refusal_of, load_of}
use Rattle.image.specs.Conditions.{Taken}
use Rattle.image.proofs.EitherForm.{own_items, same_controller, same_refusal, same_loading, first_item}
use Rattle.image.proofs.Exact.{in_range_within, taken_holds, holds_taken}
use Rattle.image.proofs.Uncounted.{old_loads_uncounted, none_runs_none_counted}
use Rattle.converting.specs.Converting.{to_new_of, to_old_of, new_from, old_from, back_refusal_of, AllCountsAre0}
use Rattle.converting.proofs.Exact.{to_new_converts, to_old_converts, twelve_exactly}

-- ---- An old image has no count

old_all_0 : (image : List ℕ) → length image ≡ old_size → AllCountsAre0 image
old_all_0 image old =
    each_so NoCountRunsAt (λ (v : Voter). v.count ≡ 0) (λ v none. none.count) (loaded_at 0 image).voters (old_loads_uncounted image old 0)

-- So it never gets 12.
pub old_never_twelve : (image : List ℕ) → length image ≡ old_size → back_refusal_of image ≡ 12 → ⊥
old_never_twelve image old e = ((twelve_exactly image).0 e).1 (old_all_0 image old)

-- ---- Where all counts are 0 the bytes of odd channels and counts are 0, and nothing is lost in the old form

module _ (image : List ℕ) (taken : Taken image) (none : AllCountsAre0 image) where
  none_runs : Each NoCountRunsAt (loaded_at 0 image).voters
  none_runs =
      each_of_both KeepsCountRules (λ (v : Voter). v.count ≡ 0) NoCountRunsAt no_odd_at_0 (loaded_at 0 image).voters taken.rules.counts_keep none

  none_counted : length image ≡ new_size → NoneCounted image
  unfolding loaded_at state_in
  none_counted new =
      let own = own_items image (λ old. omega (arith, old, new)) in
      none_runs_none_counted image new (subst (λ (items : List ℕ). T (within tops items)) own (in_range_within image taken.in_range))
      (subst (λ (items : List ℕ). Each NoCountRunsAt (sensors_in sensor_count (drop 1 items))) own none_runs)

  same_in_new_form : in_new_form (in_old_form image) ≡ in_new_form image
  same_in_new_form = by taken.in_range.long
    where
      by : HasForm image → in_new_form (in_old_form image) ≡ in_new_form image
      by (inl old) = ap in_new_form (old_stays image old)
      by (inr new) = new_to_old_to_new image new (none_counted new) ∙ sym (new_stays image new)

  old_has_form : HasForm (in_old_form image)
  old_has_form = inl (old_form_length image taken.in_range.long)

  old_form_loads : (before : State) (stamp : ℕ) → load_of before (in_old_form image) stamp ≡ load_of before image stamp
  old_form_loads before stamp =
      sym (same_loading (in_old_form image) before stamp)
      ∙ ap (λ (bytes : List ℕ). load_of before bytes stamp) same_in_new_form
      ∙ same_loading image before stamp

  old_form_taken : Taken (in_old_form image)
  old_form_taken =
      taken_holds (in_old_form image)
      (sym (same_refusal (in_old_form image))
      ∙ ap refusal_of same_in_new_form
      ∙ same_refusal image
      ∙ holds_taken image taken)

  -- ---- To the old form

  module _ (buffer : List ℕ) (room : old_size ≤ length buffer) where
    pub to_old_stands : old_from image buffer ≡ in_old_form image
    to_old_stands =
        ap (λ (answer : ℕ × List ℕ). take old_size answer.1) (to_old_converts image buffer room taken none)
        ∙ take_at (in_old_form image) (drop old_size buffer) old_size (old_form_length image taken.in_range.long)

    -- What is converted is taken, and loads as the same at every stamp, whatever was held before.
    pub to_old_is_taken : Taken (old_from image buffer)
    to_old_is_taken = subst⁻¹ Taken to_old_stands old_form_taken

    pub to_old_loads_the_same : (before : State) (stamp : ℕ) → load_of before (old_from image buffer) stamp ≡ load_of before image stamp
    to_old_loads_the_same before stamp = ap (λ (bytes : List ℕ). load_of before bytes stamp) to_old_stands ∙ old_form_loads before stamp

    -- The last stamp is kept.
    pub to_old_keeps_the_stamp : item_at (items_in (old_from image buffer)) 0 ≡ item_at (items_in image) 0
    to_old_keeps_the_stamp =
        ap (λ (bytes : List ℕ). item_at (items_in bytes) 0) to_old_stands
        ∙ first_item (in_old_form image) image (omega (arith, old_form_length image taken.in_range.long)) (has_stamp image taken.in_range.long)
        (stamp_in_old_form image taken.in_range.long)

    -- An old image is handed over byte for byte.
    pub old_to_old : length image ≡ old_size → old_from image buffer ≡ image
    old_to_old old = to_old_stands ∙ old_stays image old

-- ---- To the new form

module _ (image : List ℕ) (taken : Taken image) where
  new_has_form : HasForm (in_new_form image)
  new_has_form = inr (new_form_length image taken.in_range.long)

  new_form_taken : Taken (in_new_form image)
  new_form_taken = taken_holds (in_new_form image) (same_refusal image ∙ holds_taken image taken)

  module _ (buffer : List ℕ) (room : new_size ≤ length buffer) where
    pub to_new_stands : new_from image buffer ≡ in_new_form image
    to_new_stands =
        ap (λ (answer : ℕ × List ℕ). take new_size answer.1) (to_new_converts image buffer room taken)
        ∙ take_at (in_new_form image) (drop new_size buffer) new_size (new_form_length image taken.in_range.long)

    pub to_new_is_taken : Taken (new_from image buffer)
    to_new_is_taken = subst⁻¹ Taken to_new_stands new_form_taken

    pub to_new_loads_the_same : (before : State) (stamp : ℕ) → load_of before (new_from image buffer) stamp ≡ load_of before image stamp
    to_new_loads_the_same before stamp =
        ap (λ (bytes : List ℕ). load_of before bytes stamp) to_new_stands ∙ same_loading image before stamp

    pub to_new_keeps_the_stamp : item_at (items_in (new_from image buffer)) 0 ≡ item_at (items_in image) 0
    to_new_keeps_the_stamp =
        ap (λ (bytes : List ℕ). item_at (items_in bytes) 0) to_new_stands
        ∙ first_item (in_new_form image) image (omega (arith, new_form_length image taken.in_range.long)) (has_stamp image taken.in_range.long)
        (stamp_in_new_form image taken.in_range.long)

    -- A new image is handed over byte for byte.
    pub new_to_new : length image ≡ new_size → new_from image buffer ≡ image
    new_to_new new = to_new_stands ∙ new_stays image new

-- ---- There and back

-- Every old image that is taken: to the new form, and back into any buffer with room, it is what it was; the bytes past it stay.
pub old_new_old : (image : List ℕ) → Taken image → length image ≡ old_size
    → (there : List ℕ) → new_size ≤ length there → (back : List ℕ) → old_size ≤ length back
    → to_old_of (new_from image there) back ≡ (0, image ++ drop old_size back)
old_new_old image taken old there room back enough =
    let stands = to_new_stands image taken there room in
    let taken_there = to_new_is_taken image taken there room in
    let same : loaded_at 0 (new_from image there) ≡ loaded_at 0 image = ap (loaded_at 0) stands ∙ same_controller image 0 in
    let none : AllCountsAre0 (new_from image there) = subst⁻¹ (λ (s : State). Each (λ (v : Voter). v.count ≡ 0) s.voters) same (old_all_0 image old) in
    to_old_converts (new_from image there) back enough taken_there none
    ∙ ap (λ (bytes : List ℕ). (0, bytes ++ drop old_size back)) (ap in_old_form stands ∙ old_to_new_to_old image old)

-- And every new one that is taken and whose counts are 0.
pub new_old_new : (image : List ℕ) → Taken image → AllCountsAre0 image → length image ≡ new_size
    → (there : List ℕ) → old_size ≤ length there → (back : List ℕ) → new_size ≤ length back
    → to_new_of (old_from image there) back ≡ (0, image ++ drop new_size back)
new_old_new image taken none new there room back enough =
    let stands = to_old_stands image taken none there room in
    to_new_converts (old_from image there) back enough (to_old_is_taken image taken none there room)
    ∙ ap (λ (bytes : List ℕ). (0, bytes ++ drop new_size back)) (ap in_new_form stands ∙ same_in_new_form image taken none ∙ new_stays image new)
