-- Both forms (request K6): what is said of an image is said of it in the new form.
-- Assumes nothing.
use Prim.Native.Nat.{ℕ, zero, suc, ◌+◌, ◌*◌, ◌<◌, ◌≤◌}
use native.Mathlib.Omega.{arith}
use mathlib.Core.Bool.{Bool, true, false, cond}
use mathlib.Core.List.{List, ◌++◌, append-nil}
use mathlib.Core.Logic.◌⊎◌.{inl}
use mathlib.Core.Path.{◌≡◌, refl, sym, ap, ◌∙◌}
use Rattle.std.proofs.lemmas.Bool.{eqb-false}
use lib.Dec.{eqb, eqb→eq, lit<}
use lib.ListN.{length, get_or, take, drop, drop_of_length-le}
use lib.Seq.{get_or-take}
use Rattle.common.specs.Lists.{Each}
use Rattle.common.proofs.Each.{each_at_index, each_by_index, each_append, each_take, each_drop}
use Rattle.texts.specs.Puts.{put_of}
use Rattle.texts.proofs.Placing.{did_put, front_line}
use Rattle.forms.specs.Forms.{stamp_bytes, sensors, voter_bytes, old_size, HasForm, eight_zeros, with_zeros, sensors_widened, widened, in_new_form}
use Rattle.forms.proofs.ThereAndBack.{other_is_not_widened, new_form_length, has_stamp, stamp_in_new_form}
use Rattle.controller.specs.declared.State.{State}
use Rattle.image.specs.Xdr.{items_in}
use Rattle.image.specs.Items.{item_at, state_in}
use Rattle.image.specs.Images.{size, new_items, fits, loaded_at, refusal_of, load_of}
use Rattle.image.specs.Faults.{fault_of}
use Rattle.image.specs.Conditions.{AllBytes}
use Rattle.image.proofs.Reading.{item_at_lem}

-- In the new form an image has not the length of the old one ..
pub not_old : (image : List ℕ) → length (in_new_form image) ≡ old_size → ⊥
not_old image e = by (eqb (length image) old_size) refl where
  by : (is_old : Bool) → eqb (length image) old_size ≡ is_old → ⊥
  by true is = omega (arith, new_form_length image (inl (eqb→eq _ _ (rw is tt))), e)
  by false is = let other = eqb-false _ _ is in other (sym (ap length (other_is_not_widened image other)) ∙ e)

-- .. and stays as it is.
pub stays_new : (image : List ℕ) → in_new_form (in_new_form image) ≡ in_new_form image
stays_new image = other_is_not_widened (in_new_form image) (not_old image)

module _ (image : List ℕ) where
  pub same_items : new_items (in_new_form image) ≡ new_items image
  unfolding new_items
  same_items = ap items_in (stays_new image)

  -- It loads as the same controller, at every stamp, ..
  pub same_controller : (stamp : ℕ) → loaded_at stamp (in_new_form image) ≡ loaded_at stamp image
  unfolding loaded_at
  same_controller stamp = ap (state_in stamp) same_items

  -- .. is taken or refused alike, ..
  pub same_refusal : refusal_of (in_new_form image) ≡ refusal_of image
  unfolding refusal_of fits
  same_refusal = rw (stays_new image, same_items, same_controller 0)

  pub same_loading : (before : State) (stamp : ℕ) → load_of before (in_new_form image) stamp ≡ load_of before image stamp
  unfolding load_of
  same_loading before stamp = rw (same_refusal, same_controller stamp)

  -- .. and has the same fault.
  pub same_fault : fault_of (in_new_form image) ≡ fault_of image
  unfolding fault_of
  same_fault = rw (stays_new image, same_items, same_controller 0)

-- Of what is no old image the items are those that it has.
pub own_items : (image : List ℕ) → (length image ≡ old_size → ⊥) → new_items image ≡ items_in image
unfolding new_items
own_items image other = ap items_in (other_is_not_widened image other)

-- An old image that is put into an array of the size of a new one fills it.
pub fills : (image : List ℕ) → length image ≡ old_size → (before : List ℕ) → length before ≡ size → (next : ℕ) (after : List ℕ)
    → (next, after) ≡ put_of before 0 (in_new_form image) → after ≡ in_new_form image
fills image old before room next after put =
    let long = new_form_length image (inl old) in
    let fits : 0 + length (in_new_form image) ≤ length before = omega (arith, long) in
    front_line (did_put fits put)
    ∙ ap (λ (l : List ℕ). in_new_form image ++ l) (drop_of_length-le before {i = length (in_new_form image)} (omega (arith, long)))
    ∙ append-nil (in_new_form image)

-- ---- The stamp

first_byte : (k : ℕ) (one other : List ℕ) → k < 4 → take 4 one ≡ take 4 other → get_or one k 0 ≡ get_or other k 0
first_byte k one other h same = sym (get_or-take 4 one k 0 h) ∙ ap (λ (l : List ℕ). get_or l k 0) same ∙ get_or-take 4 other k 0 h

-- Images that begin with the same four bytes have the same first item.
pub first_item : (one other : List ℕ) → 4 ≤ length one → 4 ≤ length other → take 4 one ≡ take 4 other
    → item_at (items_in one) 0 ≡ item_at (items_in other) 0
first_item one other a b same =
    item_at_lem 0 one a
    ∙ rw (first_byte 0 one other (lit< tt) same, first_byte 1 one other (lit< tt) same, first_byte 2 one other (lit< tt) same, first_byte 3 one other (lit< tt) same)
    (sym (item_at_lem 0 other b))

-- In the new form the last stamp is the same.
pub stamp_item : (image : List ℕ) → HasForm image → item_at (new_items image) 0 ≡ item_at (items_in image) 0
unfolding new_items
stamp_item image form =
    first_item (in_new_form image) image (omega (arith, new_form_length image form)) (has_stamp image form) (stamp_in_new_form image form)

-- ---- Bytes

pub each_byte : (image : List ℕ) → AllBytes image → Each (λ (n : ℕ). n < 256) image
each_byte image = each_by_index (λ (n : ℕ). n < 256) 0 image

zeros_are_bytes : Each (λ (n : ℕ). n < 256) eight_zeros
zeros_are_bytes = (lit< tt, (lit< tt, (lit< tt, (lit< tt, (lit< tt, (lit< tt, (lit< tt, (lit< tt, tt))))))))

bytes_widened : (more : ℕ) (bytes : List ℕ) → Each (λ (n : ℕ). n < 256) bytes → Each (λ (n : ℕ). n < 256) (sensors_widened more bytes)
unfolding with_zeros sensors_widened
bytes_widened zero bytes each = tt
bytes_widened (suc more) bytes each =
    let byte : ℕ → Type 0 = λ n. n < 256 in
    each_append byte (take voter_bytes bytes ++ eight_zeros) (sensors_widened more (drop voter_bytes bytes))
    (each_append byte (take voter_bytes bytes) eight_zeros (each_take byte voter_bytes bytes each) zeros_are_bytes)
    (bytes_widened more (drop voter_bytes bytes) (each_drop byte voter_bytes bytes each))

-- In the new form an image of bytes is of bytes.
pub bytes_in_new_form : (image : List ℕ) → AllBytes image → AllBytes (in_new_form image)
unfolding in_new_form widened
bytes_in_new_form image bytes = by (eqb (length image) old_size)
  where
    byte : ℕ → Type 0
    byte n = n < 256

    old : Each byte (widened image)
    old =
        let each = each_byte image bytes in
        let sensed = sensors_widened sensors (drop stamp_bytes image) in
        each_append byte (take stamp_bytes image ++ sensed) (drop (stamp_bytes + voter_bytes * sensors) image)
        (each_append byte (take stamp_bytes image) sensed (each_take byte stamp_bytes image each)
        (bytes_widened sensors (drop stamp_bytes image) (each_drop byte stamp_bytes image each)))
        (each_drop byte (stamp_bytes + voter_bytes * sensors) image each)

    by : (is_old : Bool) → AllBytes (cond is_old (widened image) image)
    by true = each_at_index byte 0 (widened image) old
    by false = bytes
