-- Requests K3 and K6: saving then loading gives the same controller but for the stamp. Loading then saving gives the same image, in the new
-- form, but for the stamp. What is allowed saves to an image that is taken, and an image that is taken loads as what is allowed.
-- Assumes nothing.
use Prim.Native.Nat.{ℕ, zero, suc, ◌-◌, ◌%◌, ◌^◌, ◌≤◌, ◌<◌}
use native.Mathlib.Omega.{arith}
use mathlib.Core.Bool.{Bool, ◌&&◌}
use mathlib.Core.List.{List, [], ◌∷◌, ◌++◌, map}
use mathlib.Core.Logic.◌⊎◌.{inr}
use mathlib.Core.Path.{◌≡◌, sym, ◌∙◌, ap}
use lib.Dec.{T, leb, ltb, ltb→lt, le→leb, lit<}
use lib.ListN.{length, drop}
use lib.Seq.{drop-cons}
use mir.Facts.{and_yes, yes_and}
use Rattle.common.specs.Bits.{bit}
use Rattle.common.specs.Lists.{Each}
use Rattle.common.specs.Tests.{every}
use Rattle.forms.specs.Forms.{in_new_form}
use Rattle.forms.proofs.ThereAndBack.{new_form_length}
use Rattle.voter.specs.declared.Voter.{Voter}
use Rattle.voter.specs.Counts.{CountInRange}
use Rattle.sensors.specs.Items.{sensor_items, sensor_tops}
use Rattle.common.proofs.Bits.{bit_to_1}
use Rattle.sensors.proofs.Mirrors.{items_in_range}
use Rattle.sequence.specs.Numbers.{doors_number, gears_number, last_number as last_place}
use Rattle.sequence.proofs.Numbering.{doors_to_3, gears_to_3}
use Rattle.orders.specs.declared.Order.{Order}
use Rattle.orders.specs.declared.Orders.{Orders}
use Rattle.controller.specs.declared.Core.{Core}
use Rattle.controller.specs.declared.State.{State}
use Rattle.controller.specs.Answers.{Answer}
use Rattle.controller.specs.Start.{started_at}
use Rattle.image.specs.Xdr.{four_bytes, bytes_of, items_in}
use Rattle.image.specs.Items.{
  sensor_count,
  first_order,
  item_count,
  sensors_items,
  order_items,
  orders_items,
  rest_items,
  core_items,
  items_of,
  sensors_tops,
  last_cause,
  core_tops,
  tops,
  within,
  item_at,
  state_in,
}
use Rattle.orders.specs.Timing.{oldest}
use Rattle.image.specs.Images.{size, new_items, image_of, loaded_at, load_of}
use Rattle.image.specs.Conditions.{AgesTo60000, CausesTo13, Allowed, AllBelow, AllBytes, Taken}
use Rattle.image.proofs.Fours.{items_back, each_below, bytes_back, bytes_of_rest, bytes_length}
use Rattle.image.proofs.Ranged.{UpTo, within_length, within_up_to, up_to_within, within_joined}
use Rattle.image.proofs.Mirrors.{controller_back, counts_within, core_within as core_items_within, items_mirror}
use Rattle.image.proofs.Strung.{items_of_length, sensors_length}
use Rattle.image.proofs.Keeping.{started_keeps}
use Rattle.image.proofs.Exact.{as_many, in_range_within, taken_is_loaded}
use Rattle.image.proofs.EitherForm.{own_items, stamp_item, bytes_in_new_form}

-- ---- The items of an allowed controller are in their ranges

-- One item in its range, and the rest in theirs.
and_next : (item top : ℕ) (rest : Bool) → item ≤ top → T rest → T (leb item top && rest)
and_next item top rest h more = yes_and (leb item top) rest (le→leb item top h) more

sensors_within : (voters : List Voter) → Each CountInRange voters → T (within (sensors_tops (length voters)) (sensors_items voters))
unfolding sensors_tops sensors_items within
sensors_within [] counted = tt
sensors_within (v ∷ voters) counted =
    let own = items_in_range v counted.0 in
    within_joined sensor_tops (sensors_tops (length voters)) (sensor_items v) (sensors_items voters)
    (up_to_within sensor_tops (sensor_items v) own.long own.ranges) (sensors_within voters counted.1)

order_within : (o : Order) → o.age ≤ oldest → T (within (1 ∷ oldest ∷ []) (order_items o))
unfolding order_items within
order_within o aged = and_next (bit o.on) 1 _ (bit_to_1 o.on) (and_next o.age oldest _ aged tt)

rest_within :
    (c : Core) →
    c.since ≤ oldest →
    c.cause ≤ last_cause →
    T (within (oldest ∷ last_place ∷ last_place ∷ last_cause ∷ []) (rest_items c))
unfolding rest_items within
rest_within c aged caused =
    and_next c.since oldest _ aged
    (and_next (doors_number c.place.doors) last_place _ (doors_to_3 c.place.doors)
    (and_next (gears_number c.place.gears) last_place _ (gears_to_3 c.place.gears)
    (and_next c.cause last_cause _ caused tt)))

core_within : (s : State) → AgesTo60000 s → CausesTo13 s → T (within core_tops (core_items s.core))
unfolding core_tops core_items orders_items
core_within s aged caused =
    let os : Orders = s.core.orders in
    within_joined _ _ _ _
    (within_joined _ _ _ _
    (within_joined _ _ _ _
    (within_joined _ _ _ _
    (within_joined _ _ _ _ (order_within os.general aged.0) (order_within os.closes aged.1))
    (order_within os.opens aged.2))
    (order_within os.retracts aged.3))
    (order_within os.extends aged.4))
    (rest_within s.core aged.5 caused)

module _ (s : State) (allowed : Allowed s) where
  after_stamp : T (within (sensors_tops sensor_count ++ core_tops) (sensors_items s.voters ++ core_items s.core))
  after_stamp =
      within_joined (sensors_tops sensor_count) core_tops (sensors_items s.voters) (core_items s.core)
      (rw allowed.sensors at (sensors_within s.voters allowed.counts))
      (core_within s allowed.ages allowed.causes)

  all_within : (stamp : ℕ) → stamp < 2 ^ 32 → T (within tops (items_of (started_at stamp s)))
  unfolding tops items_of started_at within
  all_within stamp h = and_next stamp (2 ^ 32 - 1) _ (omega arith) after_stamp

-- ---- And so come back from their bytes, the stamp modulo 2^32

all_below : (top : ℕ) (numbers : List ℕ) → T (every (map (λ (n : ℕ). ltb n top) numbers)) → AllBelow top numbers
all_below top [] h k less = absurd (omega arith)
all_below top (n ∷ numbers) h zero less = ltb→lt n top (and_yes (ltb n top) _ h).0
all_below top (n ∷ numbers) h (suc k) less =
    all_below top numbers (and_yes (ltb n top) _ h).1 k (omega arith)

tops_below : AllBelow (2 ^ 32) (sensors_tops sensor_count ++ core_tops)
unfolding sensors_tops core_tops
tops_below = all_below (2 ^ 32) (sensors_tops sensor_count ++ core_tops) tt

within_below : (tops items : List ℕ) → AllBelow (2 ^ 32) tops → T (within tops items) → AllBelow (2 ^ 32) items
within_below tops items below h k less =
    let long : length items ≡ length tops = within_length tops items h in
    omega (arith, within_up_to tops items h k (omega arith), below k (omega arith))

module _ (s : State) (allowed : Allowed s) where
  read_back : items_in (image_of s) ≡ items_of (started_at (s.stamp % 2 ^ 32) s)
  unfolding image_of items_of started_at
  read_back =
      items_back (items_of s) ∙
      ap (λ (rest : List ℕ). s.stamp % 2 ^ 32 ∷ rest)
      (each_below (sensors_items s.voters ++ core_items s.core)
      (within_below (sensors_tops sensor_count ++ core_tops) (sensors_items s.voters ++ core_items s.core) tops_below (after_stamp s allowed)))

-- ---- Saving, then loading

-- Every image is as long as is said.
pub image_length : (s : State) → length s.voters ≡ sensor_count → length (image_of s) ≡ size
unfolding image_of
image_length s all = omega (arith, bytes_length (items_of s), items_of_length s all)

module _ (s : State) (allowed : Allowed s) where
  -- It is of the new form.
  new_items_lem : new_items (image_of s) ≡ items_of (started_at (s.stamp % 2 ^ 32) s)
  new_items_lem = own_items (image_of s) (λ old. omega (arith, image_length s allowed.sensors, old)) ∙ read_back s allowed

  -- The image of a controller is of that controller, at the new start stamp.
  pub image_is_of : (stamp : ℕ) → loaded_at stamp (image_of s) ≡ started_at stamp s
  unfolding loaded_at started_at
  image_is_of stamp =
      ap (state_in stamp) new_items_lem ∙ controller_back stamp (started_at (s.stamp % 2 ^ 32) s) allowed.sensors allowed.counts

  -- An allowed controller saves to an image that is taken.
  pub allowed_is_taken : Taken (image_of s)
  allowed_is_taken =
      record {
        in_range =
            record {
              long = inr (image_length s allowed.sensors);
              ranges =
                  within_up_to tops (new_items (image_of s)) (rw new_items_lem (all_within s allowed (s.stamp % 2 ^ 32) (omega arith)));
            };
        rules = rw (image_is_of 0) (started_keeps 0 s allowed.rules);
      }

  -- Saving then loading gives the same controller but for the stamp.
  pub saved_then_loaded :
      (before : State) (stamp : ℕ) →
      load_of before (image_of s) stamp ≡ record { refusal = 0; state = started_at stamp s }
  saved_then_loaded before stamp =
      taken_is_loaded (image_of s) allowed_is_taken before stamp ∙
      ap (λ (loaded : State). let answer : Answer = record { refusal = 0; state = loaded } in answer) (image_is_of stamp)

-- ---- Loading, then saving

module _ (image : List ℕ) (taken : Taken image) where
  items_within : T (within tops (new_items image))
  items_within = in_range_within image taken.in_range

  core_up_to : UpTo core_tops (drop first_order (new_items image))
  core_up_to = within_up_to core_tops (drop first_order (new_items image)) (core_items_within (new_items image) items_within)

  -- An image that is taken loads as an allowed controller.
  pub taken_is_allowed : (stamp : ℕ) → Allowed (loaded_at stamp image)
  unfolding loaded_at state_in core_tops started_at
  taken_is_allowed stamp =
      record {
        sensors = sensors_length sensor_count (drop 1 (new_items image));
        counts = counts_within (new_items image) items_within;
        ages = (
          core_up_to 1 (lit< tt),
          core_up_to 3 (lit< tt),
          core_up_to 5 (lit< tt),
          core_up_to 7 (lit< tt),
          core_up_to 9 (lit< tt),
          core_up_to 10 (lit< tt),
        );
        causes = core_up_to 13 (lit< tt);
        rules = started_keeps stamp (loaded_at 0 image) taken.rules;
      }

  -- As bytes of the new form they are what it is in that form.
  back : AllBytes image → bytes_of (new_items image) ≡ in_new_form image
  unfolding new_items
  back bytes = bytes_back (in_new_form image) item_count (new_form_length image taken.in_range.long) (bytes_in_new_form image bytes)

  -- Loading then saving gives the same bytes, in the new form, but for the stamp's four ..
  pub loaded_then_saved : AllBytes image → (stamp : ℕ) → image_of (loaded_at stamp image) ≡ four_bytes stamp ++ drop 4 (in_new_form image)
  unfolding image_of loaded_at bytes_of
  loaded_then_saved bytes stamp =
      ap bytes_of (items_mirror stamp (new_items image) items_within) ∙
      ap (λ (rest : List ℕ). four_bytes stamp ++ rest) (bytes_of_rest (new_items image) ∙ ap (drop 4) (back bytes))

  -- .. and the very same image, in the new form, at the image's own stamp.
  pub loaded_then_saved_at_its_own : AllBytes image → image_of (loaded_at (item_at (items_in image) 0) image) ≡ in_new_form image
  unfolding image_of loaded_at
  loaded_then_saved_at_its_own bytes =
      ap bytes_of
      (items_mirror (item_at (items_in image) 0) (new_items image) items_within ∙
      ap (λ (stamp : ℕ). stamp ∷ drop 1 (new_items image)) (sym (stamp_item image taken.in_range.long)) ∙
      sym (drop-cons (new_items image) 0 0 (omega (arith, as_many image taken.in_range)))) ∙
      back bytes
