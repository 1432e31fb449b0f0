-- Request K6: odd channel and count of a sensor in the bytes of an image. "Old images load with both at 0"; and where no count runs at any
-- sensor, zero bytes stand in their places.
-- Assumes nothing.
use Prim.Native.Nat.{ℕ, zero, suc, ◌+◌, ◌*◌, ◌-◌, ◌%◌, ◌^◌, ◌<◌, ◌≤◌}
use native.Mathlib.Omega.{arith}
use mathlib.Core.Bool.{false}
use mathlib.Core.List.{List, [], ◌∷◌, ◌++◌}
use mathlib.Core.Path.{◌≡◌, refl, sym, ap, subst, ◌∙◌}
use lib.Dec.{T, lit<, lit≤}
use lib.ListN.{length, get_or, take, drop, length-drop}
use lib.Seq.{drop-cons, drop-drop, drop_at, take_at, take-add, length-take-le, get_or-take, get_or-drop}
use Rattle.common.specs.Lists.{Each}
use Rattle.common.proofs.Each.{each_at_index, each_by_index}
use Rattle.forms.specs.Forms.{stamp_bytes, voter_bytes, count_bytes, old_size, eight_zeros, in_new_form, widened, count_at, NoneCounted}
use Rattle.forms.proofs.ThereAndBack.{old_is_widened, widened_length, none_counted_widened}
use Rattle.voter.specs.declared.Voter.{Voter}
use Rattle.voter.specs.Voting.{fresh_with}
use Rattle.voter.specs.Counts.{NoCountRunsAt}
use Rattle.sensors.specs.Items.{items_per_sensor, sensor_tops, sensor_in}
use Rattle.image.specs.Xdr.{item_from, items_in}
use Rattle.image.specs.Items.{sensor_count, tops, within, sensors_in, item_at, state_in}
use Rattle.image.specs.Images.{size, new_items, loaded_at}
use Rattle.image.proofs.Reading.{item_at_lem}
use Rattle.image.proofs.Ranged.{within_up_to}
use Rattle.image.proofs.Strung.{strung_sensor, sensors_length, sensor_top, tops_length}

-- ---- Four zero bytes are an item of 0

four_zeros : List ℕ
four_zeros = 0 ∷ 0 ∷ 0 ∷ 0 ∷ []

four_from : (n : ℕ) (bytes : List ℕ) → n + 4 ≤ length bytes
    → take 4 (drop n bytes) ≡ get_or bytes n 0 ∷ get_or bytes (suc n) 0 ∷ get_or bytes (suc (suc n)) 0 ∷ get_or bytes (suc (suc (suc n))) 0 ∷ []
four_from n bytes h =
    rw (drop-cons bytes n 0 (omega arith), drop-cons bytes (suc n) 0 (omega arith), drop-cons bytes (suc (suc n)) 0 (omega arith), drop-cons bytes (suc (suc (suc n))) 0 (omega arith))

all_zero : (a b c d : ℕ) → a * 2 ^ 24 + b * 2 ^ 16 + c * 2 ^ 8 + d ≡ 0 → (a ≡ 0) × (b ≡ 0) × (c ≡ 0) × (d ≡ 0)
all_zero a b c d e = (omega arith, omega arith, omega arith, omega arith)

module _ (k : ℕ) (bytes : List ℕ) (room : 4 * k + 4 ≤ length bytes) where
  abbrev byte : ℕ → ℕ
  byte n = get_or bytes n 0

  zero_item : item_at (items_in bytes) k ≡ 0 → take 4 (drop (4 * k) bytes) ≡ four_zeros
  unfolding item_from four_zeros
  zero_item e =
      let n : ℕ = 4 * k in
      let zeros = all_zero (byte n) (byte (suc n)) (byte (suc (suc n))) (byte (suc (suc (suc n)))) (sym (item_at_lem k bytes room) ∙ e) in
      rw (four_from n bytes room, zeros.0, zeros.1, zeros.2, zeros.3)

  item_zero : take 4 (drop (4 * k) bytes) ≡ four_zeros → item_at (items_in bytes) k ≡ 0
  unfolding item_from four_zeros
  item_zero e =
      let n : ℕ = 4 * k in
      let own = sym (four_from n bytes room) ∙ e in
      let at : (j : ℕ) → get_or (byte n ∷ byte (suc n) ∷ byte (suc (suc n)) ∷ byte (suc (suc (suc n))) ∷ []) j 0 ≡ get_or (0 ∷ 0 ∷ 0 ∷ 0 ∷ []) j 0 =
      λ j. ap (λ (l : List ℕ). get_or l j 0) own
      in
      item_at_lem k bytes room ∙ rw (at 0, at 1, at 2, at 3)

-- ---- The items of a sensor

-- The places of odd channel and count of sensor i.
abbrev odd_place : ℕ → ℕ
odd_place i = 1 + items_per_sensor * i + 2

abbrev count_place : ℕ → ℕ
count_place i = 1 + items_per_sensor * i + 3

-- Sensor i, by its number.
abbrev sensor_of : ℕ → List ℕ → Voter
sensor_of i items = get_or (sensors_in sensor_count (drop 1 items)) i (fresh_with false)

module _ (i : ℕ) (items : List ℕ) (h : i < sensor_count) where
  item_of_it : (j : ℕ) → j < items_per_sensor
      → get_or (take items_per_sensor (drop (items_per_sensor * i) (drop 1 items))) j 0 ≡ item_at items (1 + items_per_sensor * i + j)
  item_of_it j less =
      get_or-take items_per_sensor (drop (items_per_sensor * i) (drop 1 items)) j 0 less
      ∙ ap (λ (l : List ℕ). get_or l j 0) (drop-drop (items_per_sensor * i) 1 items)
      ∙ get_or-drop (1 + items_per_sensor * i) items j 0

  its_odd : (sensor_of i items).odd ≡ item_at items (odd_place i) % 256
  unfolding sensor_in
  its_odd =
      ap (λ (v : Voter). v.odd) (strung_sensor sensor_count i (drop 1 items) (fresh_with false) h)
      ∙ ap (λ (n : ℕ). n % 256) (item_of_it 2 (lit< tt))

  its_count : (sensor_of i items).count ≡ item_at items (count_place i) % 256
  unfolding sensor_in
  its_count =
      ap (λ (v : Voter). v.count) (strung_sensor sensor_count i (drop 1 items) (fresh_with false) h)
      ∙ ap (λ (n : ℕ). n % 256) (item_of_it 3 (lit< tt))

-- ---- And their bytes

tops_are_bytes : (j : ℕ) → j < items_per_sensor → get_or sensor_tops j 0 ≤ 255
tops_are_bytes zero h = lit≤ tt
tops_are_bytes (suc zero) h = lit≤ tt
tops_are_bytes (suc (suc zero)) h = lit≤ tt
tops_are_bytes (suc (suc (suc zero))) h = lit≤ tt
tops_are_bytes (suc (suc (suc (suc j)))) h = absurd (omega arith)

module _ (image : List ℕ) (long : length image ≡ size) (i : ℕ) (h : i < sensor_count) where
  -- Its eight bytes are those of the two items.
  two_items : count_at i image ≡ take 4 (drop (4 * odd_place i) image) ++ take 4 (drop (4 * count_place i) image)
  two_items =
      let first : stamp_bytes + (voter_bytes + count_bytes) * i + voter_bytes ≡ 4 * odd_place i = omega arith in
      let second : 4 * odd_place i + 4 ≡ 4 * count_place i = omega arith in
      take-add 4 4 (drop (stamp_bytes + (voter_bytes + count_bytes) * i + voter_bytes) image)
      ∙ ap (λ (l : List ℕ). take 4 (drop (stamp_bytes + (voter_bytes + count_bytes) * i + voter_bytes) image) ++ take 4 l)
      (drop-drop 4 (stamp_bytes + (voter_bytes + count_bytes) * i + voter_bytes) image)
      ∙ rw (first, second) refl

  four_long : (n : ℕ) → n + 4 ≤ length image → length (take 4 (drop n image)) ≡ 4
  four_long n room = length-take-le 4 (drop n image) (simp length-drop (omega arith))

  odd_room : 4 * odd_place i + 4 ≤ length image
  odd_room = omega (arith, long)

  count_room : 4 * count_place i + 4 ≤ length image
  count_room = omega (arith, long)

  -- Where no count runs at the sensor, they are zero bytes ..
  none_then_zeros : T (within tops (items_in image)) → NoCountRunsAt (sensor_of i (items_in image)) → count_at i image ≡ eight_zeros
  unfolding four_zeros
  none_then_zeros ranged none =
      two_items
      ∙ rw (
        zero_item (odd_place i) image odd_room (small (odd_place i) 2 (omega arith) (lit< tt) (sym (its_odd i items h) ∙ none.odd)),
        zero_item (count_place i) image count_room (small (count_place i) 3 (omega arith) (lit< tt) (sym (its_count i items h) ∙ none.count)),
      ) refl
    where
      items : List ℕ
      items = items_in image

      small : (k j : ℕ) → k ≡ 1 + items_per_sensor * i + j → j < items_per_sensor → item_at items k % 256 ≡ 0 → item_at items k ≡ 0
      small k j place less e =
          let top : get_or sensor_tops j 0 ≤ 255 = tops_are_bytes j less in
          let own : (k - 1) % items_per_sensor ≡ j = omega arith in
          let is : get_or sensor_tops j 0 ≡ item_at tops k = ap (λ (n : ℕ). get_or sensor_tops n 0) (sym own) ∙ sensor_top k (omega arith) (omega arith) in
          omega (arith, within_up_to tops items ranged k (omega (arith, tops_length)), is, top)

  -- .. and where they are, none runs.
  zeros_then_none : count_at i image ≡ eight_zeros → NoCountRunsAt (sensor_of i (items_in image))
  unfolding four_zeros
  zeros_then_none zeros =
      let first = take 4 (drop (4 * odd_place i) image) in
      let second = take 4 (drop (4 * count_place i) image) in
      let whole : first ++ second ≡ eight_zeros = sym two_items ∙ zeros in
      let odd = item_zero (odd_place i) image odd_room (sym (take_at first second 4 (four_long _ odd_room)) ∙ ap (take 4) whole) in
      let count = item_zero (count_place i) image count_room (sym (drop_at first second 4 (four_long _ odd_room)) ∙ ap (drop 4) whole) in
      record {
        odd = its_odd i (items_in image) h ∙ ap (λ (n : ℕ). n % 256) odd;
        count = its_count i (items_in image) h ∙ ap (λ (n : ℕ). n % 256) count;
      }

-- ---- All sensors

-- "Old images load with both at 0."
pub old_loads_uncounted : (image : List ℕ) → length image ≡ old_size → (stamp : ℕ) → Each NoCountRunsAt (loaded_at stamp image).voters
unfolding loaded_at state_in new_items
old_loads_uncounted image old stamp =
    each_by_index NoCountRunsAt (fresh_with false) (sensors_in sensor_count (drop 1 (items_in (in_new_form image))))
    (λ i h.
    let less : i < sensor_count = omega (arith, sensors_length sensor_count (drop 1 (items_in (in_new_form image)))) in
    subst (λ (bytes : List ℕ). NoCountRunsAt (sensor_of i (items_in bytes))) (sym (old_is_widened image old))
    (zeros_then_none (widened image) (widened_length image old) i less (none_counted_widened image old i less)))

-- In an image of the new form whose items are in their ranges, and at no sensor of which a count runs, none is counted.
pub none_runs_none_counted : (image : List ℕ) → length image ≡ size → T (within tops (items_in image))
    → Each NoCountRunsAt (sensors_in sensor_count (drop 1 (items_in image))) → NoneCounted image
none_runs_none_counted image long ranged each i less =
    none_then_zeros image long i less ranged
    (each_at_index NoCountRunsAt (fresh_with false) (sensors_in sensor_count (drop 1 (items_in image))) each i
    (omega (arith, sensors_length sensor_count (drop 1 (items_in image)))))
