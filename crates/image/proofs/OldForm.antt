-- Request K6: an image of the old form is in range exactly if its own 51 items are in K3's ranges, and K6's rules hold of it in any case: so it is
-- taken exactly if K3's conditions hold.
-- Assumes nothing.
use Prim.Native.Nat.{ℕ, zero, suc, ◌*◌, ◌-◌, ◌^◌, ◌≤◌}
use native.Mathlib.Omega.{arith}
use mathlib.Core.Bool.{Bool, ◌&&◌}
use mathlib.Core.List.{List, [], ◌∷◌, ◌++◌}
use mathlib.Core.Logic.{◌↔◌}
use mathlib.Core.Logic.◌⊎◌.{inl}
use mathlib.Core.Path.{◌≡◌, refl, ap, subst, subst⁻¹, ◌∙◌}
use lib.Dec.{T, leb}
use lib.ListN.{length, take, drop, take-append-drop}
use Rattle.common.specs.Lists.{Each}
use Rattle.common.proofs.Each.{each_so}
use Rattle.forms.specs.Forms.{voter_bytes, sensors, old_size, with_zeros, sensors_widened, widened}
use Rattle.forms.proofs.ThereAndBack.{old_is_widened}
use Rattle.voter.specs.Counts.{KeepsCountRules, NoCountRunsAt}
use Rattle.voter.proofs.Kept.{none_keeps}
use Rattle.image.specs.Xdr.{item_from, items_in}
use Rattle.image.specs.Items.{sensor_count, sensors_tops, core_tops, tops, within}
use Rattle.image.specs.Images.{new_items, loaded_at}
use Rattle.image.specs.Conditions.{KeepsRulesOfK3, old_sensors_tops, old_tops, InRange, OldInRange, Taken}
use Rattle.image.proofs.Fours.{items_length}
use Rattle.image.proofs.Ranged.{within_up_to, up_to_within}
use Rattle.image.proofs.Exact.{in_range_within}
use Rattle.image.proofs.Uncounted.{old_loads_uncounted}

-- Sensor by sensor: the two items of 0 are in their ranges.
sensors_widened_lem : (n : ℕ) (rest bytes behind : List ℕ) → voter_bytes * n ≤ length bytes
    → within (sensors_tops n ++ rest) (items_in (sensors_widened n bytes ++ behind))
    ≡ within (old_sensors_tops n ++ rest) (items_in (take (voter_bytes * n) bytes ++ behind))
unfolding sensors_tops old_sensors_tops with_zeros sensors_widened within items_in item_from
sensors_widened_lem zero rest bytes behind h = refl
sensors_widened_lem (suc n) rest [] behind h = absurd (omega arith)
sensors_widened_lem (suc n) rest (a ∷ []) behind h = absurd (omega arith)
sensors_widened_lem (suc n) rest (a ∷ b ∷ []) behind h = absurd (omega arith)
sensors_widened_lem (suc n) rest (a ∷ b ∷ c ∷ []) behind h = absurd (omega arith)
sensors_widened_lem (suc n) rest (a ∷ b ∷ c ∷ d ∷ []) behind h = absurd (omega arith)
sensors_widened_lem (suc n) rest (a ∷ b ∷ c ∷ d ∷ e ∷ []) behind h = absurd (omega arith)
sensors_widened_lem (suc n) rest (a ∷ b ∷ c ∷ d ∷ e ∷ f ∷ []) behind h = absurd (omega arith)
sensors_widened_lem (suc n) rest (a ∷ b ∷ c ∷ d ∷ e ∷ f ∷ g ∷ []) behind h = absurd (omega arith)
sensors_widened_lem (suc n) rest (a ∷ b ∷ c ∷ d ∷ e ∷ f ∷ g ∷ i ∷ bytes) behind h =
    let eight : voter_bytes * suc n ≡ suc (suc (suc (suc (suc (suc (suc (suc (voter_bytes * n)))))))) = omega arith in
    rw eight
    (ap (λ (t : Bool). leb (item_from a b c d) 4 && (leb (item_from e f g i) 1 && t)) (sensors_widened_lem n rest bytes behind (omega arith)))

-- The whole of an old image, by its own items.
whole : (image : List ℕ) → length image ≡ old_size → within tops (items_in (widened image)) ≡ within old_tops (items_in image)
unfolding tops old_tops widened within items_in
whole [] old = absurd (omega arith)
whole (a ∷ []) old = absurd (omega arith)
whole (a ∷ b ∷ []) old = absurd (omega arith)
whole (a ∷ b ∷ c ∷ []) old = absurd (omega arith)
whole (a ∷ b ∷ c ∷ d ∷ bytes) old =
    ap (λ (t : Bool). leb (item_from a b c d) (2 ^ 32 - 1) && t)
    (sensors_widened_lem sensor_count core_tops bytes (drop (voter_bytes * sensors) bytes) (omega arith)
    ∙ ap (λ (l : List ℕ). within (old_sensors_tops sensor_count ++ core_tops) (items_in l)) (take-append-drop (voter_bytes * sensors) bytes))

old_within : (image : List ℕ) → length image ≡ old_size → within tops (new_items image) ≡ within old_tops (items_in image)
unfolding new_items
old_within image old = ap (λ (bytes : List ℕ). within tops (items_in bytes)) (old_is_widened image old) ∙ whole image old

old_tops_length : length old_tops ≡ 51
unfolding old_sensors_tops core_tops old_tops
old_tops_length = refl

-- In range exactly by K3.
pub old_in_range_exactly : (image : List ℕ) → length image ≡ old_size → InRange image ↔ OldInRange image
old_in_range_exactly image old = (
  λ h.
      record { long = old; ranges = within_up_to old_tops (items_in image) (subst T (old_within image old) (in_range_within image h)) },
  λ h.
      let own = up_to_within old_tops (items_in image) (omega (arith, items_length image, old, old_tops_length)) h.ranges in
      record { long = inl old; ranges = within_up_to tops (new_items image) (subst⁻¹ T (old_within image old) own) },
)

-- And K6's rules are kept, at every sensor and every stamp.
pub old_keeps_count_rules : (image : List ℕ) → length image ≡ old_size → (stamp : ℕ) → Each KeepsCountRules (loaded_at stamp image).voters
old_keeps_count_rules image old stamp =
    each_so NoCountRunsAt KeepsCountRules none_keeps (loaded_at stamp image).voters (old_loads_uncounted image old stamp)

-- So it is taken exactly if its own items are in range and K3's rules are kept.
pub old_taken_exactly : (image : List ℕ) → length image ≡ old_size → Taken image ↔ (OldInRange image × KeepsRulesOfK3 (loaded_at 0 image))
old_taken_exactly image old = (
  λ taken.
      let rules = taken.rules in (
        (old_in_range_exactly image old).0 taken.in_range,
        record {
          moving_have_open = rules.moving_have_open;
          on_is_wanted = rules.on_is_wanted;
          on_has_general = rules.on_has_general;
          open_have_general = rules.open_have_general;
          invalid_has_cause = rules.invalid_has_cause;
        },
      ),
  λ h.
      let rules = h.1 in
      record {
        in_range = (old_in_range_exactly image old).1 h.0;
        rules =
            record {
              moving_have_open = rules.moving_have_open;
              on_is_wanted = rules.on_is_wanted;
              on_has_general = rules.on_has_general;
              open_have_general = rules.open_have_general;
              invalid_has_cause = rules.invalid_has_cause;
              counts_keep = old_keeps_count_rules image old 0;
            };
      },
)
