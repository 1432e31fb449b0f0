-- Items that are put one after the other: the bytes of one more.
-- Assumes nothing.
use Prim.Native.Nat.{ℕ, ◌+◌, ◌<◌}
use native.Mathlib.Numerals.{add-one}
use mathlib.Core.List.{List, [], ◌∷◌, ◌++◌, append_assoc, append-nil}
use mathlib.Core.Path.{◌≡◌, refl, sym, ap, ◌∙◌}
use lib.ListN.{length, take, get_or}
use lib.Seq.{take-suc}
use Rattle.image.specs.Xdr.{four_bytes, bytes_of}
use Rattle.voter.specs.declared.Voter.{Voter}
use Rattle.sensors.specs.Items.{sensor_items}
use Rattle.controller.specs.declared.State.{State}
use Rattle.image.specs.Items.{item_at, sensors_items, core_items, items_of}
use Rattle.image.specs.Images.{image_of}

pub bytes_append : (some others : List ℕ) → bytes_of (some ++ others) ≡ bytes_of some ++ bytes_of others
unfolding bytes_of
bytes_append [] others = refl
bytes_append (item ∷ items) others =
    ap (λ (l : List ℕ). four_bytes item ++ l) (bytes_append items others)
    ∙ sym (append_assoc (four_bytes item) (bytes_of items) (bytes_of others))

pub bytes_of_one : (item : ℕ) → bytes_of (item ∷ []) ≡ four_bytes item
unfolding bytes_of
bytes_of_one item = append-nil (four_bytes item)

sensors_append : (some others : List Voter) → sensors_items (some ++ others) ≡ sensors_items some ++ sensors_items others
unfolding sensors_items
sensors_append [] others = refl
sensors_append (v ∷ voters) others =
    ap (λ (l : List ℕ). sensor_items v ++ l) (sensors_append voters others)
    ∙ sym (append_assoc (sensor_items v) (sensors_items voters) (sensors_items others))

sensors_of_one : (v : Voter) → sensors_items (v ∷ []) ≡ sensor_items v
unfolding sensors_items
sensors_of_one v = append-nil (sensor_items v)

pub sensor_turn : (k : ℕ) (voters : List Voter) (d : Voter) → k < length voters
    → bytes_of (sensors_items (take k voters)) ++ bytes_of (sensor_items (get_or voters k d)) ≡ bytes_of (sensors_items (take (k + 1) voters))
sensor_turn k voters d h =
    sym
    (ap (λ (n : ℕ). bytes_of (sensors_items (take n voters))) (add-one k)
    ∙ ap (λ (l : List Voter). bytes_of (sensors_items l)) (take-suc voters k d h)
    ∙ ap bytes_of (sensors_append (take k voters) (get_or voters k d ∷ []))
    ∙ bytes_append (sensors_items (take k voters)) _
    ∙ ap (λ (l : List ℕ). bytes_of (sensors_items (take k voters)) ++ bytes_of l) (sensors_of_one (get_or voters k d)))

-- Stamp, sensors and core are all.
pub all_items : (s : State) → (bytes_of (s.stamp ∷ []) ++ bytes_of (sensors_items s.voters)) ++ bytes_of (core_items s.core) ≡ image_of s
unfolding items_of image_of
all_items s =
    sym
    (bytes_append (s.stamp ∷ []) (sensors_items s.voters ++ core_items s.core)
    ∙ ap (λ (l : List ℕ). bytes_of (s.stamp ∷ []) ++ l) (bytes_append (sensors_items s.voters) (core_items s.core))
    ∙ sym (append_assoc (bytes_of (s.stamp ∷ [])) (bytes_of (sensors_items s.voters)) (bytes_of (core_items s.core))))

pub item_turn : (k : ℕ) (items : List ℕ) → k < length items → bytes_of (take k items) ++ four_bytes (item_at items k) ≡ bytes_of (take (k + 1) items)
item_turn k items h =
    sym
    (ap (λ (n : ℕ). bytes_of (take n items)) (add-one k)
    ∙ ap bytes_of (take-suc items k 0 h)
    ∙ bytes_append (take k items) (item_at items k ∷ [])
    ∙ ap (λ (l : List ℕ). bytes_of (take k items) ++ l) (bytes_of_one (item_at items k)))
