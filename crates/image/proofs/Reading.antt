-- An item of an image, by its four bytes.
-- Assumes nothing.
use Rattle.std.specs.Int.{from_be_bytes, to_be_bytes, w32}
use Prim.Native.Nat.{ℕ, zero, suc, ◌+◌, ◌*◌, ◌<◌, ◌≤◌}
use native.Mathlib.Omega.{arith}
use mathlib.Core.List.{List, [], ◌∷◌}
use mathlib.Core.Path.{◌≡◌, refl, sym}
use lib.ListN.{length, get_or}
use Rattle.image.specs.Xdr.{four_bytes, item_from, items_in}
use Rattle.image.specs.Items.{item_at}

pub item_at_lem : (k : ℕ) (bytes : List ℕ) → 4 * k + 4 ≤ length bytes
    → item_at (items_in bytes) k
    ≡ item_from (get_or bytes (4 * k) 0) (get_or bytes (suc (4 * k)) 0) (get_or bytes (suc (suc (4 * k))) 0) (get_or bytes (suc (suc (suc (4 * k)))) 0)
unfolding items_in
item_at_lem k [] h = absurd (omega arith)
item_at_lem k (a ∷ []) h = absurd (omega arith)
item_at_lem k (a ∷ b ∷ []) h = absurd (omega arith)
item_at_lem k (a ∷ b ∷ c ∷ []) h = absurd (omega arith)
item_at_lem zero (a ∷ b ∷ c ∷ d ∷ bytes) h = refl
item_at_lem (suc k) (a ∷ b ∷ c ∷ d ∷ bytes) h =
    let further : 4 * suc k ≡ suc (suc (suc (suc (4 * k)))) = omega arith in
    rw further (item_at_lem k bytes (omega arith))

-- The same as std reads and writes four bytes.
pub item_is_be : (a b c d : ℕ) → from_be_bytes w32 (a ∷ b ∷ c ∷ d ∷ []) ≡ item_from a b c d
unfolding item_from
item_is_be a b c d = omega arith

pub four_are_be : (n : ℕ) → to_be_bytes w32 n ≡ four_bytes n
unfolding four_bytes
four_are_be n = refl

pub item_read : (k : ℕ) (bytes : List ℕ) → 4 * k + 4 ≤ length bytes
    → from_be_bytes w32 (get_or bytes (4 * k) 0 ∷ get_or bytes (4 * k + 1) 0 ∷ get_or bytes (4 * k + 2) 0 ∷ get_or bytes (4 * k + 3) 0 ∷ [])
    ≡ item_at (items_in bytes) k
item_read k bytes room =
    let one : 4 * k + 1 ≡ suc (4 * k) = omega arith in
    let two : 4 * k + 2 ≡ suc (suc (4 * k)) = omega arith in
    let three : 4 * k + 3 ≡ suc (suc (suc (4 * k))) = omega arith in
    rw (item_is_be _ _ _ _, one, two, three) (sym (item_at_lem k bytes room))

-- Fewer than four bytes are no item.
pub no_item : (bytes : List ℕ) → length bytes < 4 → item_at (items_in bytes) 0 ≡ 0
unfolding items_in
no_item [] h = refl
no_item (a ∷ []) h = refl
no_item (a ∷ b ∷ []) h = refl
no_item (a ∷ b ∷ c ∷ []) h = refl
no_item (a ∷ b ∷ c ∷ d ∷ bytes) h = absurd (omega arith)
