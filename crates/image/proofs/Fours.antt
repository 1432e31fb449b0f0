-- Bytes and items (RFC 4506): four bytes are an item, and each gives the other.
-- Assumes nothing.
use Prim.Native.Nat.{ℕ, suc, ◌+◌, ◌*◌, ◌-◌, ◌/◌, ◌%◌, ◌^◌, ◌<◌, suc-le-suc}
use native.Mathlib.Omega.{arith}
use native.Mathlib.Nat.{mod-eq_of_lt}
use mathlib.Core.List.{List, [], ◌∷◌, map}
use mathlib.Core.Path.{◌≡◌, refl, sym}
use lib.ListN.{length, drop}
use Rattle.image.specs.Xdr.{four_bytes, item_from, bytes_of, items_in}
use Rattle.image.specs.Conditions.{AllBelow, AllBytes}

-- ---- One item

-- A number's last bytes, two and four of them, by halves.
two_bytes : (n : ℕ) → n % 2 ^ 16 ≡ n / 2 ^ 8 % 256 * 256 + n % 256
two_bytes n = omega arith

two_halves : (n : ℕ) → n % 2 ^ 32 ≡ n / 2 ^ 16 % 2 ^ 16 * 2 ^ 16 + n % 2 ^ 16
two_halves n = omega arith

once_more : (n : ℕ) → n / 2 ^ 16 / 2 ^ 8 ≡ n / 2 ^ 24
once_more n = omega arith

joined :
    (a b c d high low : ℕ) →
    high ≡ a * 256 + b →
    low ≡ c * 256 + d →
    high * 2 ^ 16 + low ≡ a * 2 ^ 24 + b * 2 ^ 16 + c * 2 ^ 8 + d
joined a b c d high low h l = omega arith

-- Four bytes hold an item modulo 2^32.
item_of_four : (n : ℕ) → item_from (n / 2 ^ 24 % 256) (n / 2 ^ 16 % 256) (n / 2 ^ 8 % 256) (n % 256) ≡ n % 2 ^ 32
unfolding item_from
item_of_four n =
    let high : ℕ = n / 2 ^ 16 in
    rw (two_halves n, ← once_more n)
    (sym (joined (high / 2 ^ 8 % 256) (high % 256) (n / 2 ^ 8 % 256) (n % 256) (high % 2 ^ 16) (n % 2 ^ 16) (two_bytes high) (two_bytes n)))

-- Four bytes are those of the item that they are.
module _ (a b c d : ℕ) (ha : a < 256) (hb : b < 256) (hc : c < 256) (hd : d < 256) where
  first : (a * 2 ^ 24 + b * 2 ^ 16 + c * 2 ^ 8 + d) / 2 ^ 24 % 256 ≡ a
  first = omega arith

  second : (a * 2 ^ 24 + b * 2 ^ 16 + c * 2 ^ 8 + d) / 2 ^ 16 % 256 ≡ b
  second = omega arith

  third : (a * 2 ^ 24 + b * 2 ^ 16 + c * 2 ^ 8 + d) / 2 ^ 8 % 256 ≡ c
  third = omega arith

  fourth : (a * 2 ^ 24 + b * 2 ^ 16 + c * 2 ^ 8 + d) % 256 ≡ d
  fourth = omega arith

  four_of_item : four_bytes (item_from a b c d) ≡ a ∷ b ∷ c ∷ d ∷ []
  unfolding four_bytes item_from
  four_of_item = cc (first, second, third, fourth)

-- ---- Lists of them

-- Items come back, each modulo 2^32 ..
pub items_back : (items : List ℕ) → items_in (bytes_of items) ≡ map (λ (n : ℕ). n % 2 ^ 32) items
unfolding items_in bytes_of four_bytes
items_back [] = refl
items_back (n ∷ items) = cc (item_of_four n, items_back items)

pub each_below : (items : List ℕ) → AllBelow (2 ^ 32) items → map (λ (n : ℕ). n % 2 ^ 32) items ≡ items
each_below [] below = refl
each_below (n ∷ items) below =
    let head : n % 2 ^ 32 ≡ n = mod-eq_of_lt (below 0 (omega arith)) in
    cc (head, each_below items (λ k h. below (suc k) (suc-le-suc h)))

-- Bytes come back, where their number is a multiple of four.
pub bytes_back : (bytes : List ℕ) (n : ℕ) → length bytes ≡ 4 * n → AllBytes bytes → bytes_of (items_in bytes) ≡ bytes
unfolding bytes_of items_in
bytes_back [] n long below = refl
bytes_back (a ∷ []) n long below = absurd (omega arith)
bytes_back (a ∷ b ∷ []) n long below = absurd (omega arith)
bytes_back (a ∷ b ∷ c ∷ []) n long below = absurd (omega arith)
bytes_back (a ∷ b ∷ c ∷ d ∷ bytes) n long below =
    let rest = bytes_back bytes (n - 1) (omega arith) (λ k h. below (suc (suc (suc (suc k)))) (omega arith)) in
    rw (four_of_item a b c d (below 0 (omega arith)) (below 1 (omega arith)) (below 2 (omega arith)) (below 3 (omega arith)), rest)

-- ---- Lengths

-- Four bytes for each item, and an item for each four.
pub bytes_length : (items : List ℕ) → length (bytes_of items) ≡ 4 * length items
unfolding bytes_of four_bytes
bytes_length [] = refl
bytes_length (n ∷ items) = omega (arith, bytes_length items)

pub items_length : (bytes : List ℕ) → length (items_in bytes) ≡ length bytes / 4
unfolding items_in
items_length [] = refl
items_length (a ∷ []) = omega arith
items_length (a ∷ b ∷ []) = omega arith
items_length (a ∷ b ∷ c ∷ []) = omega arith
items_length (a ∷ b ∷ c ∷ d ∷ bytes) = omega (arith, items_length bytes)

-- Without the first item, without its four bytes.
pub bytes_of_rest : (items : List ℕ) → bytes_of (drop 1 items) ≡ drop 4 (bytes_of items)
unfolding bytes_of four_bytes
bytes_of_rest [] = refl
bytes_of_rest (n ∷ items) = refl
