-- RFC 4506 (XDR): an item is four bytes, most significant first, and items follow each other with nothing between.
-- Assumes nothing.
use Rattle.std.specs.Prelude.{ℕ, ◌+◌, ◌*◌, ◌/◌, ◌%◌, ◌^◌, List, [], ◌∷◌, ◌++◌}

-- The four bytes of an item.
unfoldable pub four_bytes : ℕ → List ℕ
four_bytes n = n / 2 ^ 24 % 256 ∷ n / 2 ^ 16 % 256 ∷ n / 2 ^ 8 % 256 ∷ n % 256 ∷ []

-- The item that four bytes are.
unfoldable pub item_from : ℕ → ℕ → ℕ → ℕ → ℕ
item_from a b c d = a * 2 ^ 24 + b * 2 ^ 16 + c * 2 ^ 8 + d

-- Items as bytes.
unfoldable pub bytes_of : List ℕ → List ℕ
bytes_of [] = []
bytes_of (item ∷ items) = four_bytes item ++ bytes_of items

-- Bytes as items. (Fewer than four at the end are no item.)
unfoldable pub items_in : List ℕ → List ℕ
items_in [] = []
items_in (a ∷ []) = []
items_in (a ∷ b ∷ []) = []
items_in (a ∷ b ∷ c ∷ []) = []
items_in (a ∷ b ∷ c ∷ d ∷ bytes) = item_from a b c d ∷ items_in bytes
