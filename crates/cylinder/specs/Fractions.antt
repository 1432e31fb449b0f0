-- Request K8, "positions are whole 16384ths from 0 to 1", "Rates are n/16384 of a stroke per ms, n from 1 to 16": which floats these are.
-- A float is `nan`, an infinity, or `fin s m e`: m * 2 ^ e, which is m * up e / down e, with the sign minus where s is true. Zero has a sign too.
-- Assumes nothing.
use Rattle.std.specs.Prelude.{◌≡◌, ℕ, ◌*◌, ◌/◌, ◌%◌, Bool, true, false, cond, ◌&&◌, ◌==◌, nat_le, Option, None, Some, Float}
use Rattle.std.specs.Float.{nan, inf, fin, binary32}
use Rattle.std.specs.Float.Ieee.{up, down, round}

-- A stroke has so many parts.
abbrev pub stroke : ℕ
stroke = 16384

-- The 32-bit float for so many parts: the one that is nearest to n/16384. For every n of 16 bits it equals that fraction (`EqualsParts`).
unfoldable pub fraction : ℕ → Float
fraction n = round binary32 false n stroke

-- A float equals n/16384, exactly, with the sign plus.
abbrev pub EqualsParts : Float → ℕ → Type 0
EqualsParts nan n = ⊥
EqualsParts (inf s) n = ⊥
EqualsParts (fin s m e) n = (s ≡ false) × (m * up e * stroke ≡ n * down e)

-- How many whole parts a float is: none for a NaN, an infinity, anything with the sign minus, minus zero among it, and what is no whole
-- number of parts.
abbrev pub plus_parts : Bool → ℕ → ℕ → Option ℕ
plus_parts true over under = None
plus_parts false over under = cond (over % under == 0) (Some (over / under)) None

unfoldable pub parts_of : Float → Option ℕ
parts_of nan = None
parts_of (inf s) = None
parts_of (fin s m e) = plus_parts s (m * up e * stroke) (down e)

-- The same where it is so many at least and so many at most.
abbrev pub within : ℕ → ℕ → Option ℕ → Option ℕ
within least most None = None
within least most (Some n) = cond (nat_le least n && nat_le n most) (Some n) None

unfoldable pub parts_from : ℕ → ℕ → Float → Option ℕ
parts_from least most x = within least most (parts_of x)
