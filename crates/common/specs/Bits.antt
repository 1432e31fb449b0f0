-- A truth value as a number, and a number as a truth value.
-- Assumes nothing.
use Rattle.std.specs.Prelude.{Bool, true, false, ℕ, eqb}

-- 1 for on, held 1 or seen; 0 for off, held 0 or not.
abbrev pub bit : Bool → ℕ
bit true = 1
bit false = 0

-- On, held 1 or seen.
abbrev pub is_one : ℕ → Bool
is_one n = eqb n 1
