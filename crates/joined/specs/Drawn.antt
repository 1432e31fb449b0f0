-- Request K8, "Six cylinders, each with position and rate as 32-bit floats, because our drawing engine takes those".
-- Assumes nothing.
use Rattle.std.specs.Prelude.{ℕ, ◌≤◌, cond, List, [], ◌∷◌, ◌++◌, length, drop, nat_lt, Float}
use Rattle.cylinder.specs.declared.Cylinder.{Cylinder}
use Rattle.cylinder.specs.Fractions.{stroke, EqualsParts}

-- Position and rate of each.
unfoldable pub floats_of : List Cylinder → List Float
floats_of [] = []
floats_of (c ∷ cs) = c.position ∷ c.rate ∷ floats_of cs

-- So many floats.
abbrev pub floats_of_six : ℕ
floats_of_six = 12

-- 0 and the buffer with the twelve in front, the rest as it was; 8 where it is shorter, and it stays.
unfoldable pub drawn_of : List Cylinder → List Float → ℕ × List Float
drawn_of cs out = cond (nat_lt (length out) floats_of_six) (8, out) (0, floats_of cs ++ drop floats_of_six out)

-- "Every float handed out equals its fraction exactly": so many 16384ths, from 0 to 1.
abbrev pub IsFraction : Float → Type 0
IsFraction x = (n : ℕ) × (n ≤ stroke) × EqualsParts x n
