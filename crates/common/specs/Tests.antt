-- Tests as truth values: what one asks of another, and that all of them hold.
-- Assumes nothing.
use Rattle.std.specs.Prelude.{Bool, true, not, ◌&&◌, ◌||◌, List, [], ◌∷◌}

-- The second is so where the first is.
abbrev pub implies : Bool → Bool → Bool
implies this that = not this || that

-- Every test holds.
abbrev pub every : List Bool → Bool
every [] = true
every (test ∷ tests) = test && every tests
