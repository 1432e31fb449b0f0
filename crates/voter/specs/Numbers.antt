-- Request K3, "per sensor its voter (0 all valid, 1 to 3 that channel struck, 4 invalid)": a sensor's channels as a number.
-- Assumes nothing.
use Rattle.std.specs.Prelude.{ℕ, cond, eqb}
use Rattle.voter.specs.declared.Channels.{Channels}
use Rattle.voter.specs.declared.Channels.TheVariants.{All, Without1, Without2, Without3, Nothing}
use Rattle.voter.specs.declared.Voter.{Voter}

-- 0 all valid, 1 to 3 that channel struck, 4 invalid.
abbrev pub channels_number : Channels → ℕ
channels_number All = 0
channels_number Without1 = 1
channels_number Without2 = 2
channels_number Without3 = 3
channels_number Nothing = 4

-- The largest of them.
abbrev pub last_number : ℕ
last_number = 4

-- The channels that have a number. (One past the last is read as the last.)
unfoldable pub channels_at : ℕ → Channels
channels_at n =
    cond (eqb n 0) All
    (cond (eqb n 1) Without1
    (cond (eqb n 2) Without2
    (cond (eqb n 3) Without3 Nothing)))

-- A sensor's voter, as a number.
unfoldable pub number_of : Voter → ℕ
number_of v = channels_number v.channels
