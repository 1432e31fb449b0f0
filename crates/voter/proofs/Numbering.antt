-- A sensor's channels and their number (request K3): each gives the other.
-- Assumes nothing.
use Prim.Native.Nat.{ℕ, zero, suc, ◌≤◌}
use native.Mathlib.Omega.{arith}
use mathlib.Core.Path.{◌≡◌, refl, sym, ap, ◌∙◌}
use lib.Dec.{lit≤}
use Rattle.voter.specs.Numbers.{channels_number, last_number, number_of, channels_at}
use Rattle.voter.specs.declared.Channels.{Channels}
use Rattle.voter.specs.declared.Channels.TheVariants.{All, Without1, Without2, Without3, Nothing}
use Rattle.voter.specs.declared.Voter.{Voter}

to_4 : (channels : Channels) → channels_number channels ≤ last_number
to_4 All = lit≤ tt
to_4 Without1 = lit≤ tt
to_4 Without2 = lit≤ tt
to_4 Without3 = lit≤ tt
to_4 Nothing = lit≤ tt

-- The channels with the number of channels are these channels ..
pub at_number : (channels : Channels) → channels_at (channels_number channels) ≡ channels
unfolding channels_at
at_number All = refl
at_number Without1 = refl
at_number Without2 = refl
at_number Without3 = refl
at_number Nothing = refl

-- .. and the channels with a number have that number.
pub number_at : (n : ℕ) → n ≤ last_number → channels_number (channels_at n) ≡ n
unfolding channels_at
number_at zero h = refl
number_at (suc zero) h = refl
number_at (suc (suc zero)) h = refl
number_at (suc (suc (suc zero))) h = refl
number_at (suc (suc (suc (suc zero)))) h = refl
number_at (suc (suc (suc (suc (suc n))))) h = absurd (omega arith)

-- A sensor's number is at most 4.
pub number_to_4 : (v : Voter) → number_of v ≤ last_number
unfolding number_of
number_to_4 v = to_4 v.channels

-- All channels are valid exactly where the number is 0.
pub all_has_0 : (v : Voter) → v.channels ≡ All → number_of v ≡ 0
unfolding number_of
all_has_0 v all = ap channels_number all

pub all_by_number : (v : Voter) → number_of v ≡ 0 → v.channels ≡ All
unfolding number_of channels_at
all_by_number v e = sym (at_number v.channels) ∙ ap channels_at e
