-- Request K6: what a sensor's odd channel and count are in an image, their ranges and their rules. Every vote keeps to them
-- (proofs/Kept.antt).
-- Assumes nothing.
use Rattle.std.specs.Prelude.{ℕ, ◌≤◌, Bool, not, ◌&&◌, List, [], ◌∷◌, ◌↔◌, ◌≡◌, T, eqb}
use Rattle.std.specs.Bool.{beq}
use Rattle.common.specs.Tests.{implies}
use Rattle.voter.specs.Voting.{is_invalid, valid_channels}
use Rattle.voter.specs.declared.Channels.TheVariants.{All}
use Rattle.voter.specs.declared.Voter.{Voter}

-- ---- Ranges

-- "The odd channel (0 to 3, 0 when none or when two are valid)".
abbrev pub last_channel : ℕ
last_channel = 3

-- "The count (0 to 2)".
abbrev pub last_count : ℕ
last_count = 2

-- Both are in their ranges.
pub record CountInRange (v : Voter) : Type 0 where
  pub odd : v.odd ≤ last_channel
  pub count : v.count ≤ last_count

-- ---- Rules

-- All channels are valid, ..
abbrev pub has_all : Voter → Bool
has_all v = eqb (valid_channels v.channels) 3

-- .. or one is struck, and two are.
abbrev pub has_two : Voter → Bool
has_two v = eqb (valid_channels v.channels) 2

abbrev pub no_odd : Voter → Bool
no_odd v = eqb v.odd 0

abbrev pub no_count : Voter → Bool
no_count v = eqb v.count 0

-- "With all channels valid the odd channel is 0 exactly if the count is 0; ..
unfoldable pub odd_with_count : Voter → Bool
odd_with_count v = implies (has_all v) (beq (no_odd v) (no_count v))

-- .. with one struck it is 0; ..
unfoldable pub no_odd_of_two : Voter → Bool
no_odd_of_two v = implies (has_two v) (no_odd v)

-- .. with the sensor invalid both are 0."
unfoldable pub none_of_invalid : Voter → Bool
none_of_invalid v = implies (is_invalid v) (no_odd v && no_count v)

-- All three, as tests ..
unfoldable pub count_rules : Voter → List Bool
count_rules v = odd_with_count v ∷ no_odd_of_two v ∷ none_of_invalid v ∷ []

-- .. and in words.
pub record KeepsCountRules (v : Voter) : Type 0 where
  pub all_valid : v.channels ≡ All → (v.odd ≡ 0) ↔ (v.count ≡ 0)
  pub one_struck : T (has_two v) → v.odd ≡ 0
  pub invalid : T (is_invalid v) → (v.odd ≡ 0) × (v.count ≡ 0)

-- ---- Both

-- Odd channel and count as an image may bear them.
pub record CountKept (v : Voter) : Type 0 where
  pub in_range : CountInRange v
  pub rules : KeepsCountRules v

-- ---- Where one runs

-- The count is not 0: samples in a row stand against a channel, or against the two that are left.
abbrev pub count_runs : Voter → Bool
count_runs v = not (no_count v)

-- No count runs at a sensor: there is no odd channel, and the count is 0.
pub record NoCountRunsAt (v : Voter) : Type 0 where
  pub odd : v.odd ≡ 0
  pub count : v.count ≡ 0
