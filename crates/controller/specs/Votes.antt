-- Document 01, "The sample": 18 sensors in its order, three channels each, and what their votes say.
-- Assumes nothing.
use Rattle.std.specs.Prelude.{ℕ, ◌+◌, ◌*◌, Bool, false, ◌&&◌, ◌||◌, List, slice_index, slice_index_or}
use Rattle.common.specs.Bits.{is_one}
use Rattle.common.specs.Lists.{some, each_from}
use Rattle.voter.specs.declared.Voter.{Voter}
use Rattle.voter.specs.Voting.{voted, fresh_with, value_of, is_invalid}
use Rattle.sequence.specs.declared.Aim.{Aim}
use Rattle.sequence.specs.declared.Seen.{Seen}
use Rattle.sequence.specs.Moves.{aim_of}
use Rattle.monitors.specs.declared.Three.{Three}
use Rattle.monitors.specs.declared.Sight.{Sight}

-- ---- The sensors' numbers, counted from 0 in the sample's order; of three, the front one's.

abbrev pub handle : ℕ
handle = 0

-- Analogical_switch, 1 = closed.
abbrev pub analogical_switch : ℕ
analogical_switch = 1

abbrev pub gear_extended : ℕ
gear_extended = 2

abbrev pub gear_retracted : ℕ
gear_retracted = 5

abbrev pub gear_shock_absorber : ℕ
gear_shock_absorber = 8

abbrev pub door_closed : ℕ
door_closed = 11

abbrev pub door_open : ℕ
door_open = 14

abbrev pub circuit_pressurized : ℕ
circuit_pressurized = 17

-- ---- A vote of all sensors

-- The channel whose byte stands at this place of the sample.
abbrev pub channel : List ℕ → ℕ → Bool
channel bytes at = is_one (slice_index bytes at)

-- Three channels each, channels 1, 2, 3 side by side: sensor i votes over them.
abbrev pub votes_at : List ℕ → ℕ → Voter → Voter
votes_at bytes i v = voted v (channel bytes (3 * i)) (channel bytes (3 * i + 1)) (channel bytes (3 * i + 2))

-- Every sensor votes.
unfoldable pub all_voted : List ℕ → List Voter → List Voter
all_voted bytes vs = each_from (votes_at bytes) 0 vs

-- ---- What the votes say

-- The voted value of sensor i.
unfoldable pub sensor : ℕ → List Voter → Bool
sensor i vs = value_of (slice_index_or vs i (fresh_with false))

-- What the three sensors from i on say.
unfoldable pub three_from : ℕ → List Voter → Three
three_from i vs =
    record {
      any = sensor i vs || sensor (i + 1) vs || sensor (i + 2) vs;
      all = sensor i vs && sensor (i + 1) vs && sensor (i + 2) vs;
    }

-- Some sensor invalid.
unfoldable pub some_invalid : List Voter → Bool
some_invalid vs = some is_invalid vs

-- All that the monitors look at.
unfoldable pub sight_of : List Voter → Sight
sight_of vs =
    record {
      closed = three_from door_closed vs;
      opened = three_from door_open vs;
      extended = three_from gear_extended vs;
      retracted = three_from gear_retracted vs;
      pressurized = sensor circuit_pressurized vs;
      switch = sensor analogical_switch vs;
      invalid = some_invalid vs;
    }

-- What the sequence looks at: all doors seen open, all closed, all gears seen extended, all retracted.
unfoldable pub seen_of : Sight → Seen
seen_of see =
    record {
      opened = see.opened.all;
      closed = see.closed.all;
      extended = see.extended.all;
      retracted = see.retracted.all;
    }

-- What the voted handle aims at.
unfoldable pub aimed : List Voter → Aim
aimed vs = aim_of (sensor handle vs)

-- Request K7: any absorber voted on ground.
unfoldable pub on_ground : List Voter → Bool
on_ground vs = (three_from gear_shock_absorber vs).any
