-- Request K6, worked over the rules: a sensor at which a count runs, as items and back.
-- Assumes nothing.
use Rattle.std.specs.Prelude.{List, [], ◌∷◌, false, true}
use Rattle.common.specs.Case.{Case}
use Rattle.voter.specs.declared.Channels.TheVariants.{All, Without3}
use Rattle.voter.specs.Voting.{sensor}
use Rattle.voter.specs.Cases.{shown}
use Rattle.sensors.specs.Items.{sensor_items, sensor_in}

unfoldable pub sensors_cases : List Case
sensors_cases =
    record { name = "channel 3 odd in 2 samples, held 1"; gives = sensor_items (sensor All true 3 2); wanted = 0 ∷ 1 ∷ 3 ∷ 2 ∷ [] } ∷
    record { name = "channel 3 struck, the two differed once, held 0"; gives = sensor_items (sensor Without3 false 0 1); wanted = 3 ∷ 0 ∷ 0 ∷ 1 ∷ [] } ∷
    -- a sensor shown: value, channels, odd channel, count
    record { name = "back from its items"; gives = shown (sensor_in (0 ∷ 1 ∷ 3 ∷ 2 ∷ [])); wanted = 1 ∷ 0 ∷ 3 ∷ 2 ∷ [] } ∷
    record { name = "and so"; gives = shown (sensor_in (3 ∷ 0 ∷ 0 ∷ 1 ∷ [])); wanted = 0 ∷ 3 ∷ 0 ∷ 1 ∷ [] } ∷
    []
