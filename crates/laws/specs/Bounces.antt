-- Request K5 over the controller's run, "the third accepted sample in a row": what a sensor hears. A refused sample neither adds nor resets.
-- Assumes nothing.
use Rattle.std.specs.Prelude.{false, cond, List, [], ◌∷◌, ◌≡◌, ℕ, ◌+◌, ◌*◌, ◌<◌, T, eqb, length, get_or}
use Rattle.voter.specs.declared.Voter.{Voter}
use Rattle.voter.specs.declared.Channels.TheVariants.{All}
use Rattle.voter.specs.Voting.{fresh_with}
use Rattle.voter.specs.Counts.{CountKept, NoCountRunsAt}
use Rattle.voter.specs.Runs.{Reading, agree, Quiet}
use Rattle.controller.specs.declared.State.{State}
use Rattle.controller.specs.Votes.{channel}
use Rattle.controller.specs.Steps.{step_of}
use Rattle.controller.specs.Samples.{Row}
use Rattle.laws.specs.Times.{next}

-- Sensor i of a controller, counted from 0 in the sample's order.
abbrev pub sensor_at : ℕ → State → Voter
sensor_at i s = get_or s.voters i (fresh_with false)

-- All channels of every sensor are valid, ..
abbrev pub AllValid : State → Type 0
AllValid s = (i : ℕ) → i < length s.voters → (sensor_at i s).channels ≡ All

-- .. and every count is 0, as at a fresh start.
abbrev pub AllQuiet : State → Type 0
AllQuiet s = (i : ℕ) → i < length s.voters → Quiet (sensor_at i s)

-- The odd channel and the count of every sensor are as request K6 has them: in their ranges, and by its rules.
abbrev pub CountsKept : State → Type 0
CountsKept s = (i : ℕ) → i < length s.voters → CountKept (sensor_at i s)

-- Every count is 0.
abbrev pub CountsAre0 : State → Type 0
CountsAre0 s = (i : ℕ) → i < length s.voters → (sensor_at i s).count ≡ 0

-- At no sensor a count runs: no odd channel, and the count is 0.
abbrev pub NoCountRuns : State → Type 0
NoCountRuns s = (i : ℕ) → i < length s.voters → NoCountRunsAt (sensor_at i s)

-- What its three channels say in a sample.
abbrev pub reading_at : ℕ → List ℕ → Reading
reading_at i bytes = (channel bytes (3 * i), channel bytes (3 * i + 1), channel bytes (3 * i + 2))

-- What they say in the accepted ones of a list of samples.
unfoldable pub readings_at : ℕ → State → List Row → List Reading
readings_at i s [] = []
readings_at i s (r ∷ rs) =
    cond (eqb (step_of s r.0 r.1).refusal 0) (reading_at i r.1 ∷ readings_at i (next s r) rs) (readings_at i (next s r) rs)

-- At every sensor the valid channels say the same in a sample.
abbrev pub NoneDiffers : State → List ℕ → Type 0
NoneDiffers s bytes = (i : ℕ) → i < length s.voters → T (agree (sensor_at i s).channels (reading_at i bytes))
