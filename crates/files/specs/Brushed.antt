-- Request K5, "Students brush the harness all day": a lesson and the same lesson brushed. Bounces that are forgiven leave nothing behind but
-- odd channels and counts, which no row and no dump shows.
-- Assumes nothing.
use Rattle.std.specs.Prelude.{ℕ, ◌<◌, List, [], ◌∷◌, map, ◌≡◌, length, replicate}
use Rattle.voter.specs.declared.Voter.{Voter}
use Rattle.voter.specs.Voting.{uncounted, value_of}
use Rattle.voter.specs.Runs.{odd_in, majority, ThreeOdd}
use Rattle.controller.specs.declared.State.{State}
use Rattle.controller.specs.Answers.{Answer}
use Rattle.controller.specs.Steps.{some_over_one}
use Rattle.controller.specs.Samples.{Row}
use Rattle.image.specs.Items.{sensor_count}
use Rattle.laws.specs.Evenly.{evenly}
use Rattle.laws.specs.Lesson.{switch_says}
use Rattle.laws.specs.Bounces.{sensor_at, reading_at, readings_at}

-- A clean lesson: in each sample the three channels of each of the eighteen sensors agree.
abbrev pub Clean : List Row → Type 0
Clean [] = Unit {0}
Clean (r ∷ rs) = ((i : ℕ) → i < sensor_count → odd_in (reading_at i r.1) ≡ 0) × Clean rs

-- Two samples are the same but for bounces: at each of the eighteen sensors the majority says the same. Both are as long, and some byte is
-- over 1 in both or in neither.
pub record SameButForBounces (sample other : List ℕ) : Type 0 where
  pub long : length sample ≡ length other
  pub over : some_over_one sample ≡ some_over_one other
  pub majorities : (i : ℕ) → i < sensor_count → majority (reading_at i sample) ≡ majority (reading_at i other)

-- Two lists of rows are: as many on both sides, with equal stamps and such samples.
unfoldable pub Brushed : List Row → List Row → Type 0
Brushed [] [] = Unit {0}
Brushed [] (q ∷ qs) = ⊥
Brushed (r ∷ rs) [] = ⊥
Brushed (r ∷ rs) (q ∷ qs) = (r.0 ≡ q.0) × SameButForBounces r.1 q.1 × Brushed rs qs

-- Every bounce is forgiven: at no sensor three accepted samples in a row have the same channel as the odd one while all its channels are valid.
abbrev pub AllForgiven : State → List Row → Type 0
AllForgiven s rows = (i : ℕ) → i < length s.voters → (k : ℕ) → ThreeOdd k (sensor_at i s) (readings_at i s rows) → ⊥

-- A sensor and a controller with odd channels and counts at 0, ..
abbrev pub count_dropped : Voter → Voter
count_dropped v = uncounted v.channels (value_of v)

unfoldable pub counts_dropped : State → State
counts_dropped s = record { stamp = s.stamp; voters = map count_dropped s.voters; core = s.core }

-- .. and an answer.
abbrev pub but_for_counts : Answer → Answer
but_for_counts a = record { refusal = a.refusal; state = counts_dropped a.state }

-- ---- A lesson that meets all of this: the rig at rest, and its switch brushed

-- Row 0, and six samples 100 ms apart in which all channels agree.
unfoldable pub row_zero : Row
row_zero = (0, switch_says 0 0 0)

unfoldable pub clean_rows : List Row
clean_rows = evenly 100 0 (replicate 6 (switch_says 0 0 0))

-- The same with bounces: channel 3 twice, agreement, then channel 2 and channel 1 once each.
unfoldable pub brushed_rows : List Row
brushed_rows =
    evenly 100 0
    (switch_says 0 0 1 ∷ switch_says 0 0 1 ∷ switch_says 0 0 0 ∷ switch_says 0 1 0 ∷ switch_says 1 0 0 ∷ switch_says 0 0 0 ∷ [])
