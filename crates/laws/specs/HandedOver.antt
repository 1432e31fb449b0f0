-- Request K3, "Hand a lesson to another laptop": what it is to go on as if the lesson had not been handed over. The other laptop has a
-- clock of its own: stamps differ, and only the time that has elapsed since the last accepted sample counts.
-- Assumes nothing.
use Rattle.std.specs.Prelude.{List, [], ◌∷◌, map, ◌≡◌, ℕ, ◌+◌, ◌<◌, ◌%◌, ◌^◌}
use Rattle.controller.specs.declared.State.{State}
use Rattle.controller.specs.Answers.{Answer}
use Rattle.controller.specs.Start.{started_at}
use Rattle.controller.specs.Stages.{elapsed_of}
use Rattle.controller.specs.Steps.{step_of}
use Rattle.controller.specs.Samples.{Row, answers}

-- ---- The same answers

-- An answer but for the stamp: the refusal, and all else of the state.
abbrev pub but_for_stamp : Answer → Answer
but_for_stamp a = record { refusal = a.refusal; state = started_at 0 a.state }

-- Two controllers, each with its own samples, answer the same but for the stamps, from the first sample to the last.
abbrev pub AnswerTheSame : State → List Row → State → List Row → Type 0
AnswerTheSame s rows other other_rows = map but_for_stamp (answers s rows) ≡ map but_for_stamp (answers other other_rows)

-- ---- The same samples at the same times

-- Each row has the same sample on both sides, and as much has elapsed there since the last accepted one.
unfoldable pub SameTimes : State → List Row → State → List Row → Type 0
SameTimes s [] other [] = Unit {0}
SameTimes s [] other (q ∷ qs) = ⊥
SameTimes s (r ∷ rs) other [] = ⊥
SameTimes s (r ∷ rs) other (q ∷ qs) =
    (r.1 ≡ q.1) ×
    (elapsed_of s.stamp r.0 ≡ elapsed_of other.stamp q.0) ×
    SameTimes (step_of s r.0 r.1).state rs (step_of other q.0 q.1).state qs

-- ---- A clock that is ahead

-- A stamp on a clock that is so many ms ahead, modulo 2^32.
unfoldable pub ahead : ℕ → ℕ → ℕ
ahead ms stamp = (stamp + ms) % 2 ^ 32

-- The same rows by that clock.
abbrev pub all_ahead : ℕ → List Row → List Row
all_ahead ms rows = map (λ (r : Row). (ahead ms r.0, r.1)) rows

-- Stamps are of 32 bits.
unfoldable pub Of32Bits : List Row → Type 0
Of32Bits [] = Unit {0}
Of32Bits (r ∷ rs) = (r.0 < 2 ^ 32) × Of32Bits rs
