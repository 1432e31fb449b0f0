-- Document 01, "Orders": "A wanted one that is off starts if general_EV was on before this step with age 200 or more, and its opposite
-- was off with age 100 or more." And what it names as easy to get wrong: "Starting close_EV in the step that stops open_EV."
-- Assumes nothing.
use Rattle.std.specs.Prelude.{Bool, not, ◌&&◌, List, ℕ, ◌+◌, ◌≤◌, T}
use Rattle.controller.specs.declared.State.{State}
use Rattle.controller.specs.Samples.{Row, after}
use Rattle.laws.specs.Times.{next, accepted_at}
use Rattle.laws.specs.Ages.{time_since, Timer, is_on, age_of}
use Rattle.laws.specs.Ages.Timer.{of_general, of_close, of_open, of_retract, of_extend}

-- One of the four orders, and its opposite.
pub data Opposites : Timer → Timer → Type 0 where
  close_open : Opposites of_close of_open
  open_close : Opposites of_open of_close
  retract_extend : Opposites of_retract of_extend
  extend_retract : Opposites of_extend of_retract

-- At this sample an order starts; it stops.
abbrev pub starts_at : Timer → State → Row → Bool
starts_at o s r = not (is_on o s) && is_on o (next s r)

abbrev pub stops_at : Timer → State → Row → Bool
stops_at o s r = is_on o s && not (is_on o (next s r))

-- None of the four starts in the step that stops its opposite.
abbrev pub NoneStartsAsItsOppositeStops : State → Type 0
NoneStartsAsItsOppositeStops s =
    (o opposite : Timer) → Opposites o opposite → (r : Row) → T (starts_at o s r) → T (stops_at opposite s r) → ⊥

-- On before a sample, with this age or more when it has grown by what the sample adds; off so.
abbrev pub WasOn : ℕ → Timer → State → ℕ → Type 0
WasOn ms o s added = T (is_on o s) × (ms ≤ age_of o s + added)

abbrev pub WasOff : ℕ → Timer → State → ℕ → Type 0
WasOff ms o s added = T (not (is_on o s)) × (ms ≤ age_of o s + added)

-- One of the four starts only after its waits.
abbrev pub StartsAfterItsWaits : State → Type 0
StartsAfterItsWaits s =
    (o opposite : Timer) →
    Opposites o opposite →
    (r : Row) →
    T (starts_at o s r) →
    WasOn 200 of_general s (accepted_at s r) × WasOff 100 opposite s (accepted_at s r)

-- The same by accepted time, over any samples and the next one: general_EV last changed 200 ms before or more, and its opposite 100.
abbrev pub StartsInTime : State → Type 0
StartsInTime s =
    (o opposite : Timer) →
    Opposites o opposite →
    (rows : List Row) (r : Row) →
    T (starts_at o (after s rows) r) →
    (200 ≤ time_since (is_on of_general) (age_of of_general s) s rows + accepted_at (after s rows) r) ×
    (100 ≤ time_since (is_on opposite) (age_of opposite s) s rows + accepted_at (after s rows) r)
