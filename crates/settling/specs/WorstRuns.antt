-- Document 01, "Both sides of each threshold": "a run that settles 24,796 ms after its first sample, so the bound can't drop". Each wait
-- ends just short of its threshold and so takes one step more, and what an order is for is seen only where its monitor would else find
-- a cause.
-- Assumes nothing.
use Rattle.std.specs.Prelude.{Bool, false, List, [], ◌∷◌, ◌++◌, ℕ, ◌+◌, ◌*◌, replicate}
use Rattle.controller.specs.declared.State.{State}
use Rattle.controller.specs.Start.{fresh_of}
use Rattle.controller.specs.Stages.{anomaly}
use Rattle.controller.specs.Samples.{sees, Row, after}
use Rattle.laws.specs.Evenly.{evenly}
use Rattle.settling.specs.Runs.{Absorbers, held, elapsed_since}
use Rattle.settling.specs.Settled.{is_settled}

-- Some samples with the same bytes, each so many ms after the one before.
pub record Stretch : Type 0 where
  pub samples : ℕ
  pub apart : ℕ
  pub bytes : List ℕ

-- With the handle up, by switch (1 = closed), gears retracted, doors closed, open, and the pressure.
abbrev pub stretch : ℕ → ℕ → ℕ → ℕ → ℕ → ℕ → ℕ → Stretch
stretch samples apart switch retracted closed opened pressurized =
    record { samples = samples; apart = apart; bytes = sees 0 switch 0 retracted closed opened pressurized }

-- One stretch after the other, the first after this stamp.
unfoldable pub rows_from : ℕ → List Stretch → List Row
rows_from last [] = []
rows_from last (x ∷ xs) = evenly x.apart last (replicate x.samples x.bytes) ++ rows_from (last + x.samples * x.apart) xs

-- It begins at a fresh start.
unfoldable pub start : State
start = fresh_of 1000

-- The first sample: the handle goes up, general_EV starts.
unfoldable pub first_row : Row
first_row = (1001, sees 0 1 0 0 0 0 0)

-- Up to the last sample at which it is not settled: doors are still CLOSING.
unfoldable pub stretches : List Stretch
stretches =
    -- at age 199 general_EV still holds open_EV back
    stretch 1 100 1 0 0 0 1 ∷
    stretch 1 99 1 0 0 0 1 ∷
    -- open_EV to age 6,999
    stretch 70 100 1 0 0 0 1 ∷
    stretch 1 99 1 0 0 0 1 ∷
    -- doors seen open; then retract_EV to age 9,999
    stretch 101 100 1 0 0 1 1 ∷
    stretch 1 99 1 0 0 1 1 ∷
    -- gears seen retracted; then close_EV, the switch opening at handle age 20,000 or more, to age 6,999
    stretch 1 100 1 1 0 1 1 ∷
    stretch 1 100 1 0 0 1 1 ∷
    stretch 23 100 1 0 0 0 1 ∷
    stretch 46 100 0 0 0 0 1 ∷
    stretch 1 99 0 0 0 0 1 ∷
    []

-- Doors seen closed, 100 ms later.
unfoldable pub closed_at_last : Stretch
closed_at_last = stretch 1 100 0 0 1 0 1

-- What follows the first sample, up to there, and with doors seen closed.
unfoldable pub late : List Row
late = rows_from 1001 stretches

unfoldable pub latest : List Row
latest = rows_from 1001 (stretches ++ closed_at_last ∷ [])

-- ---- The other way to settle

-- No pressure while general_EV is on for 2,000 ms.
unfoldable pub unpressurized : List Row
unpressurized = rows_from 1001 (stretch 20 100 1 0 0 0 0 ∷ [])

-- ---- What is said of these runs

-- What a run with the handle up shows at its last sample: handle and absorbers were held, the time since its first sample, red, settled.
pub record Shown : Type 0 where
  pub is_held : Bool
  pub since : ℕ
  pub is_red : Bool
  pub is_settled : Bool

-- No absorber is on ground.
abbrev pub in_flight : Absorbers
in_flight = (false, false, false)

-- The run of the first sample and these.
abbrev pub shown : List Row → Shown
shown rest =
    record {
      is_held = held false in_flight start (first_row ∷ rest);
      since = elapsed_since start (first_row ∷ rest);
      is_red = anomaly (after start (first_row ∷ rest)).core;
      is_settled = is_settled false (after start (first_row ∷ rest));
    }
