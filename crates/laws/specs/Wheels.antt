-- Request K7, worked: the handle goes up on its wheels, the rig lifts and touches at each stage, one absorber or another on ground.
-- Assumes nothing.
use Rattle.std.specs.Prelude.{Bool, not, ◌&&◌, List, [], ◌∷◌, ◌++◌, ℕ, replicate}
use Rattle.sequence.specs.declared.Doors.TheVariants.{Closed, Opening, Open, Closing}
use Rattle.sequence.specs.declared.Gears.TheVariants.{Retracted, Extended, Retracting}
use Rattle.sequence.specs.Places.{are_closed, are_extended}
use Rattle.controller.specs.declared.State.{State}
use Rattle.controller.specs.Votes.{handle, sensor}
use Rattle.controller.specs.Shows.{doors_of, gears_of, red}
use Rattle.controller.specs.Samples.{agreeing, rest_with, flight, Row, Line}
use Rattle.laws.specs.Evenly.{evenly}
use Rattle.laws.specs.Laws.{ground_of}
use Rattle.laws.specs.Lesson.{line}

-- A sample with the handle up and the switch as it is said (1 = closed), by what the absorbers say (front, left, right), and what all three of
-- a kind do: gears extended, retracted, doors closed, open; and the pressure.
unfoldable pub up_with : ℕ → List ℕ → ℕ → ℕ → ℕ → ℕ → ℕ → List ℕ
up_with switch absorbers extended retracted closed opened pressurized =
    agreeing (0 ∷ switch ∷ []) ++ rest_with absorbers extended retracted closed opened pressurized

-- One absorber on ground.
abbrev pub front : List ℕ
front = 1 ∷ 0 ∷ 0 ∷ []

abbrev pub left : List ℕ
left = 0 ∷ 1 ∷ 0 ∷ []

abbrev pub right : List ℕ
right = 0 ∷ 0 ∷ 1 ∷ []

-- From a fresh start, a sample each 100 ms.
unfoldable pub wheels : List Row
wheels =
    evenly 100 0
    ( -- it stands on the right wheel, with the handle up; then it lifts, and the pressure comes
    up_with 1 right 1 0 1 0 0 ∷ up_with 1 right 1 0 1 0 0 ∷
    up_with 1 flight 1 0 1 0 0 ∷ up_with 1 flight 1 0 1 0 1 ∷ up_with 1 flight 1 0 1 0 1 ∷
    -- the front wheel touches while the doors leave; they are closed again
    up_with 1 front 1 0 0 0 1 ∷ up_with 1 front 1 0 0 0 1 ∷ up_with 1 front 1 0 1 0 1 ∷
    -- it lifts, the doors are open, and the left wheel touches before the gears leave
    up_with 1 flight 1 0 1 0 1 ∷ up_with 1 flight 1 0 0 1 1 ∷ up_with 1 left 1 0 0 1 1 ∷
    -- it lifts while the doors are CLOSING; the gears leave
    up_with 1 flight 1 0 0 1 1 ∷ up_with 1 flight 1 0 0 1 1 ∷ up_with 1 flight 1 0 0 1 1 ∷
    -- it touches while they are RETRACTING: they go on
    up_with 1 right 0 0 0 1 1 ∷ up_with 1 right 0 1 0 1 1 ∷
    [])

-- What comes out.
unfoldable pub wheels_lines : List Line
wheels_lines =
    -- nothing moves; then general_EV, and open_EV
    replicate 2 (line 0 0 0 0 0 Closed Extended 1 0) ++
    replicate 2 (line 1 0 0 0 0 Opening Extended 1 0) ++
    line 1 0 1 0 0 Opening Extended 1 0 ∷
    -- the doors turn round; close_EV waits for open_EV
    line 1 0 0 0 0 Closing Extended 1 1 ∷ line 1 1 0 0 0 Closing Extended 1 1 ∷ line 1 0 0 0 0 Closed Extended 1 0 ∷
    -- the retraction starts by itself, and the doors turn round at OPEN
    line 1 0 1 0 0 Opening Extended 1 0 ∷ line 1 0 0 0 0 Open Extended 1 1 ∷ line 1 1 0 0 0 Closing Extended 1 1 ∷
    -- once more
    line 1 0 0 0 0 Opening Extended 1 1 ∷ line 1 0 0 0 0 Open Extended 1 1 ∷ line 1 0 0 1 0 Open Retracting 1 1 ∷
    -- RETRACTING goes on
    line 1 0 0 1 0 Open Retracting 0 1 ∷ line 1 0 0 0 0 Open Retracted 0 1 ∷
    []

-- The handle up, some absorber on ground, doors CLOSED, gears EXTENDED, no red: it stands on its wheels.
abbrev pub stands_up : State → Bool
stands_up s = not (sensor handle s.voters) && ground_of s && are_closed (doors_of s) && are_extended (gears_of s) && not (red s)
