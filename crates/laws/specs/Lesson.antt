-- A whole retraction and extension without red, with sensors that follow the orders; and a sensor that becomes invalid. They
-- show that the laws over every reached state speak of more than states at rest.
-- Assumes nothing.
use Rattle.std.specs.Prelude.{List, [], ◌∷◌, ◌++◌, ℕ, replicate}
use Rattle.sequence.specs.declared.Doors.{Doors}
use Rattle.sequence.specs.declared.Doors.TheVariants.{Closed, Opening, Open, Closing}
use Rattle.sequence.specs.declared.Gears.{Gears}
use Rattle.sequence.specs.declared.Gears.TheVariants.{Retracted, Extending, Extended, Retracting}
use Rattle.controller.specs.Samples.{rest, sees, Row, Line}
use Rattle.laws.specs.Evenly.{evenly}

-- Handle up, until the doors are CLOSING.
unfoldable pub retraction : List (List ℕ)
retraction =
    -- doors closed; the pressure comes
    sees 0 1 1 0 1 0 0 ∷ sees 0 1 1 0 1 0 1 ∷ sees 0 1 1 0 1 0 1 ∷
    -- doors leave, and are open
    sees 0 1 1 0 0 0 1 ∷ sees 0 1 1 0 0 1 1 ∷ sees 0 1 1 0 0 1 1 ∷
    -- gears leave, and are retracted
    sees 0 1 0 0 0 1 1 ∷ sees 0 1 0 1 0 1 1 ∷ sees 0 1 0 1 0 1 1 ∷
    []

-- The doors close; then handle down, until general_EV has stopped.
unfoldable pub extension : List (List ℕ)
extension =
    sees 0 1 0 1 0 0 1 ∷ sees 0 1 0 1 1 0 1 ∷
    -- handle down; doors leave, and are open
    sees 1 1 0 1 1 0 1 ∷ sees 1 1 0 1 0 0 1 ∷ sees 1 1 0 1 0 1 1 ∷ sees 1 1 0 1 0 1 1 ∷
    -- gears leave, and are extended
    sees 1 1 0 0 0 1 1 ∷ sees 1 1 1 0 0 1 1 ∷ sees 1 1 1 0 0 1 1 ∷
    -- doors leave, and are closed
    sees 1 1 1 0 0 0 1 ∷ replicate 11 (sees 1 1 1 0 1 0 1)

-- The whole lesson, a sample each 100 ms.
unfoldable pub lesson : List Row
lesson = evenly 100 0 (retraction ++ extension)

-- A line without refusal: general_EV, close_EV, open_EV, retract_EV, extend_EV; doors; gears; green, orange. Red is dark.
abbrev pub line : ℕ → ℕ → ℕ → ℕ → ℕ → Doors → Gears → ℕ → ℕ → Line
line general closes opens retracts extends doors gears green orange =
    (0, general ∷ closes ∷ opens ∷ retracts ∷ extends ∷ [], doors, gears, green ∷ orange ∷ 0 ∷ [])

-- What comes out.
unfoldable pub lesson_lines : List Line
lesson_lines =
    -- general_EV, then open_EV
    replicate 2 (line 1 0 0 0 0 Opening Extended 1 0) ++
    line 1 0 1 0 0 Opening Extended 1 0 ∷ line 1 0 1 0 0 Opening Extended 1 1 ∷ line 1 0 0 0 0 Open Extended 1 1 ∷
    -- retract_EV
    line 1 0 0 1 0 Open Retracting 1 1 ∷ line 1 0 0 1 0 Open Retracting 0 1 ∷ line 1 0 0 0 0 Open Retracted 0 1 ∷
    -- close_EV
    line 1 1 0 0 0 Closing Retracted 0 1 ∷ line 1 1 0 0 0 Closing Retracted 0 1 ∷ line 1 0 0 0 0 Closed Retracted 0 0 ∷
    -- handle down: open_EV
    line 1 0 1 0 0 Opening Retracted 0 0 ∷ line 1 0 1 0 0 Opening Retracted 0 1 ∷ line 1 0 0 0 0 Open Retracted 0 1 ∷
    -- extend_EV
    line 1 0 0 0 1 Open Extending 0 1 ∷ line 1 0 0 0 1 Open Extending 0 1 ∷ line 1 0 0 0 0 Open Extended 1 1 ∷
    -- close_EV; then general_EV stops
    line 1 1 0 0 0 Closing Extended 1 1 ∷ line 1 1 0 0 0 Closing Extended 1 1 ∷
    replicate 10 (line 1 0 0 0 0 Closed Extended 1 0) ++
    line 0 0 0 0 0 Closed Extended 1 0 ∷
    []

-- A sample in which the channels of the switch say this; all else is at rest.
abbrev pub switch_says : ℕ → ℕ → ℕ → List ℕ
switch_says one two three = 1 ∷ 1 ∷ 1 ∷ one ∷ two ∷ three ∷ rest 1 0 1 0 0

-- All at rest but the switch, of which channel 3 differs in three samples and then channel 2 in three: it is struck, then the sensor is
-- invalid.
unfoldable pub broken_switch : List Row
broken_switch =
    evenly 100 0
    (replicate 3 (switch_says 0 0 1) ++ replicate 3 (switch_says 0 1 0))
