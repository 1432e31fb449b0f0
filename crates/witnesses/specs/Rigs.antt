-- Request K8, worked: lessons of the joined rig, with a step each 100 ms. Not empty and not too strong: at 3 and 2 parts a ms a whole lesson goes by
-- without red, and with slower doors or slower gears red lights.
-- Assumes nothing.
use Rattle.std.specs.Prelude.{ℕ, zero, suc, ◌+◌, Bool, true, false, List, [], ◌∷◌, ◌++◌, replicate}
use Rattle.common.specs.Case.{Case}
use Rattle.sequence.specs.Numbers.{doors_number, gears_number}
use Rattle.controller.specs.Steps.{limit}
use Rattle.cylinder.specs.Fractions.{fraction}
use Rattle.joined.specs.declared.Given.{Given}
use Rattle.joined.specs.declared.Given.TheVariants.{Rate}
use Rattle.joined.specs.declared.Rig.{Rig}
use Rattle.joined.specs.Rigs.{start_of}
use Rattle.hydraulics.specs.Inputs.{Input, after}

-- So many parts a ms for each door and for each gear.
abbrev pub steady : ℕ → ℕ → List Given
steady doors gears = replicate 3 (Rate (fraction doors)) ++ replicate 3 (Rate (fraction gears))

-- So many steps with the handle so (true for down), each 100 ms after the one before, the first after this stamp.
unfoldable pub steps_from : ℕ → ℕ → Bool → List Given → List Input
steps_from stamp zero down givens = []
steps_from stamp (suc more) down givens =
    record { stamp = stamp + 100; down = down; givens = givens } ∷ steps_from (stamp + 100) more down givens

-- What a rig shows in the end: cause, doors and gears by their numbers (request K3).
unfoldable pub shown_of : Rig → List ℕ
shown_of rig = rig.controller.core.cause ∷ doors_number rig.controller.core.place.doors ∷ gears_number rig.controller.core.place.gears ∷ []

-- From a start at stamp 0, such steps.
unfoldable pub ends : List Input → List ℕ
ends inputs = shown_of (after limit (start_of 0) inputs)

-- The handle goes up for 20 s, and down for 20 s.
unfoldable pub up_and_down : ℕ → ℕ → List Input
up_and_down doors gears = steps_from 0 200 false (steady doors gears) ++ steps_from 20000 200 true (steady doors gears)

unfoldable pub rig_cases : List Case
rig_cases =
    record { name = "3 and 2, up and down: no red, doors CLOSED, gears EXTENDED"; gives = ends (up_and_down 3 2); wanted = 0 ∷ 0 ∷ 2 ∷ [] } ∷
    record { name = "doors at 2: cause 2"; gives = ends (steps_from 0 80 false (steady 2 16)); wanted = 2 ∷ 1 ∷ 2 ∷ [] } ∷
    record { name = "gears at 1: cause 6"; gives = ends (steps_from 0 125 false (steady 16 1)); wanted = 6 ∷ 2 ∷ 3 ∷ [] } ∷
    []
