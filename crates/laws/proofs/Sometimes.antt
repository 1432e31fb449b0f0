-- Nothing is empty: a whole lesson without red comes out as printed, and each thing that the laws speak of holds of some
-- reached state. The rules compute.
-- Assumes nothing.
use Prim.Native.Nat.{ℕ}
use mathlib.Core.Bool.{Bool, true, false, ◌&&◌}
use mathlib.Core.List.{List, [], ◌∷◌, map}
use mathlib.Core.Path.{◌≡◌, refl}
use lib.Dec.{T}
use lib.ListN.{take}
use mir.Facts.{and_yes}
use Rattle.controller.specs.declared.State.{State}
use Rattle.controller.specs.Start.{fresh_of}
use Rattle.controller.specs.Steps.{step_of}
use Rattle.controller.specs.Samples.{Row, answers, after, line_of}
use Rattle.image.specs.Images.{loaded_at}
use Rattle.image.specs.Conditions.{Taken}
use Rattle.laws.specs.Reached.{Reached}
use Rattle.laws.specs.Reached.Reached.{fresh, loaded, step}
use Rattle.laws.specs.Laws.{Always, Sometimes, AllSometimes, spoken_of}
use Rattle.laws.specs.Lesson.{lesson, lesson_lines, broken_switch}
use Rattle.laws.specs.Wheels.{wheels, wheels_lines, stands_up}
use Rattle.laws.proofs.Computing.{runs}

-- A sequence of samples from a reached state comes to a reached state: what holds always holds after every sequence.
pub after_is_reached : (s : State) → Reached s → (rows : List Row) → Reached (after s rows)
unfolding after
after_is_reached s reached [] = reached
after_is_reached s reached (r ∷ rs) = after_is_reached (step_of s r.0 r.1).state (step reached r.0 r.1) rs

pub after_every_sequence : (Law : State → Type 0) → Always Law → (start : ℕ) (rows : List Row) → Law (after (fresh_of start) rows)
after_every_sequence Law always start rows = always _ (after_is_reached (fresh_of start) (fresh start) rows)

pub after_every_sequence_from_an_image :
    (Law : State → Type 0) →
    Always Law →
    (image : List ℕ) →
    Taken image →
    (stamp : ℕ) (rows : List Row) →
    Law (after (loaded_at stamp image) rows)
after_every_sequence_from_an_image Law always image taken stamp rows =
    always _ (after_is_reached (loaded_at stamp image) (loaded image taken stamp) rows)

-- Doors open, gears retract, doors close, handle down, doors open, gears extend, doors close, general_EV stops; never red.
pub a_whole_lesson : map line_of (answers (fresh_of 0) lesson) ≡ lesson_lines
unfolding runs
a_whole_lesson = refl

-- Request K7: handle up on its wheels nothing moves; when it lifts the retraction starts in that sample; doors turn round when it touches
-- before the gears leave, and RETRACTING goes on; never red.
pub on_and_off_its_wheels : map line_of (answers (fresh_of 0) wheels) ≡ wheels_lines
unfolding runs
on_and_off_its_wheels = refl

-- Each test holds after its samples from a fresh start.
abbrev each_met : List (State → Bool) → List (List Row) → Bool
each_met [] runs = true
each_met (test ∷ tests) [] = false
each_met (test ∷ tests) (rows ∷ more) = test (after (fresh_of 0) rows) && each_met tests more

by : (tests : List (State → Bool)) (runs : List (List Row)) → T (each_met tests runs) → AllSometimes tests
by [] runs met = tt
by (test ∷ tests) [] met = absurd met
by (test ∷ tests) (rows ∷ more) met =
    let parts = and_yes (test (after (fresh_of 0) rows)) (each_met tests more) met in
    ((after (fresh_of 0) rows, after_is_reached (fresh_of 0) (fresh 0) rows, parts.0), by tests more parts.1)

-- A state that stands on its wheels with the handle up is reached.
pub standing_up_is_met : Sometimes stands_up
unfolding runs
standing_up_is_met = (by (stands_up ∷ []) (take 2 wheels ∷ []) tt).0

-- Each thing that the laws speak of is met, in the lesson or with the switch that breaks: the laws are not empty.
pub each_is_met : AllSometimes spoken_of
unfolding runs
each_is_met =
    by spoken_of
    (take 1 lesson ∷ take 9 lesson ∷ take 3 lesson ∷ take 6 lesson ∷ take 15 lesson ∷
    take 6 lesson ∷ take 1 lesson ∷
    broken_switch ∷ broken_switch ∷ broken_switch ∷ [] ∷
    [])
    tt
