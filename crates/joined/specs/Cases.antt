-- Request K8, the joined rig, worked over the rule from a start at stamp 1,000: which number a step gets, what the sensors say, where the
-- cylinders stand, and what the drawing engine is handed.
-- Assumes nothing.
use Rattle.std.specs.Prelude.{ℕ, ◌*◌, Bool, true, false, List, [], ◌∷◌, ◌++◌, map, replicate, slice_index_or, slice_set, Float}
use Prim.Native.String.{String}
use mathlib.Core.List.{flatten}
use Rattle.common.specs.Bits.{bit}
use Rattle.common.specs.Case.{Case}
use Rattle.common.specs.Lists.{given_from}
use Rattle.cylinder.specs.declared.Cylinder.{Cylinder}
use Rattle.cylinder.specs.Fractions.{stroke, fraction}
use Rattle.cylinder.specs.Moves.{position_parts}
use Rattle.cylinder.specs.Cases.{with_bits, parts_shown, handed_in}
use Rattle.joined.specs.declared.Given.{Given}
use Rattle.joined.specs.declared.Given.TheVariants.{Rate, StuckAt}
use Rattle.joined.specs.declared.Rig.{Rig}
use Rattle.joined.specs.Answers.{Stepped}
use Rattle.joined.specs.Rigs.{start_of, step_of}
use Rattle.joined.specs.Drawn.{floats_of, drawn_of}

-- ---- What is given

-- All six at 4/16384 of a stroke per ms.
unfoldable pub at_four : List Given
at_four = replicate 6 (Rate (fraction 4))

-- The same, with another for one of the six.
unfoldable pub but : ℕ → Given → List Given
but i given = slice_set at_four i given

unfoldable pub started : Rig
started = start_of 1000

-- ---- Which number a step gets

-- A step in which the handle goes up, from the start or another rig: its number, and handle, time since its move, the last accepted stamp and
-- the position of the right gear after it.
unfoldable pub number_of : Stepped → List ℕ
number_of s =
    s.refusal ∷ bit s.rig.down ∷ s.rig.since ∷ s.rig.controller.stamp ∷
    parts_shown (position_parts (slice_index_or s.rig.cylinders 5 (handed_in 0 0)).position)

unfoldable pub up_from : Rig → String → ℕ → List Given → List ℕ → Case
up_from rig name stamp givens wanted = record { name = name; gives = number_of (step_of rig stamp false givens); wanted = wanted }

unfoldable pub up : String → ℕ → List Given → List ℕ → Case
up = up_from started

-- Refused with this number: all is as at the start.
abbrev pub refused_with : ℕ → List ℕ
refused_with n = n ∷ 1 ∷ 60000 ∷ 1000 ∷ 1 ∷ stroke ∷ []

-- The start with another front door.
unfoldable pub with_front_door : Cylinder → Rig
with_front_door c =
    record {
      cylinders = slice_set started.cylinders 0 c;
      down = started.down;
      since = started.since;
      sample = started.sample;
      controller = started.controller;
    }

unfoldable pub number_cases : List Case
number_cases =
    up "one of the six at 17/16384: 13, before 3" 1000 (but 5 (Rate (fraction 17))) (refused_with 13) ∷
    up "one at a rate of 0" 1050 (but 0 (Rate (fraction 0))) (refused_with 13) ∷
    up "one stuck at 16385/16384: 13, before 4" 1101 (but 5 (StuckAt (fraction 16385))) (refused_with 13) ∷
    up "one stuck at minus zero" 1050 (but 3 (StuckAt (with_bits 0x8000_0000))) (refused_with 13) ∷
    up_from (with_front_door (handed_in 0x8000_0000 0)) "a door handed in at minus zero" 1050 at_four (refused_with 13) ∷
    up "elapsed 0" 1000 at_four (refused_with 3) ∷
    up "elapsed 101" 1101 at_four (refused_with 4) ∷
    up "elapsed 100 is accepted" 1100 at_four (0 ∷ 0 ∷ 0 ∷ 1100 ∷ 1 ∷ stroke ∷ []) ∷
    up "and stuck at 1/2, which is where it stands" 1100 (but 5 (StuckAt (fraction 8192))) (0 ∷ 0 ∷ 0 ∷ 1100 ∷ 1 ∷ 8192 ∷ []) ∷
    []

-- ---- What the sensors say

-- The first channel of each of the eighteen.
unfoldable pub sensors_shown : Rig → List ℕ
sensors_shown rig = given_from (λ (i : ℕ). slice_index_or rig.sample (3 * i) 9) 0 18

unfoldable pub sensors_at : String → Rig → List ℕ → Case
sensors_at name rig wanted = record { name = name; gives = sensors_shown rig; wanted = wanted }

-- The rig after an accepted step.
unfoldable pub next : ℕ → Bool → List Given → Rig → Rig
next stamp down givens rig = (step_of rig stamp down givens).rig

-- The handle up at stamp 1,050, all at 4.
unfoldable pub after_up : Rig
after_up = next 1050 false at_four started

-- The start with the handle's last move some ms ago.
unfoldable pub moved_ago : ℕ → Rig
moved_ago ms =
    record {
      cylinders = started.cylinders;
      down = started.down;
      since = ms;
      sample = started.sample;
      controller = started.controller;
    }

-- The sensors by handle, switch, gears extended and retracted, doors closed and open, and pressure.
abbrev pub saying : ℕ → ℕ → List ℕ → List ℕ → List ℕ → List ℕ → ℕ → List ℕ
saying handle switch extended retracted closed opened pressure =
    handle ∷ switch ∷ extended ++ retracted ++ replicate 3 0 ++ closed ++ opened ++ pressure ∷ []

abbrev pub all : List ℕ
all = replicate 3 1

abbrev pub none : List ℕ
none = replicate 3 0

unfoldable pub sensor_cases : List Case
sensor_cases =
    sensors_at "at the start" started (saying 1 0 all none all none 0) ∷
    sensors_at "the handle down: no move, so the switch is open" (next 1050 true at_four started) (saying 1 0 all none all none 0) ∷
    sensors_at "up in the first sample: a move, so the switch is closed; pressure as before the step" after_up (saying 0 1 all none all none 0) ∷
    sensors_at "pressure in the sample after general_EV" (next 1100 false at_four after_up) (saying 0 1 all none all none 1) ∷
    sensors_at "19,999 ms since a move: closed" (next 1050 true at_four (moved_ago 19949)) (saying 1 1 all none all none 0) ∷
    sensors_at "20,000 ms: open" (next 1050 true at_four (moved_ago 19950)) (saying 1 0 all none all none 0) ∷
    sensors_at "the front door stuck at 1/2: neither closed nor open" (next 1050 true (but 0 (StuckAt (fraction 8192))) started)
    (saying 1 0 all none (0 ∷ 1 ∷ 1 ∷ []) none 0) ∷
    sensors_at "stuck at 1: open" (next 1050 true (but 0 (StuckAt (fraction 16384))) started) (saying 1 0 all none (0 ∷ 1 ∷ 1 ∷ []) (1 ∷ 0 ∷ 0 ∷ []) 0) ∷
    sensors_at "the left gear stuck 1/16384 short of 1: not extended" (next 1050 true (but 4 (StuckAt (fraction 16383))) started)
    (saying 1 0 (1 ∷ 0 ∷ 1 ∷ []) none all none 0) ∷
    sensors_at "the right gear stuck at 0: retracted" (next 1050 true (but 5 (StuckAt (fraction 0))) started)
    (saying 1 0 (1 ∷ 1 ∷ 0 ∷ []) (0 ∷ 0 ∷ 1 ∷ []) all none 0) ∷
    []

-- ---- Where the cylinders stand

-- The handle up at these stamps, the front door at 3, the others at 4.
unfoldable pub up_at : List ℕ → Rig → Rig
up_at [] rig = rig
up_at (stamp ∷ stamps) rig = up_at stamps (next stamp false (but 0 (Rate (fraction 3))) rig)

-- Each float in 16384ths, behind a 1; 0 where it is none.
unfoldable pub floats_shown : List Float → List ℕ
floats_shown floats = flatten (map (λ (x : Float). parts_shown (position_parts x)) floats)

unfoldable pub stands_shown : String → Rig → List ℕ → Case
stands_shown name rig wanted = record { name = name; gives = floats_shown (floats_of rig.cylinders); wanted = wanted }

-- A cylinder at so many parts that shows so many.
abbrev pub standing : ℕ → ℕ → List ℕ
standing position rate = 1 ∷ position ∷ 1 ∷ rate ∷ []

-- Three of them.
abbrev pub three : List ℕ → List ℕ
three one = one ++ one ++ one

unfoldable pub move_cases : List Case
move_cases =
    stands_shown "general_EV is on for 200 ms, open_EV goes on: nothing has moved" (up_at (1050 ∷ 1150 ∷ 1250 ∷ []) started)
    (three (standing 0 0) ++ three (standing stroke 0)) ∷
    stands_shown "100 ms later the doors have moved, each at its rate" (up_at (1050 ∷ 1150 ∷ 1250 ∷ 1350 ∷ []) started)
    (standing 300 3 ++ standing 400 4 ++ standing 400 4 ++ three (standing stroke 0)) ∷
    []

-- ---- For the drawing engine

-- Position and rate of the six into a buffer of so many places that holds 5/16384 throughout: the answer, and the buffer.
unfoldable pub drawn_into : String → ℕ → List ℕ → Case
drawn_into name places wanted =
    let drawn : ℕ × List Float = drawn_of started.cylinders (replicate places (fraction 5)) in
    record { name = name; gives = drawn.0 ∷ floats_shown drawn.1; wanted = wanted }

unfoldable pub drawn_cases : List Case
drawn_cases =
    drawn_into "11 places: 8, and it stays" 11 (8 ∷ flatten (replicate 11 (1 ∷ 5 ∷ []))) ∷
    drawn_into "12 places" 12 (0 ∷ three (standing 0 0) ++ three (standing stroke 0)) ∷
    drawn_into "13 places: the last stays" 13 (0 ∷ three (standing 0 0) ++ three (standing stroke 0) ++ 1 ∷ 5 ∷ []) ∷
    []
