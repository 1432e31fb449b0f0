-- The laws of document 01 ("Laws shown of these rules over every sequence"), each over one state. A law holds `Always` if it holds of
-- every state that the controller can come to; so do the conditions of request K3 (Conditions.antt of the image).
-- Assumes nothing.
use Rattle.std.specs.Prelude.{Bool, true, false, not, ◌&&◌, List, [], ◌∷◌, ℕ, T, eqb}
use Rattle.sequence.specs.Places.{are_closed, are_open}
use Rattle.controller.specs.declared.State.{State}
use Rattle.controller.specs.Votes.{handle, sensor, on_ground}
use Rattle.controller.specs.Steps.{step_of}
use Rattle.controller.specs.Shows.{general_ev, close_ev, open_ev, retract_ev, extend_ev, doors_of, gears_move, gears_rest, red, invalid_sensor}
use Rattle.image.specs.Items.{last_cause}
use Rattle.orders.specs.Timing.{oldest}
use Rattle.image.specs.Conditions.{OnHasGeneral}
use Rattle.laws.specs.Reached.{Reached}
use Rattle.laws.specs.GroundModel.{HandleStatus, OneMoveOrNone}
use Rattle.laws.specs.GroundModel.HandleStatus.{UP, DOWN}

-- ---- What is said of a state, beside what it shows

-- Doors not CLOSED, and no anomaly.
abbrev pub doors_out_without_red : State → Bool
doors_out_without_red s = not (are_closed (doors_of s)) && not (red s)

-- This is the cause; it is the last of the thirteen.
abbrev pub has_cause : ℕ → State → Bool
has_cause n s = eqb s.core.cause n

abbrev pub has_last_cause : State → Bool
has_last_cause = has_cause last_cause

-- Every age is the largest.
abbrev pub has_largest_ages : State → Bool
has_largest_ages s =
    eqb s.core.orders.general.age oldest &&
    eqb s.core.orders.closes.age oldest &&
    eqb s.core.orders.opens.age oldest &&
    eqb s.core.orders.retracts.age oldest &&
    eqb s.core.orders.extends.age oldest &&
    eqb s.core.since oldest

-- The handle that the votes of a step say: 1 = down.
abbrev pub status_of : Bool → HandleStatus
status_of true = DOWN
status_of false = UP

abbrev pub handle_of : State → HandleStatus
handle_of s = status_of (sensor handle s.voters)

-- Request K7: whether they say that any absorber is on ground.
abbrev pub ground_of : State → Bool
ground_of s = on_ground s.voters

-- ---- Over every sequence of samples, refused ones among them, from a fresh start or a taken image

-- A law holds of every reached state.
abbrev pub Always : (State → Type 0) → Type 0
Always Law = (s : State) → Reached s → Law s

-- A test holds of some reached state: a law on such states is not empty.
abbrev pub Sometimes : (State → Bool) → Type 0
Sometimes test = (s : State) × Reached s × T (test s)

-- So does each of these tests, of one or another.
abbrev pub AllSometimes : List (State → Bool) → Type 0
AllSometimes [] = Unit {0}
AllSometimes (test ∷ tests) = Sometimes test × AllSometimes tests

-- ---- Document 01

-- Opposites never together.
abbrev pub OppositesNeverTogether : State → Type 0
OppositesNeverTogether s = (T (open_ev s) → T (close_ev s) → ⊥) × (T (retract_ev s) → T (extend_ev s) → ⊥)

-- None of the four without general_EV.
abbrev pub NoneWithoutGeneral : State → Type 0
NoneWithoutGeneral = OnHasGeneral

-- Gear orders only with doors OPEN.
abbrev pub GearOrdersOnlyWithDoorsOpen : State → Type 0
GearOrdersOnlyWithDoorsOpen s = (T (retract_ev s) → T (are_open (doors_of s))) × (T (extend_ev s) → T (are_open (doors_of s)))

-- Door orders only with gears at rest.
abbrev pub DoorOrdersOnlyWithGearsAtRest : State → Type 0
DoorOrdersOnlyWithGearsAtRest s = (T (open_ev s) → T (gears_rest s)) × (T (close_ev s) → T (gears_rest s))

-- Doors and gears follow the ground model with the CLOSING case added, and request K7's, each step (a refused one too) being one move of
-- it or none, by the absorbers and the handle as this step voted them.
abbrev pub FollowsTheGroundModel : State → Type 0
FollowsTheGroundModel s =
    (stamp : ℕ) (bytes : List ℕ) →
    let later : State = (step_of s stamp bytes).state in OneMoveOrNone (ground_of later) (handle_of later) s.core.place later.core.place

-- ---- None of these laws is empty

-- What they and request K3's conditions speak of.
abbrev pub spoken_of : List (State → Bool)
spoken_of =
    -- each order on
    general_ev ∷ close_ev ∷ open_ev ∷ retract_ev ∷ extend_ev ∷
    -- gears move, and doors are not CLOSED without a cause
    gears_move ∷ doors_out_without_red ∷
    -- red is lit and a sensor is invalid; the last cause and the largest ages, so that their bounds are no lower
    red ∷ invalid_sensor ∷ has_last_cause ∷ has_largest_ages ∷
    []
