-- 001, Code 1: the ground model of doors and gears, driven by the handle alone, with no sensors. Each constructor is one
-- assignment of the printed rules, in their order. Document 01 adds one case and request K7 another; both stand apart.
-- Assumes nothing.
use Rattle.std.specs.Prelude.{Bool, true, ◌⊎◌, ◌≡◌, T}
use Rattle.sequence.specs.declared.Doors.{Doors}
use Rattle.sequence.specs.declared.Doors.TheVariants.{Closed, Opening, Open, Closing}
use Rattle.sequence.specs.declared.Gears.{Gears}
use Rattle.sequence.specs.declared.Gears.TheVariants.{Retracted, Extending, Extended, Retracting}
use Rattle.sequence.specs.declared.Place.{Place}
use Rattle.sequence.specs.Moves.{place}

-- enum domain HandleStatus
pub data HandleStatus : Type 0 where
  UP DOWN : HandleStatus

-- default init s0
abbrev pub initial : Place
initial = place Closed Extended

-- invariant over gears, doors: (gears = EXTENDING or gears = RETRACTING) implies doors = OPEN
abbrev pub FirstInvariant : Place → Type 0
FirstInvariant p = (p.gears ≡ Extending) ⊎ (p.gears ≡ Retracting) → p.doors ≡ Open

-- invariant over gears, doors: doors = CLOSED implies (gears = EXTENDED or gears = RETRACTED)
abbrev pub SecondInvariant : Place → Type 0
SecondInvariant p = p.doors ≡ Closed → (p.gears ≡ Extended) ⊎ (p.gears ≡ Retracted)

-- rule r_closeDoor
pub data CloseDoor : Doors → Doors → Type 0 where
  open_to_closing : CloseDoor Open Closing
  closing_to_closed : CloseDoor Closing Closed
  opening_to_closing : CloseDoor Opening Closing

-- rule r_retractionSequence
pub data RetractionSequence : Place → Place → Type 0 where
  -- if gears != RETRACTED then switch doors
  retraction_closed : {gears : Gears} → ¬ (gears ≡ Retracted) → RetractionSequence (place Closed gears) (place Opening gears)
  retraction_closing : {gears : Gears} → ¬ (gears ≡ Retracted) → RetractionSequence (place Closing gears) (place Opening gears)
  retraction_opening : {gears : Gears} → ¬ (gears ≡ Retracted) → RetractionSequence (place Opening gears) (place Open gears)
  -- case OPEN: switch gears
  retraction_extended : RetractionSequence (place Open Extended) (place Open Retracting)
  retraction_retracting : RetractionSequence (place Open Retracting) (place Open Retracted)
  retraction_extending : RetractionSequence (place Open Extending) (place Open Retracting)
  -- else r_closeDoor
  retraction_else : {from to : Doors} → CloseDoor from to → RetractionSequence (place from Retracted) (place to Retracted)

-- rule r_outgoingSequence
pub data OutgoingSequence : Place → Place → Type 0 where
  -- if gears != EXTENDED then switch doors
  outgoing_closed : {gears : Gears} → ¬ (gears ≡ Extended) → OutgoingSequence (place Closed gears) (place Opening gears)
  outgoing_opening : {gears : Gears} → ¬ (gears ≡ Extended) → OutgoingSequence (place Opening gears) (place Open gears)
  -- case OPEN: switch gears
  outgoing_retracted : OutgoingSequence (place Open Retracted) (place Open Extending)
  outgoing_extending : OutgoingSequence (place Open Extending) (place Open Extended)
  outgoing_retracting : OutgoingSequence (place Open Retracting) (place Open Extending)
  -- else r_closeDoor
  outgoing_else : {from to : Doors} → CloseDoor from to → OutgoingSequence (place from Extended) (place to Extended)

-- main rule r_Main, as 001 prints it
pub data PrintedMove : HandleStatus → Place → Place → Type 0 where
  retracts : {p q : Place} → RetractionSequence p q → PrintedMove UP p q
  outgoes : {p q : Place} → OutgoingSequence p q → PrintedMove DOWN p q

-- Request K7: "With the handle up, gears EXTENDED and any absorber voted on ground".
abbrev pub OnItsWheels : Bool → HandleStatus → Gears → Type 0
OnItsWheels grounded handle gears = T grounded × (handle ≡ UP) × (gears ≡ Extended)

-- The ground model with both cases added. On its wheels what is printed is no move: the added case stands in its place.
pub data Move : Bool → HandleStatus → Place → Place → Type 0 where
  printed : {grounded : Bool} {handle : HandleStatus} {p q : Place} → ¬ OnItsWheels grounded handle p.gears → PrintedMove handle p q → Move grounded handle p q
  -- ADDED by document 01: "001 prints no CLOSING case for the outgoing sequence."
  added_closing : {grounded : Bool} {gears : Gears} → ¬ (gears ≡ Extended) → Move grounded DOWN (place Closing gears) (place Opening gears)
  -- ADDED by request K7: there the sequence "acts as if gears were at the aim", and so r_closeDoor stands in place of the retraction.
  added_on_ground : {from to : Doors} → CloseDoor from to → Move true UP (place from Extended) (place to Extended)

-- One move of the ground model or none.
pub data OneMoveOrNone : Bool → HandleStatus → Place → Place → Type 0 where
  one_move : {grounded : Bool} {handle : HandleStatus} {p q : Place} → Move grounded handle p q → OneMoveOrNone grounded handle p q
  no_move : {grounded : Bool} {handle : HandleStatus} {p : Place} → OneMoveOrNone grounded handle p p

-- Where the ground model comes to from its initial state, whatever ground and handle do.
pub data OfTheGroundModel : Place → Type 0 where
  initially : OfTheGroundModel initial
  and_then : {p q : Place} → OfTheGroundModel p → (grounded : Bool) (handle : HandleStatus) → Move grounded handle p q → OfTheGroundModel q
