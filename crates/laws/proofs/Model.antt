-- Each rule of the sequence is a move of the ground model with the CLOSING case and request K7's added, and a sensor only says whether it is
-- made. Such a move keeps doors OPEN under moving gears, and the model comes to every place that has them so.
-- Assumes nothing.
use mathlib.Core.Bool.{Bool, true, false, cond, not}
use mathlib.Core.List.{List, [], ◌∷◌}
use mathlib.Core.Path.{◌≡◌, refl, subst}
use lib.Dec.{T, T_not}
use lib.ListN.{replicate}
use Rattle.sequence.specs.declared.Doors.{Doors}
use Rattle.sequence.specs.declared.Doors.TheVariants.{Closed, Opening, Open, Closing}
use Rattle.sequence.specs.declared.Gears.{Gears}
use Rattle.sequence.specs.declared.Gears.TheVariants.{Retracted, Extending, Extended, Retracting}
use Rattle.sequence.specs.declared.Aim.{Aim}
use Rattle.sequence.specs.declared.Aim.TheVariants.{ToRetracted, ToExtended}
use Rattle.sequence.specs.declared.Place.{Place}
use Rattle.sequence.specs.declared.Seen.{Seen}
use Rattle.sequence.specs.Moves.{place, aim_of, at_aim, next_gears, doors_to_gears, doors_home, move_of, aim_in_force, move_on}
use Rattle.sequence.specs.Places.{are_moving, moving_have_open}
use Rattle.orders.specs.Timing.{is_closing}
use Rattle.laws.specs.Laws.{status_of}
use Rattle.laws.specs.GroundModel.{
  HandleStatus,
  CloseDoor,
  OutgoingSequence,
  PrintedMove,
  OnItsWheels,
  Move,
  OneMoveOrNone,
  initial,
  OfTheGroundModel,
}
use Rattle.laws.specs.GroundModel.HandleStatus.{UP, DOWN}
use Rattle.laws.specs.GroundModel.CloseDoor.{open_to_closing, closing_to_closed, opening_to_closing}
use Rattle.laws.specs.GroundModel.RetractionSequence.{
  retraction_closed,
  retraction_closing,
  retraction_opening,
  retraction_extended,
  retraction_retracting,
  retraction_extending,
  retraction_else,
}
use Rattle.laws.specs.GroundModel.OutgoingSequence.{
  outgoing_closed,
  outgoing_opening,
  outgoing_retracted,
  outgoing_extending,
  outgoing_retracting,
  outgoing_else,
}
use Rattle.laws.specs.GroundModel.PrintedMove.{retracts, outgoes}
use Rattle.laws.specs.GroundModel.Move.{printed, added_closing, added_on_ground}
use Rattle.laws.specs.GroundModel.OneMoveOrNone.{one_move, no_move}
use Rattle.laws.specs.GroundModel.OfTheGroundModel.{initially, and_then}
use Rattle.common.proofs.Tests.{so}

-- A move that waits for a sensor is made or not: doors or gears, the other staying.
once :
    {grounded : Bool} {handle : HandleStatus} {Part : Type 0} (whole : Part → Place) {from to : Part} (seen : Bool) →
    Move grounded handle (whole from) (whole to) →
    OneMoveOrNone grounded handle (whole from) (whole (cond seen to from))
once whole true move = one_move move
once whole false move = no_move

-- ---- Gears at the aim, or as if

module _ (grounded : Bool) (handle : HandleStatus) (gears : Gears)
    (close : (from to : Doors) → CloseDoor from to → Move grounded handle (place from gears) (place to gears)) where
  home : (doors : Doors) (seen : Seen) → OneMoveOrNone grounded handle (place doors gears) (doors_home (place doors gears) seen)
  unfolding doors_home
  home Closed seen = no_move
  home Opening seen = one_move (close _ _ opening_to_closing)
  home Open seen = one_move (close _ _ open_to_closing)
  home Closing seen = once (λ (doors : Doors). place doors gears) seen.closed (close _ _ closing_to_closed)

-- ---- Gears not at the aim, and how they move at OPEN

not_at : (aim : Aim) (gears to : Gears) → T (at_aim aim to) → T (not (at_aim aim gears)) → ¬ (gears ≡ to)
not_at aim gears to there away e = T_not (at_aim aim gears) away (rw e there)

-- How doors that are not OPEN leave.
record Leave (grounded : Bool) (handle : HandleStatus) (gears : Gears) : Type 0 where
  closed : Move grounded handle (place Closed gears) (place Opening gears)
  opening : Move grounded handle (place Opening gears) (place Open gears)
  closing : Move grounded handle (place Closing gears) (place Opening gears)

out :
    (grounded : Bool) (handle : HandleStatus) (aim : Aim) (gears : Gears) →
    Leave grounded handle gears →
    ((seen : Seen) → OneMoveOrNone grounded handle (place Open gears) (place Open (next_gears aim gears seen))) →
    (doors : Doors) (seen : Seen) →
    OneMoveOrNone grounded handle (place doors gears) (doors_to_gears aim (place doors gears) seen)
unfolding doors_to_gears
out grounded handle aim gears leave go Closed seen = one_move leave.closed
out grounded handle aim gears leave go Opening seen = once (λ (doors : Doors). place doors gears) seen.opened leave.opening
out grounded handle aim gears leave go Open seen = go seen
out grounded handle aim gears leave go Closing seen = one_move leave.closing

-- ---- The handle up: as printed, but for gears EXTENDED on ground

-- Gears that are not EXTENDED do not stand on their wheels.
away_from_extended : (grounded : Bool) (gears : Gears) → T (not (at_aim ToExtended gears)) → ¬ OnItsWheels grounded UP gears
unfolding at_aim
away_from_extended grounded gears h on = not_at ToExtended gears Extended tt h on.2

module _ (grounded : Bool) (gears : Gears) (free : ¬ OnItsWheels grounded UP gears) where
  leave_up : T (not (at_aim ToRetracted gears)) → Leave grounded UP gears
  unfolding at_aim
  leave_up h =
      let away = not_at ToRetracted gears Retracted tt h in
      record {
        closed = printed free (retracts (retraction_closed away));
        opening = printed free (retracts (retraction_opening away));
        closing = printed free (retracts (retraction_closing away));
      }

up :
    (grounded : Bool) (gears : Gears) →
    ¬ OnItsWheels grounded UP gears →
    (doors : Doors) (seen : Seen) →
    OneMoveOrNone grounded UP (place doors gears) (move_of ToRetracted (place doors gears) seen)
unfolding move_of at_aim next_gears
up grounded Retracted free = home grounded UP Retracted (λ from to close. printed free (retracts (retraction_else close)))
up grounded Extending free =
    out grounded UP ToRetracted Extending (leave_up grounded Extending free tt) (λ seen. one_move (printed free (retracts retraction_extending)))
up grounded Extended free =
    out grounded UP ToRetracted Extended (leave_up grounded Extended free tt) (λ seen. one_move (printed free (retracts retraction_extended)))
up grounded Retracting free =
    out grounded UP ToRetracted Retracting (leave_up grounded Retracting free tt)
    (λ seen. once (place Open) seen.retracted (printed free (retracts retraction_retracting)))

up_in_force :
    (grounded : Bool) (gears : Gears) (doors : Doors) (seen : Seen) →
    OneMoveOrNone grounded UP (place doors gears) (move_on grounded ToRetracted (place doors gears) seen)
unfolding aim_in_force move_of at_aim
up_in_force false gears = up false gears (λ on. on.0)
up_in_force true Retracted = up true Retracted (away_from_extended true Retracted tt)
up_in_force true Extending = up true Extending (away_from_extended true Extending tt)
up_in_force true Extended = home true UP Extended (λ from to close. added_on_ground close)
up_in_force true Retracting = up true Retracting (away_from_extended true Retracting tt)

-- ---- The handle down: as printed, and CLOSING is the added case

abbrev says_down : HandleStatus → Bool
says_down UP = false
says_down DOWN = true

not_up : (grounded : Bool) (gears : Gears) → ¬ OnItsWheels grounded DOWN gears
not_up grounded gears on = subst (λ (handle : HandleStatus). T (says_down handle)) on.1 tt

leave_down : (grounded : Bool) (gears : Gears) → T (not (at_aim ToExtended gears)) → Leave grounded DOWN gears
unfolding at_aim
leave_down grounded gears h =
    let away = not_at ToExtended gears Extended tt h in
    let free = not_up grounded gears in
    record {
      closed = printed free (outgoes (outgoing_closed away));
      opening = printed free (outgoes (outgoing_opening away));
      closing = added_closing away;
    }

down : (grounded : Bool) (gears : Gears) (doors : Doors) (seen : Seen) → OneMoveOrNone grounded DOWN (place doors gears) (move_of ToExtended (place doors gears) seen)
unfolding move_of at_aim next_gears
down grounded Retracted =
    out grounded DOWN ToExtended Retracted (leave_down grounded Retracted tt) (λ seen. one_move (printed (not_up grounded Retracted) (outgoes outgoing_retracted)))
down grounded Extending =
    out grounded DOWN ToExtended Extending (leave_down grounded Extending tt)
    (λ seen. once (place Open) seen.extended (printed (not_up grounded Extending) (outgoes outgoing_extending)))
down grounded Extended = home grounded DOWN Extended (λ from to close. printed (not_up grounded Extended) (outgoes (outgoing_else close)))
down grounded Retracting =
    out grounded DOWN ToExtended Retracting (leave_down grounded Retracting tt) (λ seen. one_move (printed (not_up grounded Retracting) (outgoes outgoing_retracting)))

-- ---- The sequence's rule, by ground and the voted handle

move_of_the_model : (grounded is_down : Bool) (p : Place) (seen : Seen) → OneMoveOrNone grounded (status_of is_down) p (move_on grounded (aim_of is_down) p seen)
unfolding aim_in_force
move_of_the_model true true p = down true p.gears p.doors
move_of_the_model false true p = down false p.gears p.doors
move_of_the_model grounded false p = up_in_force grounded p.gears p.doors

-- With an anomaly nothing moves.
pub unless_red :
    (red grounded is_down : Bool) (p : Place) (seen : Seen) →
    OneMoveOrNone grounded (status_of is_down) p (cond red p (move_on grounded (aim_of is_down) p seen))
unless_red true grounded is_down p seen = no_move
unless_red false grounded is_down p seen = move_of_the_model grounded is_down p seen

-- ---- Moving gears have doors OPEN

move_keeps_open : {grounded : Bool} {handle : HandleStatus} {p q : Place} → Move grounded handle p q → T (moving_have_open p) → T (moving_have_open q)
unfolding moving_have_open
move_keeps_open (printed free (retracts (retraction_closed away))) h = h
move_keeps_open (printed free (retracts (retraction_closing away))) h = h
move_keeps_open (printed free (retracts (retraction_opening {gears = gears} away))) h = so (are_moving gears) true (λ moving. tt)
move_keeps_open (printed free (retracts retraction_extended)) h = tt
move_keeps_open (printed free (retracts retraction_retracting)) h = tt
move_keeps_open (printed free (retracts retraction_extending)) h = tt
move_keeps_open (printed free (retracts (retraction_else close))) h = tt
move_keeps_open (printed free (outgoes (outgoing_closed away))) h = h
move_keeps_open (printed free (outgoes (outgoing_opening {gears = gears} away))) h = so (are_moving gears) true (λ moving. tt)
move_keeps_open (printed free (outgoes outgoing_retracted)) h = tt
move_keeps_open (printed free (outgoes outgoing_extending)) h = tt
move_keeps_open (printed free (outgoes outgoing_retracting)) h = tt
move_keeps_open (printed free (outgoes (outgoing_else close))) h = tt
move_keeps_open (added_closing away) h = h
move_keeps_open (added_on_ground close) h = tt

pub keeps_open : {grounded : Bool} {handle : HandleStatus} {p q : Place} → OneMoveOrNone grounded handle p q → T (moving_have_open p) → T (moving_have_open q)
keeps_open (one_move move) h = move_keeps_open move h
keeps_open no_move h = h

-- ---- Every such place is one of the ground model: the sequence comes there in the air, with the handle so at each move and all seen.

further : {grounded : Bool} {handle : HandleStatus} {p q : Place} → OfTheGroundModel p → OneMoveOrNone grounded handle p q → OfTheGroundModel q
further so (one_move {grounded = grounded} {handle = handle} move) = and_then so grounded handle move
further so no_move = so

-- The place after these moves, the last one first.
abbrev came_to : List Bool → Place
came_to [] = initial
came_to (is_down ∷ before) = move_on false (aim_of is_down) (came_to before) (record { opened = true; closed = true; extended = true; retracted = true })

comes : (moves : List Bool) → OfTheGroundModel (came_to moves)
comes [] = initially
comes (is_down ∷ before) = further (comes before) (move_of_the_model false is_down (came_to before) _)

pub of_the_model : (gears : Gears) (doors : Doors) → T (moving_have_open (place doors gears)) → OfTheGroundModel (place doors gears)
unfolding moving_have_open aim_in_force move_of at_aim doors_home doors_to_gears next_gears
of_the_model Extended Closed h = comes []
of_the_model Extended Opening h = comes (replicate 1 false)
of_the_model Extended Open h = comes (replicate 2 false)
of_the_model Extended Closing h = comes (true ∷ replicate 2 false)
of_the_model Retracting Open h = comes (replicate 3 false)
of_the_model Retracted Open h = comes (replicate 4 false)
of_the_model Retracted Closing h = comes (replicate 5 false)
of_the_model Retracted Closed h = comes (replicate 6 false)
of_the_model Retracted Opening h = comes (true ∷ replicate 6 false)
of_the_model Extending Open h = comes (true ∷ replicate 4 false)
of_the_model Retracting Closed h = absurd h
of_the_model Retracting Opening h = absurd h
of_the_model Retracting Closing h = absurd h
of_the_model Extending Closed h = absurd h
of_the_model Extending Opening h = absurd h
of_the_model Extending Closing h = absurd h

-- ---- As printed, without the added case, doors CLOSING leave only where gears are EXTENDED: else the rig hangs there.

only_when_extended : {p q : Place} → OutgoingSequence p q → T (is_closing p.doors) → p.gears ≡ Extended
only_when_extended (outgoing_closed away) h = absurd h
only_when_extended (outgoing_opening away) h = absurd h
only_when_extended outgoing_retracted h = absurd h
only_when_extended outgoing_extending h = absurd h
only_when_extended outgoing_retracting h = absurd h
only_when_extended (outgoing_else close) h = refl

pub as_printed_closing_has_no_move : (gears : Gears) (p : Place) → ¬ (gears ≡ Extended) → PrintedMove DOWN (place Closing gears) p → ⊥
as_printed_closing_has_no_move gears p away (outgoes move) = away (only_when_extended move tt)
