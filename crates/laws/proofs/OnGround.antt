-- Request K7: the rule is what the request says, and from any state EXTENDED gears stay at a sample that votes some absorber on ground: the
-- ground model with this case has no move that takes them away.
-- Assumes nothing.
use Prim.Native.Nat.{ℕ}
use mathlib.Core.Bool.{Bool, true, false, cond, not}
use mathlib.Core.List.{List}
use mathlib.Core.Path.{◌≡◌, refl, sym, subst, ◌∙◌}
use lib.Dec.{T, T_not}
use Rattle.sequence.specs.declared.Doors.{Doors}
use Rattle.sequence.specs.declared.Doors.TheVariants.{Closed, Opening, Open, Closing}
use Rattle.sequence.specs.declared.Gears.{Gears}
use Rattle.sequence.specs.declared.Gears.TheVariants.{Retracted, Extending, Extended, Retracting}
use Rattle.sequence.specs.declared.Aim.{Aim}
use Rattle.sequence.specs.declared.Aim.TheVariants.{ToRetracted, ToExtended}
use Rattle.sequence.specs.declared.Place.{Place}
use Rattle.sequence.specs.declared.Seen.{Seen}
use Rattle.sequence.specs.Moves.{place, at_aim, doors_home, doors_to_gears, move_of, aim_in_force, move_on}
use Rattle.sequence.specs.Places.{are_extended}
use Rattle.orders.specs.Timing.{all_grown, orders_of}
use Rattle.orders.proofs.Laws.{on_is_wanted}
use Rattle.controller.specs.declared.State.{State}
use Rattle.controller.specs.Stages.{accepted}
use Rattle.controller.specs.Steps.{step_of}
use Rattle.controller.specs.Shows.{gears_of, retract_ev}
use Rattle.laws.specs.GroundModel.{HandleStatus, CloseDoor, OutgoingSequence, Move, OneMoveOrNone}
use Rattle.laws.specs.GroundModel.CloseDoor.{open_to_closing, closing_to_closed, opening_to_closing}
use Rattle.laws.specs.GroundModel.OutgoingSequence.{
  outgoing_closed,
  outgoing_opening,
  outgoing_retracted,
  outgoing_extending,
  outgoing_retracting,
  outgoing_else,
}
use Rattle.laws.specs.GroundModel.PrintedMove.{retracts, outgoes}
use Rattle.laws.specs.GroundModel.Move.{printed, added_closing, added_on_ground}
use Rattle.laws.specs.GroundModel.OneMoveOrNone.{one_move, no_move}
use Rattle.laws.specs.OnGround.{as_if_at_aim, ActsAsIfAtTheAim, PlaceStands, StandsOnItsWheels}
use Rattle.laws.proofs.Stages.{stages, core_stages}
use Rattle.laws.proofs.Lifted.{step_keeps}
use Rattle.laws.proofs.Wanted.{retract_says}
use Rattle.laws.proofs.Ground.{step_follows}

-- ---- The rule by the request's words

by_gears :
    (grounded : Bool) (aim : Aim) (doors : Doors) (gears : Gears) (seen : Seen) →
    move_on grounded aim (place doors gears) seen
    ≡ cond (as_if_at_aim grounded aim gears) (doors_home (place doors gears) seen) (doors_to_gears aim (place doors gears) seen)
unfolding aim_in_force as_if_at_aim move_of at_aim
by_gears true ToRetracted doors Retracted seen = refl
by_gears true ToRetracted doors Extending seen = refl
by_gears true ToRetracted doors Extended seen = refl
by_gears true ToRetracted doors Retracting seen = refl
by_gears false ToRetracted doors Retracted seen = refl
by_gears false ToRetracted doors Extending seen = refl
by_gears false ToRetracted doors Extended seen = refl
by_gears false ToRetracted doors Retracting seen = refl
by_gears true ToExtended doors Retracted seen = refl
by_gears true ToExtended doors Extending seen = refl
by_gears true ToExtended doors Extended seen = refl
by_gears true ToExtended doors Retracting seen = refl
by_gears false ToExtended doors Retracted seen = refl
by_gears false ToExtended doors Extending seen = refl
by_gears false ToExtended doors Extended seen = refl
by_gears false ToExtended doors Retracting seen = refl

pub acts_as_if_at_the_aim : ActsAsIfAtTheAim
acts_as_if_at_the_aim grounded aim p seen = by_gears grounded aim p.doors p.gears seen

-- ---- The ground model, on ground

-- Other gears are not EXTENDED.
not_extended : (gears : Gears) → T (not (are_extended gears)) → ¬ (gears ≡ Extended)
not_extended gears other e = T_not (are_extended gears) other (rw e tt)

-- Doors CLOSED or CLOSING.
abbrev shut : Doors → Bool
shut Closed = true
shut Opening = false
shut Open = false
shut Closing = true

-- They are no others.
not_out : {doors : Doors} (to : Doors) → T (shut doors) → T (not (shut to)) → ¬ (doors ≡ to)
not_out to is_shut is_out e = T_not (shut to) is_out (subst (λ (d : Doors). T (shut d)) e is_shut)

closes_to_shut : {from to : Doors} → CloseDoor from to → T (shut to)
closes_to_shut open_to_closing = tt
closes_to_shut closing_to_closed = tt
closes_to_shut opening_to_closing = tt

close_holds : {from to : Doors} → CloseDoor from to → PlaceStands (place from Extended) (place to Extended)
close_holds close =
    let is_shut = closes_to_shut close in
    record {
      gears_stay = refl;
      not_opening = λ e. absurd (not_out Opening is_shut tt e);
      not_open = λ e. absurd (not_out Open is_shut tt e);
    }

outgoing_holds : {p q : Place} → OutgoingSequence p q → p.gears ≡ Extended → PlaceStands p q
outgoing_holds (outgoing_closed away) e = absurd (away e)
outgoing_holds (outgoing_opening away) e = absurd (away e)
outgoing_holds outgoing_retracted e = absurd (not_extended Retracted tt e)
outgoing_holds outgoing_extending e = absurd (not_extended Extending tt e)
outgoing_holds outgoing_retracting e = absurd (not_extended Retracting tt e)
outgoing_holds (outgoing_else close) e = close_holds close

-- On ground the model has no move that takes EXTENDED gears away or opens doors.
pub the_model_stands : {grounded : Bool} {handle : HandleStatus} {p q : Place} → T grounded → Move grounded handle p q → p.gears ≡ Extended → PlaceStands p q
the_model_stands on (printed free (retracts move)) e = absurd (free (on, refl, e))
the_model_stands on (printed free (outgoes move)) e = outgoing_holds move e
the_model_stands on (added_closing away) e = absurd (away e)
the_model_stands on (added_on_ground close) e = close_holds close

holds : {grounded : Bool} {handle : HandleStatus} {p q : Place} → T grounded → OneMoveOrNone grounded handle p q → p.gears ≡ Extended → PlaceStands p q
holds on (one_move move) e = the_model_stands on move e
holds on no_move e = record { gears_stay = e; not_opening = λ same. same; not_open = λ same. same }

-- ---- The controller

-- After an accepted sample retract_EV is on only with gears RETRACTING.
accepted_rests : (s : State) (stamp : ℕ) (bytes : List ℕ) → gears_of (accepted s stamp bytes) ≡ Extended → ¬ T (retract_ev (accepted s stamp bytes))
unfolding stages core_stages orders_of all_grown
accepted_rests s stamp bytes e on =
    not_extended Retracting tt (sym (retract_says _ _ (on_is_wanted _ _ _ _ on)).0 ∙ e)

rests : (s : State) (stamp : ℕ) (bytes : List ℕ) → let later = (step_of s stamp bytes).state in gears_of later ≡ Extended → T (retract_ev later) → T (retract_ev s)
rests s stamp bytes =
    step_keeps (λ (t : State). gears_of t ≡ Extended → T (retract_ev t) → T (retract_ev s)) s stamp bytes
    (λ e on. absurd (accepted_rests s stamp bytes e on))
    (λ e on. on)

pub stands_on_its_wheels : (s : State) → StandsOnItsWheels s
stands_on_its_wheels s r extended grounded =
    let placed = holds grounded (step_follows s r.0 r.1) extended in
    record { placed = placed; not_started = rests s r.0 r.1 placed.gears_stay }
