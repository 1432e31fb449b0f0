-- Doors and gears follow the ground model with the CLOSING case and request K7's added, and keep its two invariants, over every sequence.
-- Assumes nothing.
use Prim.Native.Nat.{ℕ}
use mathlib.Core.List.{List}
use mathlib.Core.Logic.◌⊎◌.{inl, inr}
use mathlib.Core.Path.{◌≡◌, refl, subst}
use lib.Dec.{T}
use Rattle.voter.specs.declared.Voter.{Voter}
use Rattle.sequence.specs.declared.Doors.{Doors}
use Rattle.sequence.specs.declared.Doors.TheVariants.{Closed, Open}
use Rattle.sequence.specs.declared.Gears.{Gears}
use Rattle.sequence.specs.declared.Gears.TheVariants.{Retracted, Extending, Extended, Retracting}
use Rattle.sequence.specs.declared.Place.{Place}
use Rattle.sequence.specs.Moves.{place}
use Rattle.sequence.specs.Places.{are_open, moving_have_open}
use Rattle.sequence.proofs.Moving.{moving_have_open_means}
use Rattle.controller.specs.declared.State.{State}
use Rattle.controller.specs.Votes.{handle, sensor, all_voted, aimed, seen_of, sight_of, on_ground}
use Rattle.controller.specs.Stages.{anomaly, ages_stage, vote_stage, monitors_stage, accepted}
use Rattle.controller.specs.Shows.{doors_of, gears_of}
use Rattle.laws.specs.Laws.{Always, handle_of, ground_of, FollowsTheGroundModel}
use Rattle.laws.specs.GroundModel.{FirstInvariant, SecondInvariant, OneMoveOrNone, OfTheGroundModel}
use Rattle.laws.specs.GroundModel.OneMoveOrNone.{one_move, no_move}
use Rattle.laws.specs.GroundModel.OfTheGroundModel.{initially, and_then}
use Rattle.laws.proofs.Stages.{stages, core_stages}
use Rattle.laws.proofs.Model.{unless_red, keeps_open, of_the_model}
use Rattle.laws.proofs.Lifted.{step_keeps}
use Rattle.laws.proofs.Safety.{moving_gears_have_doors_open}

-- The core that the sequence looks at in a step, and the votes.
abbrev watched : State → ℕ → List ℕ → State
watched s stamp bytes = monitors_stage (vote_stage bytes (ages_stage stamp s))

accepted_follows : (s : State) (stamp : ℕ) (bytes : List ℕ) → OneMoveOrNone (ground_of (accepted s stamp bytes)) (handle_of (accepted s stamp bytes)) s.core.place (accepted s stamp bytes).core.place
unfolding aimed stages core_stages
accepted_follows s stamp bytes =
    let votes : List Voter = all_voted bytes s.voters in
    unless_red (anomaly (watched s stamp bytes).core) (on_ground votes) (sensor handle votes) s.core.place (seen_of (sight_of votes))

-- From any state.
pub step_follows : (s : State) → FollowsTheGroundModel s
step_follows s stamp bytes = step_keeps (λ (t : State). OneMoveOrNone (ground_of t) (handle_of t) s.core.place t.core.place) s stamp bytes (accepted_follows s stamp bytes) no_move

pub follows_the_ground_model : Always FollowsTheGroundModel
follows_the_ground_model s reached = step_follows s

-- A place of a taken image too, where moving gears have doors OPEN.
pub every_place_is_of_the_ground_model : Always (λ (s : State). OfTheGroundModel s.core.place)
every_place_is_of_the_ground_model s reached = of_the_model (gears_of s) (doors_of s) (moving_gears_have_doors_open s reached)

-- ---- 001, Code 1: its two invariants

-- Gears that move have doors OPEN ..
first : (p : Place) → T (moving_have_open p) → FirstInvariant p
first p holds (inl extending) = moving_have_open_means p holds (rw extending tt)
first p holds (inr retracting) = moving_have_open_means p holds (rw retracting tt)

closed_is_not_open : (doors : Doors) → doors ≡ Closed → doors ≡ Open → ⊥
closed_is_not_open doors is_closed is_open = subst (λ (d : Doors). T (are_open d)) is_closed (rw is_open tt)

-- .. so doors that are CLOSED have gears at rest.
second : (doors : Doors) (gears : Gears) → FirstInvariant (place doors gears) → SecondInvariant (place doors gears)
second doors Extended holds closed = inl refl
second doors Retracted holds closed = inr refl
second doors Extending holds closed = absurd (closed_is_not_open doors closed (holds (inl refl)))
second doors Retracting holds closed = absurd (closed_is_not_open doors closed (holds (inr refl)))

-- The ground model keeps both, with the two cases added.
of_the_model_have_open : {p : Place} → OfTheGroundModel p → T (moving_have_open p)
unfolding moving_have_open
of_the_model_have_open initially = tt
of_the_model_have_open (and_then before grounded handle move) = keeps_open (one_move move) (of_the_model_have_open before)

pub the_model_keeps_its_invariants : (p : Place) → OfTheGroundModel p → FirstInvariant p × SecondInvariant p
the_model_keeps_its_invariants p of =
    let holds = first p (of_the_model_have_open of) in
    (holds, second p.doors p.gears holds)

-- So does the controller. The first invariant of 001, Code 1: "(gears = EXTENDING or gears = RETRACTING) implies doors = OPEN".
pub first_invariant : Always (λ (s : State). FirstInvariant s.core.place)
first_invariant s reached = first s.core.place (moving_gears_have_doors_open s reached)

-- The second: "doors = CLOSED implies (gears = EXTENDED or gears = RETRACTED)".
pub second_invariant : Always (λ (s : State). SecondInvariant s.core.place)
second_invariant s reached = second (doors_of s) (gears_of s) (first_invariant s reached)
