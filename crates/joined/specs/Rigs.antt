-- Request K8: the joined rig, its start and its step.
-- Assumes nothing.
use Rattle.std.specs.Prelude.{◌≡◌, ℕ, ◌≤◌, Bool, true, false, cond, List, ◌++◌, length, replicate, ◌==◌, nat_lt}
use Rattle.std.specs.Bool.{beq}
use Rattle.orders.specs.Timing.{oldest, grown_age}
use Rattle.controller.specs.declared.State.{State}
use Rattle.controller.specs.Answers.{Answer}
use Rattle.controller.specs.Start.{fresh_of}
use Rattle.controller.specs.Stages.{elapsed_of, accepted}
use Rattle.controller.specs.Steps.{limit, some_over_one, step_at as controller_step_at}
use Rattle.controller.specs.Shows.{general_ev}
use Rattle.cylinder.specs.declared.Cylinder.{Cylinder}
use Rattle.cylinder.specs.Fractions.{stroke}
use Rattle.cylinder.specs.Moves.{cylinder_at}
use Rattle.joined.specs.declared.Given.{Given}
use Rattle.joined.specs.declared.Rig.{Rig}
use Rattle.joined.specs.Answers.{Stepped}
use Rattle.joined.specs.Drives.{some_bad, six_moved}
use Rattle.joined.specs.Sensors.{sample_of}

-- ---- The start

-- "It starts with doors at 0, gears at 1, handle down and switch open": the handle has not moved for as long as is counted. The controller is
-- a fresh one, at any stamp.
unfoldable pub start_cylinders : List Cylinder
start_cylinders = replicate 3 (cylinder_at 0 0) ++ replicate 3 (cylinder_at stroke 0)

unfoldable pub start_of : ℕ → Rig
start_of stamp =
    record {
      cylinders = start_cylinders;
      down = true;
      since = oldest;
      sample = sample_of true oldest false start_cylinders;
      controller = fresh_of stamp;
    }

-- ---- One step

-- What has elapsed since the last accepted step.
abbrev pub elapsed_at : Rig → ℕ → ℕ
elapsed_at rig stamp = elapsed_of rig.controller.stamp stamp

-- The time since the handle's last move, which counts from the step of the move; it stops as ages do.
unfoldable pub since_move : Rig → ℕ → Bool → ℕ
since_move rig stamp down = cond (beq down rig.down) (grown_age (elapsed_at rig stamp) rig.since) 0

-- The orders as they stood before the step move the cylinders.
unfoldable pub moved_at : Rig → ℕ → List Given → List Cylinder
moved_at rig stamp givens = six_moved rig.controller.core.orders givens (elapsed_at rig stamp) rig.cylinders

-- The rig as the step leaves it but for its controller: moved, and its sensors read from the new positions, with the pressure by general_EV as it
-- stood before.
unfoldable pub read_at : Rig → ℕ → Bool → List Given → Rig
read_at rig stamp down givens =
    record {
      cylinders = moved_at rig stamp givens;
      down = down;
      since = since_move rig stamp down;
      sample = sample_of down (since_move rig stamp down) (general_ev rig.controller) (moved_at rig stamp givens);
      controller = rig.controller;
    }

-- Refused: nothing has moved, the handle neither.
abbrev pub kept : ℕ → Rig → Stepped
kept refusal rig = record { refusal = refusal; rig = rig }

-- With its controller after the step.
abbrev pub with_controller : State → Rig → Rig
with_controller state rig =
    record { cylinders = rig.cylinders; down = rig.down; since = rig.since; sample = rig.sample; controller = state }

-- By the controller's own answer to those sensors.
unfoldable pub answered_by : Rig → Rig → Answer → Stepped
answered_by before read answer =
    cond (answer.refusal == 0) (record { refusal = 0; rig = with_controller answer.state read }) (kept answer.refusal before)

-- "Refusals: 13 for a rate or position that is none of those, .. before 3 and 4; nothing moves then." For any limit, and for the one in force.
unfoldable pub step_at : ℕ → Rig → ℕ → Bool → List Given → Stepped
step_at limit rig stamp down givens =
    cond (some_bad givens rig.cylinders) (kept 13 rig)
    (answered_by rig (read_at rig stamp down givens) (controller_step_at limit rig.controller stamp (read_at rig stamp down givens).sample))

abbrev pub step_of : Rig → ℕ → Bool → List Given → Stepped
step_of = step_at limit

-- ---- What a step comes to

-- Its number: 13 before 3 and 4. 0 where it is accepted.
unfoldable pub refusal_at : ℕ → Rig → ℕ → List Given → ℕ
refusal_at limit rig stamp givens =
    cond (some_bad givens rig.cylinders) 13
    (cond (elapsed_at rig stamp == 0) 3
    (cond (nat_lt limit (elapsed_at rig stamp)) 4
    0))

-- The rig after an accepted step: moved, its sensors read, and taken by the controller.
unfoldable pub accepted_rig : Rig → ℕ → Bool → List Given → Rig
accepted_rig rig stamp down givens =
    with_controller (accepted rig.controller stamp (read_at rig stamp down givens).sample) (read_at rig stamp down givens)

-- What is so of an accepted step.
pub record Accepted (limit : ℕ) (rig : Rig) (stamp : ℕ) (down : Bool) (givens : List Given) : Type 0 where
  pub none_bad : some_bad givens rig.cylinders ≡ false
  pub later : 1 ≤ elapsed_at rig stamp
  pub in_time : elapsed_at rig stamp ≤ limit
  pub after : (step_at limit rig stamp down givens).rig ≡ accepted_rig rig stamp down givens

-- ---- The sensors that a rig shows

-- A sample that the controller never refuses for its form: 54 bytes, none over 1.
pub record ShowsSensors (rig : Rig) : Type 0 where
  pub whole : length rig.sample ≡ 54
  pub bits : some_over_one rig.sample ≡ false
