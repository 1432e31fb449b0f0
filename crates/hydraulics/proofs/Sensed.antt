-- One accepted step of the joined rig: where its cylinders stand after the move, and what the controller votes of the sensors that are read from
-- them.
-- Assumes nothing.
use Prim.Native.Nat.{ℕ, ◌≤◌}
use mathlib.Core.Bool.{Bool}
use mathlib.Core.List.{List, map}
use mathlib.Core.Path.{◌≡◌, ◌∙◌, ap, ap₂}
use lib.ListN.{length}
use Rattle.common.specs.Bits.{bit}
use Rattle.common.specs.Lists.{Each, each_from}
use Rattle.voter.specs.Voting.{fresh_with, value_of}
use Rattle.orders.specs.declared.Orders.{Orders}
use Rattle.orders.specs.Timing.{all_grown}
use Rattle.controller.specs.Votes.{handle, sensor, all_voted}
use Rattle.controller.specs.Samples.{agreeing}
use Rattle.controller.specs.Shows.{general_ev}
use Rattle.cylinder.specs.declared.Cylinder.{Cylinder}
use Rattle.cylinder.specs.Moves.{moved}
use Rattle.joined.specs.declared.Given.{Given}
use Rattle.joined.specs.declared.Rig.{Rig}
use Rattle.joined.specs.Drives.{drive_by, moved_or, six_moved}
use Rattle.joined.specs.Sensors.{sensors_of, sample_of}
use Rattle.joined.specs.Rigs.{elapsed_at, since_move, moved_at, read_at}
use Rattle.laws.specs.Laws.{OppositesNeverTogether}
use Rattle.hydraulics.specs.Inputs.{RateFrom, RatesFrom}
use Rattle.hydraulics.specs.Law.{StandsBy, AsFarAsOrdered, AllChannels}
use Rattle.hydraulics.proofs.Heard.{all_heard}
use Rattle.hydraulics.proofs.Moving.{moves_with}
use Rattle.hydraulics.proofs.Quiet.{values, sensors_are}

-- The eighteen sensors by six cylinders that stand so.
abbrev pub seen_by : {doors gears : ℕ} {os : Orders} {cs : List Cylinder} → Bool → ℕ → Bool → AsFarAsOrdered doors gears os cs → List Bool
seen_by down since pressure far =
    values down since pressure far.door_front far.door_left far.door_right far.gear_front far.gear_left far.gear_right

-- The six cylinders after the move, by the orders before it with their ages grown, and what is voted of them.
pub record Sensed (doors gears : ℕ) (rig : Rig) (stamp : ℕ) (down : Bool) (givens : List Given) : Type 0 where
  pub far : AsFarAsOrdered doors gears (all_grown (elapsed_at rig stamp) rig.controller.core.orders) (moved_at rig stamp givens)
  pub voted :
      all_voted (read_at rig stamp down givens).sample rig.controller.voters ≡
      map fresh_with (seen_by down (since_move rig stamp down) (general_ev rig.controller) far)

module _ (doors gears : ℕ) (some_doors : 1 ≤ doors) (some_gears : 1 ≤ gears) (rig : Rig) (apart : OppositesNeverTogether rig.controller)
    (far : AsFarAsOrdered doors gears rig.controller.core.orders rig.cylinders)
    (stamp : ℕ) (down : Bool) (givens : List Given) (rates : RatesFrom doors gears givens) where
  abbrev os : Orders
  os = rig.controller.core.orders

  abbrev elapsed : ℕ
  elapsed = elapsed_at rig stamp

  -- A door, and a gear, after the move.
  abbrev door : Cylinder → Given → Cylinder
  door c g = moved_or c (moved c (drive_by os.opens.on os.closes.on g) elapsed)

  abbrev gear : Cylinder → Given → Cylinder
  gear c g = moved_or c (moved c (drive_by os.extends.on os.retracts.on g) elapsed)

  door_moves : (c : Cylinder) → StandsBy doors os.opens os.closes c → (g : Given) → RateFrom doors g
      → StandsBy doors (all_grown elapsed os).opens (all_grown elapsed os).closes (door c g)
  unfolding all_grown
  door_moves = moves_with doors elapsed some_doors os.opens os.closes apart.0

  gear_moves : (c : Cylinder) → StandsBy gears os.extends os.retracts c → (g : Given) → RateFrom gears g
      → StandsBy gears (all_grown elapsed os).extends (all_grown elapsed os).retracts (gear c g)
  unfolding all_grown
  gear_moves = moves_with gears elapsed some_gears os.extends os.retracts (λ extends retracts. apart.1 retracts extends)

  -- They stand as far as the orders with their ages grown have moved them.
  abbrev far_moved : AsFarAsOrdered doors gears (all_grown elapsed os) (moved_at rig stamp givens)
  unfolding moved_at six_moved each_from
  far_moved =
      record {
        door_front = door far.door_front rates.door_front;
        door_left = door far.door_left rates.door_left;
        door_right = door far.door_right rates.door_right;
        gear_front = gear far.gear_front rates.gear_front;
        gear_left = gear far.gear_left rates.gear_left;
        gear_right = gear far.gear_right rates.gear_right;
        are = ap₂ (λ (gs : List Given) (cs : List Cylinder). six_moved os gs elapsed cs) rates.are far.are;
        of_doors = (
          door_moves far.door_front far.of_doors.0 rates.door_front rates.of_doors.0,
          door_moves far.door_left far.of_doors.1 rates.door_left rates.of_doors.1,
          door_moves far.door_right far.of_doors.2 rates.door_right rates.of_doors.2,
        );
        of_gears = (
          gear_moves far.gear_front far.of_gears.0 rates.gear_front rates.of_gears.0,
          gear_moves far.gear_left far.of_gears.1 rates.gear_left rates.of_gears.1,
          gear_moves far.gear_right far.of_gears.2 rates.gear_right rates.of_gears.2,
        );
      }

  pub sensed : length rig.controller.voters ≡ 18 → Each AllChannels rig.controller.voters → Sensed doors gears rig stamp down givens
  unfolding read_at sample_of
  sensed eighteen channels =
      let pressure : Bool = general_ev rig.controller in
      let since : ℕ = since_move rig stamp down in
      let read : List Bool = seen_by down since pressure far_moved in
      let sample : agreeing (sensors_of down since pressure (moved_at rig stamp givens)) ≡ agreeing (map bit read) =
      ap (λ (cs : List Cylinder). agreeing (sensors_of down since pressure cs)) far_moved.are ∙ ap agreeing (sensors_are down since pressure _ _ _ _ _ _) in
      record {
        far = far_moved;
        voted = ap (λ (bytes : List ℕ). all_voted bytes rig.controller.voters) sample ∙ all_heard rig.controller.voters read eighteen channels;
      }

-- The voted handle is the one that the step was told.
pub handle_is : (doors gears : ℕ) (rig : Rig) (stamp : ℕ) (down : Bool) (givens : List Given) → Sensed doors gears rig stamp down givens
    → sensor handle (all_voted (read_at rig stamp down givens).sample rig.controller.voters) ≡ down
unfolding sensor value_of fresh_with
handle_is doors gears rig stamp down givens s = ap (sensor handle) s.voted
