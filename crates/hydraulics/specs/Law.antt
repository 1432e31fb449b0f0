-- Request K8: "Joined to the controller from a fresh start, with nothing stuck, doors at n of 3 or more and gears at 2 or more, red never lights
-- however the handle moves."
-- Assumes nothing.
use Rattle.std.specs.Prelude.{ℕ, ◌+◌, ◌*◌, ◌≤◌, min, List, [], ◌∷◌, ◌≡◌, T, false}
use Rattle.common.specs.Lists.{Each}
use Rattle.voter.specs.declared.Voter.{Voter}
use Rattle.voter.specs.declared.Channels.TheVariants.{All}
use Rattle.orders.specs.declared.Order.{Order}
use Rattle.orders.specs.declared.Orders.{Orders}
use Rattle.controller.specs.Votes.{handle, sensor}
use Rattle.controller.specs.Shows.{red}
use Rattle.cylinder.specs.declared.Cylinder.{Cylinder}
use Rattle.cylinder.specs.Fractions.{stroke}
use Rattle.cylinder.specs.Moves.{fastest, cylinder_at}
use Rattle.joined.specs.declared.Rig.{Rig}
use Rattle.joined.specs.Rigs.{start_of}
use Rattle.hydraulics.specs.Inputs.{Input, after, ToldFrom}

-- ---- The law

-- Of the rig after every run from its start with such rates, so after each step of each. For any limit.
abbrev pub OfEveryRun : ℕ → ℕ → ℕ → (Rig → Type 0) → Type 0
OfEveryRun limit doors gears Says =
    (stamp : ℕ) (inputs : List Input) → ToldFrom limit doors gears (start_of stamp) inputs → Says (after limit (start_of stamp) inputs)

-- "Doors at n of 3 or more and gears at 2 or more."
abbrev pub slowest_doors : ℕ
slowest_doors = 3

abbrev pub slowest_gears : ℕ
slowest_gears = 2

-- Red does not light.
abbrev pub NotRed : Rig → Type 0
NotRed rig = red rig.controller ≡ false

-- ---- What is behind it

-- An order that is on with age a has moved its cylinders for a ms: where they are told `least` parts a ms at least, one that moves out has come
-- as far as these, and one that moves in too, or it is at its end.
pub record StandsBy (least : ℕ) (outward inward : Order) (c : Cylinder) : Type 0 where
  pub position : ℕ
  pub rate : ℕ
  pub is : c ≡ cylinder_at position rate
  pub at_most : position ≤ stroke
  pub shows : rate ≤ fastest
  pub moved_out : T outward.on → min stroke (least * outward.age) ≤ position
  pub moved_in : T inward.on → position + min stroke (least * inward.age) ≤ stroke

-- The doors by open_EV and close_EV, the gears by extend_EV and retract_EV.
pub record AsFarAsOrdered (doors gears : ℕ) (os : Orders) (cylinders : List Cylinder) : Type 0 where
  pub door_front : Cylinder
  pub door_left : Cylinder
  pub door_right : Cylinder
  pub gear_front : Cylinder
  pub gear_left : Cylinder
  pub gear_right : Cylinder
  pub are : cylinders ≡ door_front ∷ door_left ∷ door_right ∷ gear_front ∷ gear_left ∷ gear_right ∷ []
  pub of_doors :
      StandsBy doors os.opens os.closes door_front ×
      StandsBy doors os.opens os.closes door_left ×
      StandsBy doors os.opens os.closes door_right
  pub of_gears :
      StandsBy gears os.extends os.retracts gear_front ×
      StandsBy gears os.extends os.retracts gear_left ×
      StandsBy gears os.extends os.retracts gear_right

-- No channel of a sensor is struck.
abbrev pub AllChannels : Voter → Type 0
AllChannels v = v.channels ≡ All

-- So it is with every rig that such runs come to: the cylinders stand as far as the orders have moved them, the voted handle and its age are the
-- rig's own, and no channel is struck.
pub record InStep (doors gears : ℕ) (rig : Rig) : Type 0 where
  pub cylinders : AsFarAsOrdered doors gears rig.controller.core.orders rig.cylinders
  pub handle_is : sensor handle rig.controller.voters ≡ rig.down
  pub age_is : rig.controller.core.since ≡ rig.since
  pub channels : Each AllChannels rig.controller.voters
