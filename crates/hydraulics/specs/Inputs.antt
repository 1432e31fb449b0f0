-- Request K8: runs of the joined rig from its start, refused steps among them, however the handle moves. They are for any limit of what may elapse
-- at a step; the rig that runs has the one in force.
-- Assumes nothing.
use Rattle.std.specs.Prelude.{ℕ, ◌≤◌, Bool, List, [], ◌∷◌, ◌≡◌}
use Rattle.cylinder.specs.Fractions.{fraction}
use Rattle.cylinder.specs.Moves.{fastest}
use Rattle.joined.specs.declared.Given.{Given}
use Rattle.joined.specs.declared.Given.TheVariants.{Rate}
use Rattle.joined.specs.declared.Rig.{Rig}
use Rattle.joined.specs.Answers.{Stepped}
use Rattle.joined.specs.Rigs.{step_at}

-- ---- Steps in a row

-- What a step is told: its stamp, the handle (true for down), and for each cylinder a rate or a stuck position.
pub record Input : Type 0 where
  pub stamp : ℕ
  pub down : Bool
  pub givens : List Given

abbrev pub stepped : ℕ → Rig → Input → Stepped
stepped limit rig i = step_at limit rig i.stamp i.down i.givens

-- The rig after a step, ..
abbrev pub next : ℕ → Rig → Input → Rig
next limit rig i = (stepped limit rig i).rig

-- .. and after one for each input.
unfoldable pub after : ℕ → Rig → List Input → Rig
after limit rig [] = rig
after limit rig (i ∷ is) = after limit (next limit rig i) is

-- ---- Rates

-- A cylinder is given a rate of so many parts a ms at least, and is not stuck.
pub record RateFrom (least : ℕ) (given : Given) : Type 0 where
  pub parts : ℕ
  pub at_least : least ≤ parts
  pub at_most : parts ≤ fastest
  pub is : given ≡ Rate (fraction parts)

-- Three doors and three gears, each by itself.
pub record RatesFrom (doors gears : ℕ) (givens : List Given) : Type 0 where
  pub door_front : Given
  pub door_left : Given
  pub door_right : Given
  pub gear_front : Given
  pub gear_left : Given
  pub gear_right : Given
  pub are : givens ≡ door_front ∷ door_left ∷ door_right ∷ gear_front ∷ gear_left ∷ gear_right ∷ []
  pub of_doors : RateFrom doors door_front × RateFrom doors door_left × RateFrom doors door_right
  pub of_gears : RateFrom gears gear_front × RateFrom gears gear_left × RateFrom gears gear_right

-- At each step of a run that is accepted, anew: nothing stuck, doors and gears told so many parts a ms at least. What a refused step is told
-- does not matter.
unfoldable pub ToldFrom : ℕ → ℕ → ℕ → Rig → List Input → Type 0
ToldFrom limit doors gears rig [] = Unit {0}
ToldFrom limit doors gears rig (i ∷ is) =
    ((stepped limit rig i).refusal ≡ 0 → RatesFrom doors gears i.givens) × ToldFrom limit doors gears (next limit rig i) is
