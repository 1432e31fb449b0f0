-- Request K8: what each of the six cylinders is told in a step. "In the joined rig the orders as they stood before a step move the cylinders
-- first (open_EV and extend_EV out, close_EV and retract_EV in, no order holds)."
-- Assumes nothing.
use Rattle.std.specs.Prelude.{ℕ, Bool, cond, not, ◌||◌, List, nat_lt, slice_index_or, Float}
use Rattle.common.specs.Answers.{Answer, gives, refuses}
use Rattle.common.specs.Lists.{some, each_from}
use Rattle.orders.specs.declared.Orders.{Orders}
use Rattle.cylinder.specs.declared.Cylinder.{Cylinder}
use Rattle.cylinder.specs.declared.Drive.{Drive}
use Rattle.cylinder.specs.declared.Drive.TheVariants.{Out, In, Hold, Stuck}
use Rattle.cylinder.specs.Fractions.{fraction}
use Rattle.cylinder.specs.Moves.{is_position, is_rate, is_sound, moved}
use Rattle.joined.specs.declared.Given.{Given}
use Rattle.joined.specs.declared.Given.TheVariants.{Rate, StuckAt}

-- ---- The six cylinders

-- By number: doors front, left, right, then gears front, left, right.
abbrev pub is_door : ℕ → Bool
is_door i = nat_lt i 3

-- The order that moves a cylinder out, and the one that moves it in, is on.
abbrev pub outward : Orders → ℕ → Bool
outward os i = cond (is_door i) os.opens.on os.extends.on

abbrev pub inward : Orders → ℕ → Bool
inward os i = cond (is_door i) os.closes.on os.retracts.on

-- ---- What one is told

-- With a rate, by these two orders. (They are never on together: a law of the controller. If they were, it would move out.)
unfoldable pub ordered : Bool → Bool → Float → Drive
ordered outward inward rate = cond outward (Out rate) (cond inward (In rate) Hold)

-- One that is stuck stands at its position, whatever the orders say.
abbrev pub drive_by : Bool → Bool → Given → Drive
drive_by outward inward (Rate rate) = ordered outward inward rate
drive_by outward inward (StuckAt position) = Stuck position

-- ---- Refusal 13

-- "13 for a rate or position that is none of those": a rate is looked at also where no order is on.
unfoldable pub is_bad : Given → Bool
is_bad (Rate rate) = not (is_rate rate)
is_bad (StuckAt position) = not (is_position position)

unfoldable pub is_unsound : Cylinder → Bool
is_unsound c = not (is_sound c)

-- Any of the six is bad, as it is given or as it is handed in.
unfoldable pub some_bad : List Given → List Cylinder → Bool
some_bad givens cylinders = some is_bad givens || some is_unsound cylinders

-- ---- All six after so many ms

-- A cylinder after its move. (A move that is refused leaves it; none is where none of the six is bad.)
abbrev pub moved_or : Cylinder → Answer Cylinder → Cylinder
moved_or c (gives later) = later
moved_or c (refuses n) = c

-- What stands past the six given ones.
unfoldable pub no_given : Given
no_given = StuckAt (fraction 0)

abbrev pub moves_at : Orders → List Given → ℕ → ℕ → Cylinder → Cylinder
moves_at os givens elapsed i c = moved_or c (moved c (drive_by (outward os i) (inward os i) (slice_index_or givens i no_given)) elapsed)

unfoldable pub six_moved : Orders → List Given → ℕ → List Cylinder → List Cylinder
six_moved os givens elapsed cylinders = each_from (moves_at os givens elapsed) 0 cylinders
