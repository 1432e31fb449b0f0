-- Demand 3: "From any reached state, with the voted handle held still, within 24,796 ms either red is latched or the doors are
-- closed and the gears stand where the handle asks, whatever the sensors say." Request K3: reached from a fresh start or a taken image.
-- Request K7: "Demand 3 for handle up now also asks that the three voted absorbers don't change during the run, and with one on ground,
-- doors CLOSED with gears EXTENDED also counts as settled."
-- Assumes nothing.
use Rattle.std.specs.Prelude.{Bool, not, ◌&&◌, ◌||◌, List, ◌∷◌, ℕ, ◌+◌, ◌≤◌, T}
use Rattle.sequence.specs.declared.Aim.{Aim}
use Rattle.sequence.specs.declared.Aim.TheVariants.{ToExtended}
use Rattle.sequence.specs.declared.Place.{Place}
use Rattle.sequence.specs.Moves.{aim_of, is_up, at_aim}
use Rattle.sequence.specs.Places.{are_closed}
use Rattle.controller.specs.declared.Core.{Core}
use Rattle.controller.specs.declared.State.{State}
use Rattle.controller.specs.Stages.{anomaly}
use Rattle.controller.specs.Samples.{Row, after}
use Rattle.laws.specs.Reached.{Reached}
use Rattle.laws.specs.Laws.{ground_of}
use Rattle.settling.specs.Runs.{Absorbers, Held, elapsed_since}

-- The doors are closed and the gears stand where the handle asks.
abbrev pub is_home : Aim → Place → Bool
is_home aim p = are_closed p.doors && at_aim aim p.gears

-- Either red is latched, or that.
unfoldable pub settled : Aim → Core → Bool
settled aim c = anomaly c || is_home aim c.place

-- It is, and it is not.
abbrev pub Settled : Aim → Core → Type 0
Settled aim c = T (settled aim c)

abbrev pub Unsettled : Aim → Core → Type 0
Unsettled aim c = T (not (settled aim c))

-- Request K7, for the handle up: "with one on ground, doors CLOSED with gears EXTENDED also counts as settled".
unfoldable pub settled_on : Bool → Aim → Core → Bool
settled_on grounded aim c = settled aim c || (grounded && is_up aim && is_home ToExtended c.place)

-- A state is settled, with the handle so (true for down).
abbrev pub is_settled : Bool → State → Bool
is_settled down s = settled_on (ground_of s) (aim_of down) s.core

-- ---- What is said of a run, by what has elapsed since its first sample and whether it is settled at its last

-- Within so many ms it is settled.
abbrev pub SettledWithin : ℕ → ℕ → Bool → Type 0
SettledWithin ms elapsed at_last = ms ≤ elapsed → T at_last

-- What is stronger: where it is not settled, elapsed and the limit are together at most so many ms.
abbrev pub UnsettledIsEarly : ℕ → ℕ → ℕ → Bool → Type 0
UnsettledIsEarly limit ms elapsed at_last = T (not at_last) → elapsed + limit ≤ ms

-- From any reached state, over every run of one sample or more with the voted handle held still, and with the handle up the absorbers.
abbrev pub OfEveryRun : (ℕ → Bool → Type 0) → Type 0
OfEveryRun Says =
    (s : State) →
    Reached s →
    (down : Bool) (these : Absorbers) (first : Row) (rest : List Row) →
    Held down these s (first ∷ rest) →
    Says (elapsed_since s (first ∷ rest)) (is_settled down (after s (first ∷ rest)))
