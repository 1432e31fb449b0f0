-- Request K7, "The rig retracts while standing on its wheels": the rule by the request's own words, and what it is for.
-- Assumes nothing.
use Rattle.std.specs.Prelude.{Bool, cond, ◌&&◌, ◌||◌, ◌≡◌, T}
use Rattle.sequence.specs.declared.Doors.TheVariants.{Opening, Open}
use Rattle.sequence.specs.declared.Gears.{Gears}
use Rattle.sequence.specs.declared.Gears.TheVariants.{Extended}
use Rattle.sequence.specs.declared.Aim.{Aim}
use Rattle.sequence.specs.declared.Place.{Place}
use Rattle.sequence.specs.declared.Seen.{Seen}
use Rattle.sequence.specs.Moves.{is_up, at_aim, doors_home, doors_to_gears, move_on}
use Rattle.sequence.specs.Places.{are_extended}
use Rattle.controller.specs.declared.State.{State}
use Rattle.controller.specs.Shows.{gears_of, retract_ev}
use Rattle.controller.specs.Samples.{Row}
use Rattle.laws.specs.Times.{next}
use Rattle.laws.specs.Laws.{ground_of}

-- ---- The rule

-- Gears are at the aim, or the sequence acts as if they were: "with the handle up, gears EXTENDED and any absorber voted on ground".
unfoldable pub as_if_at_aim : Bool → Aim → Gears → Bool
as_if_at_aim grounded aim gears = at_aim aim gears || (is_up aim && are_extended gears && grounded)

-- So the move is that of document 01 for gears at the aim, or for gears that are not.
abbrev pub ActsAsIfAtTheAim : Type 0
ActsAsIfAtTheAim =
    (grounded : Bool) (aim : Aim) (p : Place) (seen : Seen) →
    move_on grounded aim p seen ≡ cond (as_if_at_aim grounded aim p.gears) (doors_home p seen) (doors_to_gears aim p seen)

-- ---- What it is for

-- From one place to the next: gears are EXTENDED, doors do not become OPENING or OPEN.
pub record PlaceStands (p q : Place) : Type 0 where
  pub gears_stay : q.gears ≡ Extended
  pub not_opening : q.doors ≡ Opening → p.doors ≡ Opening
  pub not_open : q.doors ≡ Open → p.doors ≡ Open

-- From one state to the next: so it is, and retract_EV does not start.
pub record Stands (s later : State) : Type 0 where
  pub placed : PlaceStands s.core.place later.core.place
  pub not_started : T (retract_ev later) → T (retract_ev s)

-- So it is where gears are EXTENDED before a sample that votes some absorber on ground, whatever else it says.
abbrev pub StandsOnItsWheels : State → Type 0
StandsOnItsWheels s = (r : Row) → gears_of s ≡ Extended → T (ground_of (next s r)) → Stands s (next s r)
