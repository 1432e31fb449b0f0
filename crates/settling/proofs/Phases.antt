-- The way to the aim. After a step without a cause, doors and gears stand in one of six phases of it, and each later such step with
-- the same aim leaves them there or takes them to the next. The first is so because gears move only where doors are OPEN.
-- Assumes nothing.
use mathlib.Core.Bool.{Bool, true, false, cond}
use mathlib.Core.Path.{◌≡◌, refl}
use lib.Dec.{T}
use Rattle.sequence.specs.declared.Doors.{Doors}
use Rattle.sequence.specs.declared.Doors.TheVariants.{Closed, Opening, Open, Closing}
use Rattle.sequence.specs.declared.Gears.{Gears}
use Rattle.sequence.specs.declared.Gears.TheVariants.{Retracted, Extending, Extended, Retracting}
use Rattle.sequence.specs.declared.Aim.{Aim}
use Rattle.sequence.specs.declared.Aim.TheVariants.{ToRetracted, ToExtended}
use Rattle.sequence.specs.declared.Place.{Place}
use Rattle.sequence.specs.declared.Seen.{Seen}
use Rattle.sequence.specs.Moves.{place, at_aim, next_gears, doors_to_gears, doors_home, move_of}
use Rattle.sequence.specs.Places.{moving_have_open}
use Rattle.settling.specs.CoreRuns.{seen_at_aim}

-- Doors OPENING and OPEN with gears at the other end, gears under way and arrived, doors CLOSING and CLOSED.
pub data Phase : Type 0 where
  opening opened under_way arrived closing closed : Phase

abbrev pub doors_in : Phase → Doors
doors_in opening = Opening
doors_in opened = Open
doors_in under_way = Open
doors_in arrived = Open
doors_in closing = Closing
doors_in closed = Closed

-- Gears at the other end, on their way to the aim, and there.
abbrev other_end : Aim → Gears
other_end ToRetracted = Extended
other_end ToExtended = Retracted

abbrev on_the_way : Aim → Gears
on_the_way ToRetracted = Retracting
on_the_way ToExtended = Extending

abbrev there : Aim → Gears
there ToRetracted = Retracted
there ToExtended = Extended

abbrev gears_in : Aim → Phase → Gears
gears_in aim opening = other_end aim
gears_in aim opened = other_end aim
gears_in aim under_way = on_the_way aim
gears_in aim arrived = there aim
gears_in aim closing = there aim
gears_in aim closed = there aim

abbrev pub at : Aim → Phase → Place
at aim phase = place (doors_in phase) (gears_in aim phase)

-- The phase after a move.
abbrev pub onward : Aim → Seen → Phase → Phase
onward aim seen opening = cond seen.opened opened opening
onward aim seen opened = under_way
onward aim seen under_way = cond (seen_at_aim aim seen) arrived under_way
onward aim seen arrived = closing
onward aim seen closing = cond seen.closed closed closing
onward aim seen closed = closed

-- ---- A move goes onward

doors_once :
    (aim : Aim) (gears : Gears) (from to : Doors) (before later : Phase) →
    place from gears ≡ at aim before →
    place to gears ≡ at aim later →
    (seen : Bool) →
    place (cond seen to from) gears ≡ at aim (cond seen later before)
doors_once aim gears from to before later p q true = q
doors_once aim gears from to before later p q false = p

gears_once : (aim : Aim) (seen : Bool) → place Open (cond seen (there aim) (on_the_way aim)) ≡ at aim (cond seen arrived under_way)
gears_once aim true = refl
gears_once aim false = refl

pub moves_onward : (aim : Aim) (phase : Phase) (seen : Seen) → move_of aim (at aim phase) seen ≡ at aim (onward aim seen phase)
unfolding move_of at_aim doors_home doors_to_gears next_gears
moves_onward ToRetracted opening seen = doors_once ToRetracted Extended Opening Open opening opened refl refl seen.opened
moves_onward ToRetracted opened seen = refl
moves_onward ToRetracted under_way seen = gears_once ToRetracted seen.retracted
moves_onward ToRetracted arrived seen = refl
moves_onward ToRetracted closing seen = doors_once ToRetracted Retracted Closing Closed closing closed refl refl seen.closed
moves_onward ToRetracted closed seen = refl
moves_onward ToExtended opening seen = doors_once ToExtended Retracted Opening Open opening opened refl refl seen.opened
moves_onward ToExtended opened seen = refl
moves_onward ToExtended under_way seen = gears_once ToExtended seen.extended
moves_onward ToExtended arrived seen = refl
moves_onward ToExtended closing seen = doors_once ToExtended Extended Closing Closed closing closed refl refl seen.closed
moves_onward ToExtended closed seen = refl

-- ---- Any move lands in a phase

abbrev pub Lands : Aim → Place → Seen → Type 0
Lands aim p seen = (phase : Phase) × (move_of aim p seen ≡ at aim phase)

from_phase : (aim : Aim) (phase : Phase) (seen : Seen) → Lands aim (at aim phase) seen
from_phase aim phase seen = (onward aim seen phase, moves_onward aim phase seen)

from_open : (aim : Aim) (gears : Gears) (seen : Seen) → Lands aim (place Open gears) seen
unfolding move_of at_aim doors_to_gears next_gears
from_open ToRetracted Retracted seen = from_phase ToRetracted arrived seen
from_open ToRetracted Extending seen = (under_way, refl)
from_open ToRetracted Extended seen = from_phase ToRetracted opened seen
from_open ToRetracted Retracting seen = from_phase ToRetracted under_way seen
from_open ToExtended Retracted seen = from_phase ToExtended opened seen
from_open ToExtended Extending seen = from_phase ToExtended under_way seen
from_open ToExtended Extended seen = from_phase ToExtended arrived seen
from_open ToExtended Retracting seen = (under_way, refl)

from_any :
    (aim : Aim) (doors : Doors) (gears : Gears) (seen : Seen) →
    T (moving_have_open (place doors gears)) →
    Lands aim (place doors gears) seen
unfolding moving_have_open move_of at_aim doors_home doors_to_gears
from_any aim Open gears seen h = from_open aim gears seen
from_any aim Closed Extending seen h = absurd h
from_any aim Closed Retracting seen h = absurd h
from_any aim Opening Extending seen h = absurd h
from_any aim Opening Retracting seen h = absurd h
from_any aim Closing Extending seen h = absurd h
from_any aim Closing Retracting seen h = absurd h
from_any ToRetracted Closed Retracted seen h = from_phase ToRetracted closed seen
from_any ToRetracted Closed Extended seen h = (opening, refl)
from_any ToRetracted Opening Retracted seen h = (closing, refl)
from_any ToRetracted Opening Extended seen h = from_phase ToRetracted opening seen
from_any ToRetracted Closing Retracted seen h = from_phase ToRetracted closing seen
from_any ToRetracted Closing Extended seen h = (opening, refl)
from_any ToExtended Closed Retracted seen h = (opening, refl)
from_any ToExtended Closed Extended seen h = from_phase ToExtended closed seen
from_any ToExtended Opening Retracted seen h = from_phase ToExtended opening seen
from_any ToExtended Opening Extended seen h = (closing, refl)
from_any ToExtended Closing Retracted seen h = (opening, refl)
from_any ToExtended Closing Extended seen h = from_phase ToExtended closing seen

pub lands : (aim : Aim) (p : Place) (seen : Seen) → T (moving_have_open p) → Lands aim p seen
lands aim p seen = from_any aim p.doors p.gears seen
