-- Requests K4 and K7: what comes next at each of the 64 places of ground, handle, doors and gears, the fact that makes a difference there,
-- and the places that the ground changes.
-- Assumes nothing.
use Rattle.std.specs.Prelude.{ℕ, zero, suc, ◌+◌, ◌*◌, Bool, true, false, cond, not, ◌&&◌, ◌||◌, eqb, Option, None, Some}
use Rattle.sequence.specs.declared.Aim.{Aim}
use Rattle.sequence.specs.declared.Place.{Place}
use Rattle.sequence.specs.declared.Seen.{Seen}
use Rattle.sequence.specs.Moves.{move_on}
use Rattle.sequence.specs.Numbers.{doors_number, gears_number}
use Rattle.table.specs.declared.Asked.{Asked}
use Rattle.table.specs.Table.{asked_at, changed_by_ground}
use Rattle.chart.specs.declared.differences.Fact.{Fact}
use Rattle.chart.specs.declared.differences.Fact.TheVariants.{AllOpen, AllClosed, AllExtended, AllRetracted}

-- ---- Places

-- The places by their number: ground, handle, doors, gears, the first most significant. Place k has the entries 16 k to 16 k + 15. So many
-- are in the air; as many are behind them, on ground.
abbrev pub places_in_the_air : ℕ
places_in_the_air = 32

-- What is asked at place k, with none of the facts seen.
abbrev pub stand_at : ℕ → Asked
stand_at k = asked_at (16 * k)

-- What the handle of place k aims at.
abbrev pub aim_at : ℕ → Aim
aim_at k = (stand_at k).aim

-- Doors and gears of place k.
abbrev pub place_of : ℕ → Place
place_of k = (stand_at k).place

-- Which of doors and gears stay as they were.
pub record Kept : Type 0 where
  pub doors : Bool
  pub gears : Bool

-- From one place to another.
unfoldable pub kept_of : Place → Place → Kept
kept_of from to =
    record {
      doors = eqb (doors_number from.doors) (doors_number to.doors);
      gears = eqb (gears_number from.gears) (gears_number to.gears);
    }

-- Both do.
abbrev pub stays : Kept → Bool
stays kept = kept.doors && kept.gears

-- ---- Facts

-- Which of the four facts are seen.
abbrev seen : Bool → Bool → Bool → Bool → Seen
seen opened closed extended retracted = record { opened = opened; closed = closed; extended = extended; retracted = retracted }

-- The fact that makes a difference at a place, or none.
abbrev pub Deciding : Type 0
Deciding = Option Fact

-- What is seen where a fact is seen by itself.
abbrev pub alone : Deciding → Seen
alone None = seen false false false false
alone (Some AllOpen) = seen true false false false
alone (Some AllClosed) = seen false true false false
alone (Some AllExtended) = seen false false true false
alone (Some AllRetracted) = seen false false false true

-- A fact is named: the page says `if ..` and `else`, not `always`.
abbrev pub is_named : Deciding → Bool
is_named None = false
is_named (Some fact) = true

-- What comes next of what is asked, where a fact is seen by itself.
abbrev pub next_with : Asked → Deciding → Place
next_with a fact = move_on a.grounded a.aim a.place (alone fact)

-- A fact, seen by itself, makes a difference there.
unfoldable pub decides : Asked → Deciding → Bool
decides a fact = not (stays (kept_of (next_with a fact) (next_with a None)))

-- The fact that makes a difference there.
unfoldable pub decisive : Asked → Deciding
decisive a =
    cond (decides a (Some AllOpen)) (Some AllOpen)
    (cond (decides a (Some AllClosed)) (Some AllClosed)
    (cond (decides a (Some AllExtended)) (Some AllExtended)
    (cond (decides a (Some AllRetracted)) (Some AllRetracted) None)))

-- ---- The ground

-- Of the first so many entries of place k some is another on ground than in the air.
unfoldable pub some_changed : ℕ → ℕ → Bool
some_changed k zero = false
some_changed k (suc n) = some_changed k n || changed_by_ground (16 * k + n)

-- Some of its sixteen is.
unfoldable pub differs : ℕ → Bool
differs k = some_changed k 16
