-- Request K8: one cylinder. "A cylinder is told to move out at a rate, move in at a rate, hold, or is stuck at a position, where it then stands
-- from that step. .. Each accepted step moves by rate times elapsed and stops at the ends, and every float handed out equals its fraction
-- exactly." Refusal 13 "for a rate or position that is none of those, minus zero among them".
-- Assumes nothing.
use Rattle.std.specs.Prelude.{◌≡◌, ℕ, ◌+◌, ◌-◌, ◌*◌, ◌≤◌, min, Bool, ◌&&◌, ◌⊎◌, Option, None, Some, is_some, Float}
use Rattle.common.specs.Answers.{Answer, gives, refuses}
use Rattle.cylinder.specs.declared.Drive.{Drive}
use Rattle.cylinder.specs.declared.Drive.TheVariants.{Out, In, Hold, Stuck}
use Rattle.cylinder.specs.declared.Cylinder.{Cylinder}
use Rattle.cylinder.specs.Fractions.{stroke, fraction, EqualsParts, parts_from}

-- ---- Which floats are taken

-- "Positions are whole 16384ths from 0 to 1."
abbrev pub position_parts : Float → Option ℕ
position_parts x = parts_from 0 stroke x

-- "Rates are n/16384 of a stroke per ms, n from 1 to 16."
abbrev pub fastest : ℕ
fastest = 16

abbrev pub rate_parts : Float → Option ℕ
rate_parts x = parts_from 1 fastest x

-- A cylinder shows the rate it was last told to move with, and 0 while it holds or is stuck.
abbrev pub shown_parts : Float → Option ℕ
shown_parts x = parts_from 0 fastest x

unfoldable pub is_position : Float → Bool
is_position x = is_some (position_parts x)

unfoldable pub is_rate : Float → Bool
is_rate x = is_some (rate_parts x)

-- A cylinder that is handed in stands at a position, and shows a rate or 0.
unfoldable pub is_sound : Cylinder → Bool
is_sound c = is_some (position_parts c.position) && is_some (shown_parts c.rate)

-- ---- One move

-- A cylinder by its parts: the floats equal their fractions.
unfoldable pub cylinder_at : ℕ → ℕ → Cylinder
cylinder_at position rate = record { position = fraction position; rate = fraction rate }

-- At so many parts, told so, after so many ms: out by rate times elapsed, and it stops at 1; ..
abbrev pub moved_out : ℕ → ℕ → Option ℕ → Answer Cylinder
moved_out k elapsed None = refuses 13
moved_out k elapsed (Some n) = gives (cylinder_at (min stroke (k + n * elapsed)) n)

-- .. in, and it stops at 0; ..
abbrev pub moved_in : ℕ → ℕ → Option ℕ → Answer Cylinder
moved_in k elapsed None = refuses 13
moved_in k elapsed (Some n) = gives (cylinder_at (k - n * elapsed) n)

-- .. or it stands at the position where it is stuck.
abbrev pub stuck_at : Option ℕ → Answer Cylinder
stuck_at None = refuses 13
stuck_at (Some p) = gives (cylinder_at p 0)

abbrev pub moved_by : Drive → ℕ → ℕ → Answer Cylinder
moved_by (Out rate) k elapsed = moved_out k elapsed (rate_parts rate)
moved_by (In rate) k elapsed = moved_in k elapsed (rate_parts rate)
moved_by Hold k elapsed = gives (cylinder_at k 0)
moved_by (Stuck position) k elapsed = stuck_at (position_parts position)

-- A cylinder that is handed in stands at a position, and shows a rate or 0; any other is refused too.
abbrev pub moved_from : Option ℕ → Option ℕ → Drive → ℕ → Answer Cylinder
moved_from None rate drive elapsed = refuses 13
moved_from (Some k) None drive elapsed = refuses 13
moved_from (Some k) (Some n) drive elapsed = moved_by drive k elapsed

unfoldable pub moved : Cylinder → Drive → ℕ → Answer Cylinder
moved c drive elapsed = moved_from (position_parts c.position) (shown_parts c.rate) drive elapsed

-- ---- Refused, and handed out

-- The cylinder that is handed in is none: its position is no position, or the rate that it shows neither a rate nor 0.
abbrev pub BadCylinder : Cylinder → Type 0
BadCylinder c = (position_parts c.position ≡ None) ⊎ (shown_parts c.rate ≡ None)

-- What it is told names a rate that is none, or a position that is none.
abbrev pub BadDrive : Drive → Type 0
BadDrive (Out rate) = rate_parts rate ≡ None
BadDrive (In rate) = rate_parts rate ≡ None
BadDrive Hold = ⊥
BadDrive (Stuck position) = position_parts position ≡ None

-- "Every float handed out equals its fraction exactly": a cylinder at so many parts, that shows so many.
pub record InParts (c : Cylinder) : Type 0 where
  pub stands_at : ℕ
  pub shows : ℕ
  pub on_stroke : stands_at ≤ stroke
  pub no_faster : shows ≤ fastest
  pub exact_position : EqualsParts c.position stands_at
  pub exact_rate : EqualsParts c.rate shows
  pub itself : c ≡ cylinder_at stands_at shows
