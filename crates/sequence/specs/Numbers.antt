-- Document 01, "The sample": the handle, 1 = down. Request K3: doors and gears as numbers (0 to 3: CLOSED, OPENING, OPEN, CLOSING; RETRACTED, EXTENDING, EXTENDED, RETRACTING).
-- Assumes nothing.
use Rattle.std.specs.Prelude.{ℕ, cond, eqb}
use Rattle.sequence.specs.declared.Aim.{Aim}
use Rattle.sequence.specs.declared.Aim.TheVariants.{ToRetracted, ToExtended}
use Rattle.sequence.specs.declared.Doors.{Doors}
use Rattle.sequence.specs.declared.Doors.TheVariants.{Closed, Opening, Open, Closing}
use Rattle.sequence.specs.declared.Gears.{Gears}
use Rattle.sequence.specs.declared.Gears.TheVariants.{Retracted, Extending, Extended, Retracting}

-- Handle up is 0, down is 1.
abbrev pub handle_number : Aim → ℕ
handle_number ToRetracted = 0
handle_number ToExtended = 1

abbrev pub doors_number : Doors → ℕ
doors_number Closed = 0
doors_number Opening = 1
doors_number Open = 2
doors_number Closing = 3

abbrev pub gears_number : Gears → ℕ
gears_number Retracted = 0
gears_number Extending = 1
gears_number Extended = 2
gears_number Retracting = 3

-- The largest of them.
abbrev pub last_number : ℕ
last_number = 3

-- The doors, and the gears, that have a number. (One past the last is read as the last.)
unfoldable pub doors_at : ℕ → Doors
doors_at n = cond (eqb n 0) Closed (cond (eqb n 1) Opening (cond (eqb n 2) Open Closing))

unfoldable pub gears_at : ℕ → Gears
gears_at n = cond (eqb n 0) Retracted (cond (eqb n 1) Extending (cond (eqb n 2) Extended Retracting))
