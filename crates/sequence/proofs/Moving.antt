-- "Moving gears have doors OPEN": the test and the sentence are the same.
-- Assumes nothing.
use mathlib.Core.Path.{◌≡◌, refl}
use lib.Dec.{T}
use Rattle.sequence.specs.declared.Doors.{Doors}
use Rattle.sequence.specs.declared.Doors.TheVariants.{Closed, Opening, Open, Closing}
use Rattle.sequence.specs.declared.Gears.{Gears}
use Rattle.sequence.specs.declared.Gears.TheVariants.{Retracted, Extending, Extended, Retracting}
use Rattle.sequence.specs.declared.Place.{Place}
use Rattle.sequence.specs.Moves.{place}
use Rattle.sequence.specs.Places.{are_open, are_moving, moving_have_open}

-- Doors that pass the test for OPEN are OPEN.
pub are_open_lem : (doors : Doors) → T (are_open doors) → doors ≡ Open
are_open_lem Open h = refl
are_open_lem Closed h = elim h [ ]
are_open_lem Opening h = elim h [ ]
are_open_lem Closing h = elim h [ ]

means : (doors : Doors) (gears : Gears) → T (moving_have_open (place doors gears)) → T (are_moving gears) → doors ≡ Open
unfolding moving_have_open
means doors Extending h m = are_open_lem doors h
means doors Retracting h m = are_open_lem doors h
means doors Retracted h m = elim m [ ]
means doors Extended h m = elim m [ ]

if : (doors : Doors) (gears : Gears) → (T (are_moving gears) → doors ≡ Open) → T (moving_have_open (place doors gears))
unfolding moving_have_open
if doors Retracted there = tt
if doors Extending there = rw (there tt) tt
if doors Extended there = tt
if doors Retracting there = rw (there tt) tt

-- Where the test holds, gears that move have doors that are OPEN ..
pub moving_have_open_means : (p : Place) → T (moving_have_open p) → T (are_moving p.gears) → p.doors ≡ Open
moving_have_open_means p = means p.doors p.gears

-- .. and where they have, the test holds.
pub moving_have_open_if : (p : Place) → (T (are_moving p.gears) → p.doors ≡ Open) → T (moving_have_open p)
moving_have_open_if p = if p.doors p.gears
