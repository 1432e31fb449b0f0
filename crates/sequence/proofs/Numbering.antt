-- Doors and gears, and their numbers (request K3): each gives the other.
-- Assumes nothing.
use Prim.Native.Nat.{ℕ, zero, suc, ◌≤◌}
use native.Mathlib.Omega.{arith}
use mathlib.Core.Path.{◌≡◌, refl}
use lib.Dec.{lit≤}
use Rattle.sequence.specs.Numbers.{doors_number, gears_number, last_number, doors_at, gears_at}
use Rattle.sequence.specs.declared.Doors.{Doors}
use Rattle.sequence.specs.declared.Doors.TheVariants.{Closed, Opening, Open, Closing}
use Rattle.sequence.specs.declared.Gears.{Gears}
use Rattle.sequence.specs.declared.Gears.TheVariants.{Retracted, Extending, Extended, Retracting}

pub doors_to_3 : (doors : Doors) → doors_number doors ≤ last_number
doors_to_3 Closed = lit≤ tt
doors_to_3 Opening = lit≤ tt
doors_to_3 Open = lit≤ tt
doors_to_3 Closing = lit≤ tt

pub gears_to_3 : (gears : Gears) → gears_number gears ≤ last_number
gears_to_3 Retracted = lit≤ tt
gears_to_3 Extending = lit≤ tt
gears_to_3 Extended = lit≤ tt
gears_to_3 Retracting = lit≤ tt

pub doors_at_number : (doors : Doors) → doors_at (doors_number doors) ≡ doors
unfolding doors_at
doors_at_number Closed = refl
doors_at_number Opening = refl
doors_at_number Open = refl
doors_at_number Closing = refl

pub gears_at_number : (gears : Gears) → gears_at (gears_number gears) ≡ gears
unfolding gears_at
gears_at_number Retracted = refl
gears_at_number Extending = refl
gears_at_number Extended = refl
gears_at_number Retracting = refl

pub number_at_doors : (n : ℕ) → n ≤ last_number → doors_number (doors_at n) ≡ n
unfolding doors_at
number_at_doors zero h = refl
number_at_doors (suc zero) h = refl
number_at_doors (suc (suc zero)) h = refl
number_at_doors (suc (suc (suc zero))) h = refl
number_at_doors (suc (suc (suc (suc n)))) h = absurd (omega arith)

pub number_at_gears : (n : ℕ) → n ≤ last_number → gears_number (gears_at n) ≡ n
unfolding gears_at
number_at_gears zero h = refl
number_at_gears (suc zero) h = refl
number_at_gears (suc (suc zero)) h = refl
number_at_gears (suc (suc (suc zero))) h = refl
number_at_gears (suc (suc (suc (suc n)))) h = absurd (omega arith)
