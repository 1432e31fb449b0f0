-- What the code compares is what the rule compares: doors and gears by their numbers, and the sixteen entries of a place.
-- Assumes nothing.
use Rattle.std.proofs.Common.{ℕ, ◌+◌, ◌*◌, ◌≡◌, refl, ◌&&◌}
use mathlib.Core.Bool.{or_assoc, or-false}
use denote.Enum.Bare.{sameb}
use denote.Enum.Declared.{tag_of}
use Rattle.std.specs.List.{list_any, range_with_len}
use Rattle.sequence.specs.contracts.Doors as doors_type
use Rattle.sequence.specs.contracts.Gears as gears_type
use Rattle.sequence.specs.declared.Doors.{Doors}
use Rattle.sequence.specs.declared.Doors.TheVariants.{Closed, Opening, Open, Closing}
use Rattle.sequence.specs.declared.Gears.{Gears}
use Rattle.sequence.specs.declared.Gears.TheVariants.{Retracted, Extending, Extended, Retracting}
use Rattle.sequence.specs.declared.Place.{Place}
use Rattle.sequence.specs.Numbers.{doors_number, gears_number}
use Rattle.table.specs.Table.{changed_by_ground}
use Rattle.chart.specs.Differences.{kept_of, stays, some_changed, differs}

-- ---- Doors and gears

-- `==` compares the places of two among the declared ones, which are their numbers.
doors_tag : (doors : Doors) → tag_of doors_type.the_type doors ≡ doors_number doors
doors_tag Closed = refl
doors_tag Opening = refl
doors_tag Open = refl
doors_tag Closing = refl

gears_tag : (gears : Gears) → tag_of gears_type.the_type gears ≡ gears_number gears
gears_tag Retracted = refl
gears_tag Extending = refl
gears_tag Extended = refl
gears_tag Retracting = refl

module _ (from to : Place) where
  pub same_doors : sameb doors_type.the_type from.doors to.doors ≡ (kept_of from to).doors
  unfolding kept_of
  same_doors = rw (doors_tag from.doors, doors_tag to.doors)

  pub same_gears : sameb gears_type.the_type from.gears to.gears ≡ (kept_of from to).gears
  unfolding kept_of
  same_gears = rw (gears_tag from.gears, gears_tag to.gears)

  pub same_place : (sameb doors_type.the_type from.doors to.doors && sameb gears_type.the_type from.gears to.gears) ≡ stays (kept_of from to)
  same_place = rw (same_doors, same_gears)

-- ---- The ground

pub some_differs : (k : ℕ) → list_any (λ (n : ℕ). changed_by_ground (16 * k + n)) (range_with_len 0 16) ≡ differs k
unfolding some_changed differs
some_differs k = simp (or_assoc, or-false)
