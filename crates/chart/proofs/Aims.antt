-- What the page says that a handle aims at: these gears, and no others, are at its aim.
-- Assumes nothing.
use mathlib.Core.Path.{◌≡◌, refl}
use lib.Dec.{T}
use Rattle.sequence.specs.declared.Aim.{Aim}
use Rattle.sequence.specs.declared.Aim.TheVariants.{ToRetracted, ToExtended}
use Rattle.sequence.specs.declared.Gears.{Gears}
use Rattle.sequence.specs.declared.Gears.TheVariants.{Retracted, Extending, Extended, Retracting}
use Rattle.sequence.specs.Moves.{at_aim}
use Rattle.chart.specs.Headings.{aimed}

pub aimed_is_at_aim : (aim : Aim) → T (at_aim aim (aimed aim))
unfolding at_aim
aimed_is_at_aim ToRetracted = tt
aimed_is_at_aim ToExtended = tt

pub at_aim_is_aimed : (aim : Aim) (gears : Gears) → T (at_aim aim gears) → gears ≡ aimed aim
unfolding at_aim
at_aim_is_aimed ToRetracted Retracted h = refl
at_aim_is_aimed ToRetracted Extending h = absurd h
at_aim_is_aimed ToRetracted Extended h = absurd h
at_aim_is_aimed ToRetracted Retracting h = absurd h
at_aim_is_aimed ToExtended Retracted h = absurd h
at_aim_is_aimed ToExtended Extending h = absurd h
at_aim_is_aimed ToExtended Extended h = refl
at_aim_is_aimed ToExtended Retracting h = absurd h
